-- Each count of buckets in the test is a power of two.
use Rattle.std.proofs.Common.{arith}
use Rattle.vsd_words.proofs.Powers.{bucket_count_of_power}
use Rattle.vsd_words.proofs.tests.hashes_by_the_formulas.Goals as goal

pub bucket_of-requires-clause-buckets : goal.bucket_of-requires-clause-buckets
bucket_of-requires-clause-buckets g c = bucket_count_of_power 0 (omega arith)

pub bucket_of-requires-2-clause-buckets : goal.bucket_of-requires-2-clause-buckets
bucket_of-requires-2-clause-buckets g c = bucket_count_of_power 8 (omega arith)

pub bucket_of-requires-3-clause-buckets : goal.bucket_of-requires-3-clause-buckets
bucket_of-requires-3-clause-buckets g c = bucket_count_of_power 10 (omega arith)
