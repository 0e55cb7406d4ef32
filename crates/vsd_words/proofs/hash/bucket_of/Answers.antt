use Rattle.std.proofs.Common.{◌≡◌, ◌+◌, ◌*◌, ◌%◌, ◌^◌, ap, ◌∙◌}
use Rattle.vsd_words.specs.Handle.{packed_handle}
use Rattle.vsd_words.specs.Hash.{mix, bucket_of}
use Rattle.vsd_words.proofs.Powers.{mask_of_buckets}
use Rattle.vsd_words.proofs.hash.bucket_of.Goals as goal

pub returns-clause-formula : goal.returns-clause-formula
unfolding bucket_of
returns-clause-formula c =
    let mixed : c.mix.result ≡ mix (packed_handle c.args.h + 2 ^ 48 * c.args.token) = cc in
    mask_of_buckets c.mix.result c.args.buckets c.requires.buckets ∙
    ap (λ m. m % c.args.buckets) mixed
