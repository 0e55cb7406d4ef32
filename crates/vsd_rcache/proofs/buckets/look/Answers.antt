use Rattle.vsd_table.specs.Seating.{view_of}
use Rattle.vsd_trails.specs.Words.{unpacked_bucket}
use Rattle.vsd_trails.proofs.Words.{bucket_read}
use Rattle.vsd_rows.proofs.Makes.{reads, answers}
use Rattle.vsd_rows.proofs.StepsMade.{bucket_made}
use Rattle.vsd_rcache.proofs.Pairs.{named_protected}
use Rattle.vsd_rcache.proofs.buckets.look.Goals as goal

pub returns-clause-trail : goal.returns-clause-trail
returns-clause-trail c = answers (bucket_read c.bucket.result) (reads unpacked_bucket (bucket_made _ _ _ _ c.bucket.ensures.step))

pub returns-clause-protects : goal.returns-clause-protects
returns-clause-protects c = named_protected (view_of c.args.hand.now.seated) (view_of c.bucket.new.self) c.args.bucket c.bucket.result c.requires.pinned c.bucket.ensures.step.view
