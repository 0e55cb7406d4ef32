use Rattle.std.proofs.Common.{ap}
use Rattle.vsd_rule.specs.declared.view.View.{View}
use Rattle.vsd_table.specs.Seating.{view_of}
use Rattle.vsd_trails.specs.Words.{unpacked_bucket}
use Rattle.vsd_trails.proofs.Words.{bucket_read}
use Rattle.vsd_rows.proofs.Makes.{reads, answers}
use Rattle.vsd_rows.proofs.StepsMade.{empty_bucket_made}
use Rattle.vsd_rcache.proofs.Pairs.{out_leaves}
use Rattle.vsd_rcache.proofs.buckets.purge.Goals as goal

pub returns-clause-trail : goal.returns-clause-trail
returns-clause-trail c = answers (bucket_read c.empty_bucket.result) (reads unpacked_bucket (empty_bucket_made _ _ _ _ c.empty_bucket.ensures.step))

pub returns-clause-leaves : goal.returns-clause-leaves
returns-clause-leaves c = out_leaves _ (view_of c.empty_bucket.new.self) c.empty_bucket.result (ap (λ (v : View). v.rows) c.empty_bucket.ensures.step.view)
