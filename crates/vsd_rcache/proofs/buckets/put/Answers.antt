use Rattle.std.proofs.Common.{ℕ, ap, subst}
use Rattle.vsd_rule.specs.declared.view.View.{View}
use Rattle.vsd_rule.specs.RowSteps.{after_put_bucket}
use Rattle.vsd_table.specs.Seating.{view_of, Becomes}
use Rattle.vsd_trails.specs.Words.{unpacked_bucket}
use Rattle.vsd_trails.proofs.Words.{bucket_read}
use Rattle.vsd_rows.proofs.Makes.{reads, answers}
use Rattle.vsd_rows.proofs.StepsMade.{put_bucket_made}
use Rattle.vsd_rcache.proofs.Pairs.{out_leaves}
use Rattle.vsd_rcache.proofs.buckets.put.Goals as goal

pub returns-clause-trail : goal.returns-clause-trail
returns-clause-trail c =
    let step = subst (λ (n : ℕ). Becomes c.args.hand.now.seated c.put_bucket.new.self (after_put_bucket (view_of c.args.hand.now.seated) n c.args.row c.put_bucket.result)) c.bucket_for-bucket.ensures.formula c.put_bucket.ensures.step in
    answers (bucket_read c.put_bucket.result) (reads unpacked_bucket (put_bucket_made _ _ _ _ _ step))

pub returns-clause-leaves : goal.returns-clause-leaves
returns-clause-leaves c = out_leaves _ (view_of c.put_bucket.new.self) c.put_bucket.result (ap (λ (v : View). v.rows) c.put_bucket.ensures.step.view)
