use Rattle.std.proofs.Common.{ℕ, subst}
use Rattle.vsd_table.specs.Seating.{view_of}
use Rattle.vsd_trails.specs.declared.answers.Found.TheVariants.{Empty}
use Rattle.vsd_trails.specs.RowTrails.{looking}
use Rattle.vsd_trails.specs.CallTrails.{finding, finding_in}
use Rattle.vsd_rows.specs.Makes.{Makes}
use Rattle.vsd_rows.proofs.Makes.{joined, answers, makes_none}
use Rattle.vsd_rcache.proofs.Pairs.{named_seen, finds_on, bucket_finds}
use Rattle.vsd_rcache.proofs.finding.find.Goals as goal

pub find_in-requires-clause-named : goal.find_in-requires-clause-named
find_in-requires-clause-named c = named_seen (view_of c.args.hand.now.seated) _ c.bucket_for-bucket.result c.look.result c.in-Some.row c.requires.pinned c.look.ensures.step.view c.in-Some.is

pub returns-in_default-clause-trail : goal.returns-in_default-clause-trail
unfolding finding
returns-in_default-clause-trail c =
    let first = subst (λ (n : ℕ). Makes c.args.hand.now.seated c.look.new.hand.seated (looking n) c.look.result) c.bucket_for-bucket.ensures.formula c.look.ensures.trail in
    joined (finding_in c.args.token c.args.h) (answers c.in_default.is first) (makes_none _ Empty)

pub returns-in_default-clause-changes : goal.returns-in_default-clause-changes
returns-in_default-clause-changes c = bucket_finds (view_of c.args.hand.now.seated) (view_of c.look.new.hand.seated) c.bucket_for-bucket.result c.look.result c.look.ensures.step.view

pub returns-clause-trail : goal.returns-clause-trail
unfolding finding
returns-clause-trail c =
    let first = subst (λ (n : ℕ). Makes c.args.hand.now.seated c.look.new.hand.seated (looking n) c.look.result) c.bucket_for-bucket.ensures.formula c.look.ensures.trail in
    joined (finding_in c.args.token c.args.h) (answers c.in-Some.is first) c.find_in.ensures.trail

pub returns-clause-changes : goal.returns-clause-changes
returns-clause-changes c =
    finds_on (view_of c.args.hand.now.seated) (view_of c.look.new.hand.seated) (view_of c.find_in.new.hand.seated)
    (bucket_finds (view_of c.args.hand.now.seated) (view_of c.look.new.hand.seated) c.bucket_for-bucket.result c.look.result c.look.ensures.step.view) c.find_in.ensures.changes
