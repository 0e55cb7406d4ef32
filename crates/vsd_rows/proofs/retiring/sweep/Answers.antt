use Rattle.std.proofs.Common.{◌<◌, List, map, sym, ap, subst, ◌∙◌}
use Rattle.vsd_rule.specs.declared.key.Key.{Key}
use Rattle.vsd_rule.specs.declared.view.View.{View}
use Rattle.vsd_rule.specs.RowSteps.{without_oldest}
use Rattle.vsd_table.specs.Seating.{view_of}
use Rattle.vsd_rows.specs.declared.limbo.Limbo.{Limbo}
use Rattle.vsd_rows.specs.Retired.{retired_row, AreInTable}
use Rattle.vsd_rows.proofs.Sweeping.{sweeps_nothing, sweeps_first, frees_first, queue_of, first_removed, others_in_table, first_in_table, sweeps_freed}
use Rattle.vsd_rows.proofs.retiring.sweep.Goals as goal

pub returns-in_default-clause-trail : goal.returns-in_default-clause-trail
returns-in_default-clause-trail c =
    let hand = c.args.hand.now in
    sweeps_nothing _ _ (sym hand.same_limbo ∙ ap (map retired_row) c.in_default.ensures)

pub returns-in-Some-blocker-clause-trail : goal.returns-in-Some-blocker-clause-trail
returns-in-Some-blocker-clause-trail c =
    let hand = c.args.hand.now in
    let first = c.in-Some.ensures in
    sweeps_first _ _ _ (retired_row c.in-Some.oldest) (map retired_row first.0) _ (queue_of hand.limbo.items c.in-Some.oldest first.0 _ hand.same_limbo first.1) c.in-Some-blocker.ensures.leads.0

pub free_swept-requires-clause-row : goal.free_swept-requires-clause-row
free_swept-requires-clause-row c =
    let hand = c.args.hand.now in
    let first = c.in-Some.ensures in
    subst (λ (k : Key). c.in-Some.oldest.row < k.sizes.rows) c.requires.seat.key (first_in_table (view_of hand.seated).key hand.limbo.items c.in-Some.oldest first.0 first.1 hand.limbo_in)

pub free_swept-requires-clause-oldest : goal.free_swept-requires-clause-oldest
free_swept-requires-clause-oldest c =
    let hand = c.args.hand.now in
    let first = c.in-Some.ensures in
    record {
      epoch = c.in-Some.oldest.epoch;
      others = map retired_row first.0;
      queue = ap (λ (v : View). v.rows.limbo) c.blocker.ensures.changes ∙ queue_of hand.limbo.items c.in-Some.oldest first.0 _ hand.same_limbo first.1;
    }

pub invariant_of-hand-2-clause-same_limbo : goal.invariant_of-hand-2-clause-same_limbo
invariant_of-hand-2-clause-same_limbo c =
    let hand = c.args.hand.now in
    let first = c.in-Some.ensures in
    let queue = ap (λ (v : View). v.rows.limbo) c.blocker.ensures.changes ∙ queue_of hand.limbo.items c.in-Some.oldest first.0 _ hand.same_limbo first.1 in
    ap (map retired_row) (c.remove.ensures.items ∙ first_removed hand.limbo.items c.in-Some.oldest first.0 first.1)
    ∙ sym (ap (λ (v : View). v.rows.limbo) c.free_swept.ensures.step.view ∙ ap without_oldest queue)

pub invariant_of-hand-2-clause-limbo_in : goal.invariant_of-hand-2-clause-limbo_in
invariant_of-hand-2-clause-limbo_in c =
    let hand = c.args.hand.now in
    let first = c.in-Some.ensures in
    let here = others_in_table (view_of hand.seated).key hand.limbo.items c.in-Some.oldest first.0 first.1 hand.limbo_in in
    subst (λ (l : List Limbo). AreInTable (view_of c.free_swept.new.self).key l) (sym (c.remove.ensures.items ∙ first_removed hand.limbo.items c.in-Some.oldest first.0 first.1))
    (subst (λ (k : Key). AreInTable k first.0) (c.requires.seat.key ∙ sym c.free_swept.ensures.seat.key) here)

pub returns-clause-trail : goal.returns-clause-trail
returns-clause-trail c =
    let hand = c.args.hand.now in
    let first = c.in-Some.ensures in
    let x = retired_row c.in-Some.oldest in
    sweeps_first _ _ _ x (map retired_row first.0) _ (queue_of hand.limbo.items c.in-Some.oldest first.0 _ hand.same_limbo first.1)
    (c.in_default-blocker.ensures.leads _ _ (frees_first x _ _ _ c.free_swept.ensures.step))

pub returns-clause-changes : goal.returns-clause-changes
returns-clause-changes c = sweeps_freed (view_of c.args.hand.now.seated) (view_of c.blocker.new.seated) (view_of c.free_swept.new.self) c.in-Some.oldest.row c.blocker.ensures.changes c.free_swept.ensures.step.view
