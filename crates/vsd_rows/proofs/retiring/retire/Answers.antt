use Rattle.std.proofs.Common.{◌≡◌, List, [], ◌∷◌, ◌++◌, ℕ, ◌^◌, nat_lt, sym, ap, subst, ◌∙◌, lt-ltb, le-ltb}
use Rattle.vsd_rule.specs.declared.step.Act.TheVariants.{Raise}
use Rattle.vsd_rule.specs.declared.view.View.{View}
use Rattle.vsd_rule.specs.declared.key.Key.{Key}
use Rattle.vsd_rule.specs.RowSteps.{after_raise}
use Rattle.vsd_table.specs.Seating.{view_of, key_of}
use Rattle.vsd_rows.specs.declared.limbo.Limbo.{Limbo}
use Rattle.vsd_rows.specs.Retired.{AreInTable}
use Rattle.vsd_trails.specs.Programs.{done, when◌then◌else◌}
use Rattle.vsd_trails.specs.RowTrails.{making, retiring}
use Rattle.vsd_rows.proofs.Makes.{reads, joined, when_true, when_false, makes_none}
use Rattle.vsd_rows.proofs.StepsMade.{epoch_to_retire_made, raise_made}
use Rattle.vsd_rows.proofs.Filling.{limbo_pushed, pushed_in_table}
use Rattle.vsd_rows.proofs.retiring.retire.Goals as goal

pub invariant_of-hand-clause-same_limbo : goal.invariant_of-hand-clause-same_limbo
invariant_of-hand-clause-same_limbo c =
    let hand = c.args.hand.now in
    limbo_pushed hand.limbo.items c.push.new.self.items (view_of hand.seated).rows.limbo _ c.push.ensures.items hand.same_limbo
    ∙ sym (ap (λ (v : View). v.rows.limbo) (c.raise.ensures.step.view ∙ ap (λ (v : View). after_raise v c.epoch_to_retire-epoch.result c.raise.result.1) c.epoch_to_retire-epoch.ensures.step.view))

pub invariant_of-hand-clause-limbo_in : goal.invariant_of-hand-clause-limbo_in
invariant_of-hand-clause-limbo_in c =
    let hand = c.args.hand.now in
    let key : (view_of c.raise.new.self).key ≡ key_of c.args.table.now = c.raise.ensures.seat.key in
    let x : Limbo = record { row = c.args.row; epoch = c.epoch_to_retire-epoch.result } in
    let all : AreInTable (key_of c.args.table.now) hand.limbo.items = subst (λ (k : Key). AreInTable k hand.limbo.items) c.requires.seat.key hand.limbo_in in
    subst (λ (l : List Limbo). AreInTable (view_of c.raise.new.self).key l) (sym c.push.ensures.items)
    (subst (λ (k : Key). AreInTable k (hand.limbo.items ++ x ∷ [])) (sym key) (pushed_in_table (key_of c.args.table.now) hand.limbo.items x all c.requires.row))

pub invariant_of-hand-else-epoch-clause-same_limbo : goal.invariant_of-hand-else-epoch-clause-same_limbo
invariant_of-hand-else-epoch-clause-same_limbo c =
    let hand = c.args.hand.now in
    limbo_pushed hand.limbo.items c.push.new.self.items (view_of hand.seated).rows.limbo _ c.push.ensures.items hand.same_limbo
    ∙ sym (ap (λ (v : View). v.rows.limbo) c.epoch_to_retire-epoch.ensures.step.view)

pub invariant_of-hand-else-epoch-clause-limbo_in : goal.invariant_of-hand-else-epoch-clause-limbo_in
invariant_of-hand-else-epoch-clause-limbo_in c =
    let hand = c.args.hand.now in
    let key : (view_of c.epoch_to_retire-epoch.new.self).key ≡ key_of c.args.table.now = c.epoch_to_retire-epoch.ensures.seat.key in
    let x : Limbo = record { row = c.args.row; epoch = c.epoch_to_retire-epoch.result } in
    let all : AreInTable (key_of c.args.table.now) hand.limbo.items = subst (λ (k : Key). AreInTable k hand.limbo.items) c.requires.seat.key hand.limbo_in in
    subst (λ (l : List Limbo). AreInTable (view_of c.epoch_to_retire-epoch.new.self).key l) (sym c.push.ensures.items)
    (subst (λ (k : Key). AreInTable k (hand.limbo.items ++ x ∷ [])) (sym key) (pushed_in_table (key_of c.args.table.now) hand.limbo.items x all c.requires.row))

pub returns-then-epoch-clause-trail : goal.returns-then-epoch-clause-trail
unfolding retiring
returns-then-epoch-clause-trail c =
    let epoch = c.epoch_to_retire-epoch.result in
    joined (λ (epoch : ℕ). when nat_lt epoch (2 ^ 62) then making (Raise epoch) else done tt)
    (reads (λ (word : ℕ). word) (epoch_to_retire_made _ _ _ _ c.epoch_to_retire-epoch.ensures.step))
    (when_true (nat_lt epoch (2 ^ 62)) (making (Raise epoch)) (done tt) (lt-ltb epoch (2 ^ 62) c.if-epoch.true)
    (reads (λ (word : ℕ). tt) (raise_made _ _ _ _ c.raise.ensures.step)))

pub returns-else-epoch-clause-trail : goal.returns-else-epoch-clause-trail
unfolding retiring
returns-else-epoch-clause-trail c =
    let epoch = c.epoch_to_retire-epoch.result in
    joined (λ (epoch : ℕ). when nat_lt epoch (2 ^ 62) then making (Raise epoch) else done tt)
    (reads (λ (word : ℕ). word) (epoch_to_retire_made _ _ _ _ c.epoch_to_retire-epoch.ensures.step))
    (when_false (nat_lt epoch (2 ^ 62)) (making (Raise epoch)) (done tt) (le-ltb epoch (2 ^ 62) c.if-epoch.false)
    (makes_none _ tt))
