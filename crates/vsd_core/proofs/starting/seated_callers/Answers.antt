use Rattle.std.proofs.Common.{◌≡◌, ℕ, ◌+◌, suc, length, ap, sym, ◌∙◌, subst, ⊎_elim, length-append, arith, List, ◌∷◌, All}
use Rattle.std.proofs.lemmas.List.Elements.{All-push, All-same, All-tail}
use mathlib.Core.Option.{some}
use lib.ListN.{get_elem?}
use Rattle.vsd_rule.specs.Seats.{caller_of}
use Rattle.vsd_table.specs.declared.seated.Seated.{Seated}
use Rattle.vsd_table.specs.Seating.{view_of, IsNew}
use Rattle.vsd_table.proofs.Laid.{at_end}
use Rattle.vsd_core.specs.declared.caller.Caller.{Caller}
use Rattle.vsd_core.specs.Callers.{known_by, IsNewCaller}
use Rattle.vsd_core.proofs.starting.seated_callers.Goals as goal

pub push_reserved-requires : goal.push_reserved-requires
push_reserved-requires c =
    let before = c.loop-seated.invariant in
    let step = c.in-Some.ensures.steps in
    omega (arith, before.count, before.len, before.room, step.1)

pub loop-seated-preserved : goal.loop-seated-preserved
loop-seated-preserved c =
    let before = c.loop-seated.invariant in
    let step = c.in-Some.ensures.steps in
    let table = c.args.table.now in
    let items = c.push_reserved.ensures.items in
    let callers = c.loop-seated.callers.items in
    let longer : length c.push_reserved.new.self.items ≡ length callers + 1 = ap length items ∙ length-append callers (c.new.result ∷ _) in
    let seated = c.in-Some.seated in
    let first : caller_of (view_of seated).who ≡ length callers = before.numbers 0 seated (ap (λ (l : List Seated). get_elem? l 0) step.0) ∙ omega arith in
    record {
      seats = All-tail (IsNew table) seated c.next.new.self.rest.items (subst (All (IsNew table)) step.0 before.seats);
      numbers = λ i s at. before.numbers (suc i) s (ap (λ (l : List Seated). get_elem? l (suc i)) step.0 ∙ at) ∙ omega (arith, longer);
      callers = All-same (IsNewCaller table) _ _ items (All-push (IsNewCaller table) callers c.new.result before.callers c.new.ensures.caller);
      order = λ number x at. ⊎_elim
          (λ (t : get_elem? callers number ≡ some x). before.order number x t)
          (λ (t : (number ≡ length callers) × (c.new.result ≡ x)).
          subst (λ (y : Caller). caller_of (known_by y).who ≡ number) t.1 (ap (λ (s : Seated). caller_of (view_of s).who) c.new.ensures.seat ∙ (first ∙ sym t.0)))
          (at_end callers c.new.result x number (ap (λ (l : List Caller). get_elem? l number) (sym items) ∙ at));
      count = let small = before.count in omega (arith, longer, step.1);
      len = c.push_reserved.ensures.len ∙ (ap (λ (n : ℕ). n + 1) before.len ∙ sym longer);
      room = c.push_reserved.ensures.capacity ∙ before.room;
    }
