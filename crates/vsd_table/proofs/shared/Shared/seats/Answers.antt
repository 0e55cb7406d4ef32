use Rattle.std.proofs.Common.{◌≡◌, ℕ, ◌+◌, length, ap, sym, ◌∙◌, subst, ⊎_elim, add-one, length-append}
use Rattle.std.proofs.lemmas.List.Elements.{All-push, All-same}
use mathlib.Core.Option.{some}
use lib.ListN.{get_elem?}
use Rattle.vsd_rule.specs.declared.view.Who.TheVariants.{Root}
use Rattle.vsd_rule.specs.Seats.{caller_of}
use Rattle.vsd_table.specs.Seating.{key_of, view_of, IsNew}
use Rattle.vsd_table.specs.declared.seated.Seated.{Seated}
use Rattle.vsd_table.proofs.Laid.{at_end}
use Rattle.vsd_table.proofs.shared.Shared.seats.Goals as goal

pub loop-caller-preserved : goal.loop-caller-preserved
loop-caller-preserved c =
    let before = c.loop-caller.invariant in
    let after = c.next_seat.ensures in
    let key = key_of c.args.self.now in
    let items = c.push_reserved.ensures.items in
    record {
      root = after.root ∙ ap Root (sym (add-one c.loop-caller.caller));
      key = after.key ∙ before.key;
      table = after.table ∙ before.table;
      count = c.push_reserved.ensures.len ∙ ap (λ (n : ℕ). n + 1) before.count;
      listed = ap length items ∙ (simp length-append (ap (λ (n : ℕ). n + 1) before.listed));
      room = c.push_reserved.ensures.capacity ∙ before.room;
      seats = All-same (IsNew c.args.self.now) _ _ items (All-push (IsNew c.args.self.now) c.loop-caller.seats.items c.next_seat.result before.seats after.seat);
      numbers = λ caller s at. ⊎_elim
          (λ (t : get_elem? c.loop-caller.seats.items caller ≡ some s). before.numbers caller s t)
          (λ (t : (caller ≡ length c.loop-caller.seats.items) × (c.next_seat.result ≡ s)).
          subst (λ (x : Seated). caller_of (view_of x).who ≡ caller) t.1 (after.number ∙ sym (t.0 ∙ before.listed)))
          (at_end c.loop-caller.seats.items c.next_seat.result s caller (ap (λ (l : _). get_elem? l caller) (sym items) ∙ at));
    }
