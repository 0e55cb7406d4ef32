use Rattle.std.proofs.Common.{◌≡◌, ◌+◌, ◌<◌, [], length, get_or, ◌∙◌, sym, inl, inr, refl, subst, arith}
use Rattle.std.proofs.lemmas.Bool.{cases_lt}
use Rattle.vsd_slots.specs.Refusals.{IsWithinLimit, slots_in}
use Rattle.vsd_interfaces.specs.Tables.{IsMap, types_of}
use Rattle.vsd_interfaces.proofs.ReadLaws.{read-at}
use Rattle.vsd_slots.proofs.SlotLaws.{total-more, total-next}
use Rattle.vsd_slots.proofs.counting.first_over.Goals as goal
use Rattle.vsd_slots.proofs.counting.first_over.Goals.{After-as_slice-in-loop-t}

listed : (c : After-as_slice-in-loop-t) → c.loop-t.t < length c.args.closed.now.types
listed c = omega (arith, c.loop-t-test.true, c.loop-t.auto.t-end, c.count-t-end.ensures.count)

map_is : (c : After-as_slice-in-loop-t) → IsMap c.args.closed.now c.loop-t.t c.as_slice-in-loop-t.result.now
map_is c =
    let t = c.loop-t.t in
    let maps = c.args.parts.now.table.maps in
    let inside : t < length maps = omega (arith, c.requires.parts.rows.maps_count, listed c) in
    let row : c.as_slice-in-loop-t.result.now ≡ get_or maps t [] = c.as_slice-in-loop-t.ensures ∙ read-at c.as_slice.result.now maps t c.index-as_slice-t.result [] inside c.index-as_slice-t.is c.as_slice.ensures in
    subst (IsMap c.args.closed.now t) (sym row) (c.requires.parts.rows.each t (listed c)).1

pub returns-in-None-clause-over : goal.returns-in-None-clause-over
returns-in-None-clause-over c = λ within.
    let s = c.args.closed.now in
    let map = c.as_slice-in-loop-t.result.now in
    let total = c.loop-t.total + slots_in s.decls.list (types_of s.types map) in
    (total, total-more s c.loop-t.t map c.loop-t.total total (map_is (goal.at.returns-in-None-clause-over c).After-as_slice-in-loop-t) c.loop-t.invariant.totalled refl, c.in-None.ensures)

pub loop-t-preserved : goal.loop-t-preserved
loop-t-preserved c =
    let s = c.args.closed.now in
    let t = c.loop-t.t in
    let map = c.as_slice-in-loop-t.result.now in
    let more = c.in-Some.more in
    let totalled = total-more s t map c.loop-t.total more (map_is (goal.at.loop-t-preserved c).After-as_slice-in-loop-t) c.loop-t.invariant.totalled c.in-Some.ensures.0 in
    let here : IsWithinLimit s t = (more, totalled, c.in-Some.ensures.1) in
    record {
      totalled = total-next s t more totalled;
      few = c.in-Some.ensures.1;
      within = λ u low. elim (cases_lt u t) [
        | inl less ↦ c.loop-t.invariant.within u less
        | inr high ↦ let same : t ≡ u = omega (arith, low, high) in subst (IsWithinLimit s) same here
      ];
    }
