use Rattle.std.proofs.Common.{◌≡◌, ◌+◌, ◌<◌, ℕ, List, inl, inr, false, true, None, length, get_or, refl, sym, ◌∙◌, subst, arith}
use Rattle.std.proofs.lemmas.Bool.{cases_lt}
use Rattle.std.proofs.lemmas.List.{get_or_default, length-set}
use Rattle.vsd_slots.specs.Missing.{IsFirstNone}
use Rattle.vsd_slots.specs.Rows.{IsNumber, column_of}
use Rattle.vsd_slots.specs.declared.entries.Entry.{Entry}
use Rattle.vsd_slots.proofs.NumberLaws.{whole-more}
use Rattle.vsd_slots.proofs.missing.first_missing.Goals as goal

-- one more column lacks nothing
before_more : (columns : List (List Entry)) (row : List ℕ) (place : ℕ) → ((k : ℕ) → k < place → IsFirstNone (column_of columns row k) None)
    → IsFirstNone (column_of columns row place) None → (k : ℕ) → k < place + 1 → IsFirstNone (column_of columns row k) None
before_more columns row place before here k within = elim (cases_lt k place) [
  | inl low ↦ before k low
  | inr high ↦ let same : place ≡ k = omega (arith, within, high) in subst (λ (j : ℕ). IsFirstNone (column_of columns row j) None) same here
]

pub loop-place-preserved-then-index : goal.loop-place-preserved-then-index
loop-place-preserved-then-index c =
    let columns = c.args.columns.now in
    let row = c.args.row.now in
    let place = c.loop-place.place in
    let n = get_or row place 0 in
    let marks = c.loop-place.whole.items in
    let inside : n < length marks = omega (arith, (c.requires.short place c.loop-place-test.true).within, c.loop-place.invariant.room) in
    let marked : get_or marks n false ≡ true = get_or_default marks n false c.index.result.now inside ∙ sym c.index.ensures ∙ c.if-index.true in
    record {
      before = before_more columns row place c.loop-place.invariant.before (c.loop-place.invariant.whole n marked).holds;
      whole = c.loop-place.invariant.whole;
      room = c.loop-place.invariant.room;
    }

pub loop-place-preserved : goal.loop-place-preserved
loop-place-preserved c =
    let columns = c.args.columns.now in
    let row = c.args.row.now in
    let place = c.loop-place.place in
    let n = get_or row place 0 in
    let marks = c.loop-place.whole.items in
    let here : IsFirstNone (column_of columns row place) None = subst (λ (column : List Entry). IsFirstNone column None) c.list.ensures c.in-None.ensures in
    let number : IsNumber (λ column. IsFirstNone column None) columns n = record { within = (c.requires.short place c.loop-place-test.true).within; holds = here } in
    record {
      before = before_more columns row place c.loop-place.invariant.before here;
      whole = whole-more columns marks _ n refl number c.loop-place.invariant.whole;
      room = omega (arith, c.loop-place.invariant.room, length-set marks n true);
    }
