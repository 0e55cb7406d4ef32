-- Columns made from those above, and rows of them.
use Rattle.std.proofs.Common.{◌≡◌, ℕ, ◌+◌, ◌<◌, ◌≤◌, inl, inr, Bool, false, List, [], ◌∷◌, ◌++◌, length, take, replicate, get_or, Option, Some, None, refl, sym, ap, ◌∙◌, subst, arith}
use Rattle.std.specs.Option.{option_or}
use Rattle.std.proofs.lemmas.Bool.{cases_lt, cases_order}
use Rattle.std.proofs.lemmas.List.{get_or-replicate, get_or-take, get_or_append_left, get_or_push, length-append, length-replicate, length-take-le}
use Rattle.vsd_terms.specs.declared.term.Term.{Term}
use Rattle.vsd_types.specs.TypeList.{TypeList}
use Rattle.vsd_types.specs.Types.{base_of, type_at}
use Rattle.vsd_slots.specs.Columns.{AreEach, HasNone, IsBlank, IsColumn, IsMadeAt}
use Rattle.vsd_slots.specs.Entries.{HasNothing, IsBare, IsCombined, IsHaving, IsStep, nothing}
use Rattle.vsd_slots.specs.Ragged.{Gains, with_more}
use Rattle.vsd_slots.specs.Refusals.{method_count}
use Rattle.vsd_slots.specs.declared.entries.ClosedMethod.{ClosedMethod}
use Rattle.vsd_slots.specs.declared.entries.Entry.{Entry}
use Rattle.vsd_slots.proofs.EntryLaws.{entry-none, entry-step, step-combined}
use Rattle.vsd_slots.proofs.RaggedLaws.{gains-more}

-- one more entry
pub each-push : (made : ℕ → Entry → Entry → Type 0) (m : ℕ) (above found new : List Entry) (a e : Entry) → AreEach made m above found → new ≡ found ++ e ∷ [] → a ≡ get_or above m nothing → made m a e → AreEach made (m + 1) above new
each-push made m above found new a e before is same mine = record {
  long = ap length is ∙ length-append found (e ∷ []) ∙ ap (λ n. n + 1) before.long;
  each = λ n within. elim (cases_lt n m) [
    | inl low ↦ (
        let read : get_or new n nothing ≡ get_or found n nothing = ap (λ (l : List Entry). get_or l n nothing) is ∙ get_or_append_left found (e ∷ []) nothing n (omega (arith, before.long, low)) in
        subst (made n (get_or above n nothing)) (sym read) (before.each n low)
        )
    | inr high ↦ (
        let last : m ≡ n = omega (arith, within, high) in
        let read : get_or new m nothing ≡ e = ap (λ (l : List Entry). get_or l m nothing) is ∙ get_or_push found e nothing m before.long in
        let here : made m (get_or above m nothing) (get_or new m nothing) = subst (made m (get_or above m nothing)) (sym read) (subst (λ (x : Entry). made m x e) same mine) in
        subst (λ k. made k (get_or above k nothing) (get_or new k nothing)) last here
        )
  ];
}

pub blank-push : (m : ℕ) (found new : List Entry) → IsBlank m found → new ≡ found ++ nothing ∷ [] → IsBlank (m + 1) new
blank-push m found new before is = record {
  long = ap length is ∙ length-append found (nothing ∷ []) ∙ ap (λ n. n + 1) before.long;
  each = λ n within. elim (cases_lt n m) [
    | inl low ↦ ap (λ (l : List Entry). get_or l n nothing) is ∙ get_or_append_left found (nothing ∷ []) nothing n (omega (arith, before.long, low)) ∙ before.each n low
    | inr high ↦ (
        let last : n ≡ m = omega (arith, within, high) in
        ap (λ (l : List Entry). get_or l n nothing) is ∙ ap (λ k. get_or (found ++ nothing ∷ []) k nothing) last ∙ get_or_push found nothing nothing m before.long
        )
  ];
}

-- the last list of a run gains one more
pub each-gains : (made : ℕ → Entry → Entry → Type 0) (m : ℕ) (above : List Entry) (old mid new : List (List Entry)) (a e : Entry) → Gains (AreEach made m above) old mid → new ≡ with_more mid (e ∷ []) → made m a e → a ≡ get_or above m nothing → Gains (AreEach made (m + 1) above) old new
each-gains made m above old mid new a e gains is mine same =
    gains-more (AreEach made m above) (AreEach made (m + 1) above) old mid new (e ∷ []) gains is (λ list before. each-push made m above list (list ++ e ∷ []) a e before refl same mine)

pub each-whole : (made : ℕ → Entry → Entry → Type 0) (m : ℕ) (above : List Entry) (old new : List (List Entry)) → Gains (AreEach made m above) old new → m ≡ length above → Gains (AreEach made (length above) above) old new
each-whole made m above old new gains is = subst (λ (k : ℕ). Gains (AreEach made k above) old new) is gains

pub each-none : (made : ℕ → Entry → Entry → Type 0) (above : List Entry) → AreEach made 0 above []
each-none made above = record { long = refl; each = λ m within. absurd (omega (arith, within)) }

pub blank-all : (count : ℕ) → IsBlank count (replicate count nothing)
blank-all count = record { long = length-replicate count nothing; each = λ m within. get_or-replicate count m nothing nothing within }

-- the first of some blank entries are blank
pub blank-take : (all count : ℕ) (blank : List Entry) → IsBlank all blank → count ≤ all → IsBlank count (take count blank)
blank-take all count blank is few = record {
  long = length-take-le count blank (omega (arith, is.long, few));
  each = λ m within. get_or-take count blank m nothing within ∙ is.each m (omega (arith, within, few));
}

-- the entries before a place are changed, each as it was made, and the others are as they were
pub record AreChanged (made : ℕ → Entry → Entry → Type 0) (m : ℕ) (old new : List Entry) : Type 0 where
  pub long : length new ≡ length old
  pub done : (n : ℕ) → n < m → made n (get_or old n nothing) (get_or new n nothing)
  pub rest : (n : ℕ) → m ≤ n → get_or new n nothing ≡ get_or old n nothing

pub changed-none : (made : ℕ → Entry → Entry → Type 0) (old : List Entry) → AreChanged made 0 old old
changed-none made old = record { long = refl; done = λ n within. absurd (omega (arith, within)); rest = λ n le. refl }

pub changed-made : (made : ℕ → Entry → Entry → Type 0) (m : ℕ) (old mid new : List Entry) → AreChanged made m old mid → IsMadeAt made m mid new → AreChanged made (m + 1) old new
changed-made made m old mid new before at = record {
  long = at.long ∙ before.long;
  done = λ n within. elim (cases_order n m) [
    | inl here ↦ (
        let now : made m (get_or old m nothing) (get_or new m nothing) = subst (λ (x : Entry). made m x (get_or new m nothing)) (before.rest m (omega arith)) at.here in
        subst (λ k. made k (get_or old k nothing) (get_or new k nothing)) (sym here) now
        )
    | inr which ↦ (
        let low : n < m = elim which [ inl lt ↦ lt | inr gt ↦ absurd (omega (arith, gt, within)) ] in
        subst (made n (get_or old n nothing)) (sym (at.others n (omega (arith, low)))) (before.done n low)
        )
  ];
  rest = λ n le. at.others n (omega (arith, le)) ∙ before.rest n (omega (arith, le));
}

pub changed-all : (made : ℕ → Entry → Entry → Type 0) (m : ℕ) (old new : List Entry) → AreChanged made m old new → length old ≤ m → AreEach made (length old) old new
changed-all made m old new changed all = record { long = changed.long; each = λ n within. changed.done n (omega (arith, within, all)) }

or_none : (o : Option ClosedMethod) → o ≡ option_or o None
or_none None = refl
or_none (Some m) = refl

-- with nothing of its own and without the interface, a class has what its base has
pub passed-none : (e : Entry) → IsCombined None None false e e
passed-none e = record { implementation = or_none e.implementation; nearest = refl }

module _ (c : TypeList) (t i : ℕ) where
  abbrev Base : Option Term
  Base = base_of c.decls.list (type_at c.types t)

  pub blank-column : (count : ℕ) (column : List Entry) → Base ≡ None → count ≡ method_count c.decls.list (type_at c.types i) → IsBlank count column → IsColumn c Base i column
  blank-column count column none counted blank = record {
    long = blank.long ∙ counted;
    each = λ m within. entry-none c t i m Base (get_or column m nothing) none (blank.each m (omega (arith, within, blank.long)));
  }

  pub stepped-column : (above column : List Entry) → IsColumn c Base i above → AreEach (IsStep c t i) (length above) above column → IsColumn c (Some (type_at c.types t)) i column
  stepped-column above column over each = record {
    long = each.long ∙ over.long;
    each = λ m within.
        let inside : m < length above = omega (arith, within, each.long) in
        entry-step c t i m (get_or above m nothing) (get_or column m nothing) (over.each m inside) (each.each m inside);
  }

  -- nothing of its own for a method makes the entry from that above alone
  pub passed-step : (m : ℕ) (has : Bool) (above e : Entry) → HasNothing c t i m → IsHaving c t i has → IsCombined None None has above e → IsStep c t i m above e
  passed-step m has above e none having combined = step-combined c t i m None None has above e (sym none.overriding) (sym none.naming) having combined

  -- a class with nothing of its own makes its entries from those above alone
  pub passed-steps : (has : Bool) (above column : List Entry) → IsColumn c Base i above → HasNone c t i → IsHaving c t i has → AreEach (λ m. IsCombined None None has) (length above) above column → AreEach (IsStep c t i) (length above) above column
  passed-steps has above column over none having each = record {
    long = each.long;
    each = λ m within. passed-step m has (get_or above m nothing) (get_or column m nothing) (none m (omega (arith, within, over.long))) having (each.each m within);
  }

  pub unchanged-steps : (above : List Entry) → i < length c.types → IsColumn c Base i above → IsBare c t → IsHaving c t i false → AreEach (IsStep c t i) (length above) above above
  unchanged-steps above listed over bare having = passed-steps false above above over (λ m within. bare i m listed) having (record { long = refl; each = λ m within. passed-none (get_or above m nothing) })
