-- Numbers of columns, of which there come to be more.
use Rattle.std.proofs.Common.{◌≡◌, ℕ, ◌<◌, ◌≤◌, inl, inr, Bool, false, true, List, [], ◌∷◌, ◌++◌, length, get_or, None, refl, sym, ap, ◌∙◌, subst, arith, get_or-set_other}
use Rattle.std.specs.List.{slice_set}
use Rattle.std.proofs.lemmas.Bool.{cases_lt, cases_order, false≢true}
use Rattle.std.proofs.lemmas.List.{get_or_append_left, get_or_past, get_or_push, length_push}
use Rattle.vsd_types.specs.TypeList.{TypeList}
use Rattle.vsd_slots.specs.Kept.{AreKept}
use Rattle.vsd_slots.specs.Missing.{AreWhole, IsFirstNone}
use Rattle.vsd_slots.specs.Ragged.{Gains}
use Rattle.vsd_slots.specs.Rows.{AreRight, IsNumber, IsRow, Keeps}
use Rattle.vsd_slots.specs.declared.entries.Entry.{Entry}
use Rattle.vsd_slots.specs.declared.kept.Kept.{Kept}

pub keeps-same : (columns : List (List Entry)) → Keeps columns columns
keeps-same columns = record { longer = omega arith; same = λ n within. refl }

pub keeps-after : (old mid new : List (List Entry)) → Keeps old mid → Keeps mid new → Keeps old new
keeps-after old mid new first second = record {
  longer = omega (arith, first.longer, second.longer);
  same = λ n within. second.same n (omega (arith, within, first.longer)) ∙ first.same n within;
}

pub keeps-more : (old new : List (List Entry)) (column : List Entry) → new ≡ old ++ column ∷ [] → Keeps old new
keeps-more old new column is = record {
  longer = omega (arith, ap length is, length_push old column);
  same = λ n within. ap (λ (l : List (List Entry)). get_or l n []) is ∙ get_or_append_left old (column ∷ []) [] n within;
}

-- what is added has the number that comes next
pub number-new : (P : List Entry → Type 0) (old new : List (List Entry)) (column : List Entry) → new ≡ old ++ column ∷ [] → P column → IsNumber P new (length old)
number-new P old new column is mine = record {
  within = omega (arith, ap length is, length_push old column);
  holds = subst P (sym (ap (λ (l : List (List Entry)). get_or l (length old) []) is ∙ get_or_push old column [] (length old) refl)) mine;
}

pub number-gained : (P : List Entry → Type 0) (old new : List (List Entry)) (n : ℕ) → Gains P old new → n ≡ length old → IsNumber P new n
number-gained P old new n gains is = subst (IsNumber P new) (sym is) (number-new P old new gains.list gains.is gains.holds)

module _ (old new : List (List Entry)) (keeps : Keeps old new) where
  pub number-kept : (P : List Entry → Type 0) (n : ℕ) → IsNumber P old n → IsNumber P new n
  number-kept P n is = record {
    within = omega (arith, is.within, keeps.longer);
    holds = subst P (sym (keeps.same n is.within)) is.holds;
  }

  pub still-whole : (whole : List Bool) → AreWhole old whole → AreWhole new whole
  still-whole whole are = λ n marked. number-kept _ n (are n marked)

  module _ (c : TypeList) where
    pub row-kept : (t : ℕ) (interfaces : List ℕ) (count : ℕ) (row : List ℕ) → IsRow c old t interfaces count row → IsRow c new t interfaces count row
    row-kept t interfaces count row is = record { long = is.long; each = λ k within. number-kept _ (get_or row k 0) (is.each k within) }

    pub right-kept : (maps rows : List (List ℕ)) → AreRight c maps old rows → AreRight c maps new rows
    right-kept maps rows right = record {
      count = right.count;
      each = λ t within full. row-kept t (get_or maps t []) (length (get_or maps t [])) (get_or rows t []) (right.each t within full);
    }

    pub still-kept : (kept : Kept) → AreKept c old kept → AreKept c new kept
    still-kept kept are = λ t i n is. number-kept _ n (are t i n is)

pub whole-none : (columns : List (List Entry)) (marks : List Bool) → marks ≡ [] → AreWhole columns marks
whole-none columns marks none = λ n marked. absurd (false≢true (sym (ap (λ (l : List Bool). get_or l n false) none) ∙ marked))

-- a mark says no less where there is room for more
pub whole-same : (columns : List (List Entry)) (old new : List Bool) → ((n : ℕ) → get_or new n false ≡ get_or old n false) → AreWhole columns old → AreWhole columns new
whole-same columns old new same are = λ n marked. are n (sym (same n) ∙ marked)

-- one more mark
pub whole-more : (columns : List (List Entry)) (old new : List Bool) (n : ℕ) → new ≡ slice_set old n true → IsNumber (λ column. IsFirstNone column None) columns n → AreWhole columns old → AreWhole columns new
whole-more columns old new n is mine are = λ k marked. elim (cases_order k n) [
  | inl same ↦ subst (IsNumber (λ column. IsFirstNone column None) columns) (sym same) mine
  | inr which ↦ (
      let differs : k ≡ n → ⊥ = λ e. elim which [ inl lt ↦ omega (arith, e, lt) | inr gt ↦ omega (arith, e, gt) ] in
      let read : get_or new k false ≡ get_or old k false = ap (λ (l : List Bool). get_or l k false) is ∙ get_or-set_other old n k true false differs in
      are k (sym read ∙ marked)
      )
]

-- room for more marks marks none
pub room-same : (old new : List Bool) (count : ℕ) → length old ≤ count → length new ≡ count
    → ((k : ℕ) (d : Bool) → k < count → k < length old → get_or new k d ≡ get_or old k d)
    → ((k : ℕ) (d : Bool) → length old ≤ k → k < count → get_or new k d ≡ false)
    → (k : ℕ) → get_or new k false ≡ get_or old k false
room-same old new count longer long same more k = elim (cases_lt k (length old)) [
  | inl low ↦ same k false (omega (arith, low, longer)) low
  | inr high ↦ elim (cases_lt k count) [
    | inl inside ↦ more k false high inside ∙ sym (get_or_past old k false high)
    | inr outside ↦ get_or_past new k false (omega (arith, long, outside)) ∙ sym (get_or_past old k false high)
  ]
]
