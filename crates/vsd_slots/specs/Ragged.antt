-- Lists that stand one after another in one run.
use Rattle.std.specs.Prelude.{◌≡◌, ℕ, ◌≤◌, List, [], ◌∷◌, ◌++◌, length, slice_index_or, slice_range}
use Rattle.vsd_slots.specs.declared.entries.Entry.{Entry}

-- the lists that begin at these places of a run; each goes to where the next begins, the last to the end
abbrev pub cut : List ℕ → List Entry → List (List Entry)
cut [] entries = []
cut (start ∷ starts) entries = slice_range entries start (slice_index_or starts 0 (length entries)) ∷ cut starts entries

-- the places rise, and none is past the end
abbrev pub AreStarts : List ℕ → ℕ → Type 0
AreStarts [] end = Unit {0}
AreStarts (start ∷ starts) end = (start ≤ slice_index_or starts 0 end) × (start ≤ end) × AreStarts starts end

-- the lists, with more at the end of the last one
abbrev pub with_more : List (List Entry) → List Entry → List (List Entry)
with_more [] more = []
with_more (list ∷ []) more = (list ++ more) ∷ []
with_more (list ∷ next ∷ lists) more = list ∷ with_more (next ∷ lists) more

-- one list more, the last, of which this holds
pub record Gains (P : List Entry → Type 0) (old new : List (List Entry)) : Type 0 where
  pub list : List Entry
  pub is : new ≡ old ++ list ∷ []
  pub holds : P list
