-- What classes have for the methods of interfaces, kept for the classes below them.
use Rattle.std.specs.Prelude.{◌≡◌, ℕ, List, Some, slice_get}
use Rattle.vsd_types.specs.TypeList.{TypeList}
use Rattle.vsd_slots.specs.Rows.{IsColumnOf}
use Rattle.vsd_slots.specs.declared.entries.Entry.{Entry}
use Rattle.vsd_slots.specs.declared.kept.Kept.{Kept}

-- this number is kept for the class and the interface
pub record IsKept (kept : Kept) (t i n : ℕ) : Type 0 where
  pub place : ℕ
  pub stands : slice_get kept.columns place ≡ Some (record { class = t; interface = i; number = n })

-- each number that is kept is that of the column of its class for its interface
abbrev pub AreKept : TypeList → List (List Entry) → Kept → Type 0
AreKept c columns kept = (t i n : ℕ) → IsKept kept t i n → IsColumnOf c columns t i n
