-- What a sweep of limbo says of it.
use Rattle.std.specs.Prelude.{◌≡◌, ℕ, ◌<◌, zero, false, List, [], ◌∷◌, Option, Some, None}
use Rattle.vsd_rule.specs.declared.key.Key.{Key}
use Rattle.vsd_rule.specs.declared.row_view.RetiredRow.{RetiredRow}
use Rattle.vsd_rule.specs.declared.view.View.{View}
use Rattle.vsd_rule.specs.RowSteps.{is_clear}
use Rattle.vsd_table.specs.declared.seated.Seated.{Seated}
use Rattle.vsd_trails.specs.declared.answers.Swept.{Swept}
use Rattle.vsd_trails.specs.declared.answers.Swept.TheVariants.{Empty, Blocked, Freed}
use Rattle.vsd_trails.specs.RowTrails.{passing}
use Rattle.vsd_rows.specs.declared.limbo.Limbo.{Limbo}
use Rattle.vsd_rows.specs.Retired.{retired_row}
use Rattle.vsd_rows.specs.Makes.{Makes, Leads}
use Rattle.vsd_rows.specs.Hands.{with_rows}

-- Nothing was in limbo. Or the epoch word of a caller blocks the oldest row, and limbo is as before. Or the oldest row left it.
abbrev pub SweptFor : Key → List Limbo → List Limbo → Swept → Type 0
SweptFor k old new Empty = (old ≡ []) × (new ≡ [])
SweptFor k old new (Blocked caller epoch) = (oldest : Limbo) × (others : List Limbo)
    × (old ≡ oldest ∷ others) × (new ≡ old) × (caller < k.sizes.callers) × (is_clear oldest.epoch epoch ≡ false)
SweptFor k old new (Freed row) = (oldest : Limbo) × (others : List Limbo)
    × (old ≡ oldest ∷ others) × (new ≡ others) × (row ≡ oldest.row)

-- it is the first in limbo, if there is one
abbrev pub HasOldest : List Limbo → Option Limbo → Type 0
HasOldest limbo None = limbo ≡ []
HasOldest limbo (Some oldest) = (others : List Limbo) × (limbo ≡ oldest ∷ others)

-- the row is the oldest in limbo
abbrev pub IsFirst : View → Limbo → Type 0
IsFirst v oldest = (others : List RetiredRow) × (v.rows.limbo ≡ retired_row oldest ∷ others)

-- nothing has changed but how far the running sweep has come
abbrev pub IsPassed : View → View → Type 0
IsPassed old new = new ≡ with_rows old new (record old.rows { passed = new.rows.passed })

-- A caller with its epoch word blocks the row. Or every caller was passed, and the rest of the sweep is to come.
abbrev pub Passing : Key → Seated → Seated → Limbo → Option (ℕ × ℕ) → Type 0
Passing k old new oldest (Some blocked) = Makes old new (passing (retired_row oldest) k.sizes.callers 0) (Blocked blocked.0 blocked.1)
    × (blocked.0 < k.sizes.callers) × (is_clear oldest.epoch blocked.1 ≡ false)
Passing k old new oldest None = Leads old (passing (retired_row oldest) k.sizes.callers 0) new (passing (retired_row oldest) zero k.sizes.callers)
