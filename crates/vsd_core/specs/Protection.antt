-- What the rule says of a row that some caller protects.
use Rattle.std.specs.Prelude.{◌≡◌, ℕ, ◌+◌, ◌*◌, ◌<◌, List, slice_index, IfSome}
use mathlib.Core.Option.{some}
use lib.ListN.{get_elem?}
use Rattle.vsd_words.specs.Handle.{IsHandlePacking}
use Rattle.vsd_rule.specs.declared.key.Key.{Key}
use Rattle.vsd_rule.specs.declared.row_view.KnownWords.{KnownWords}
use Rattle.vsd_rule.specs.declared.row_view.ProtectedRow.{ProtectedRow}
use Rattle.vsd_rule.specs.declared.view.View.{View}
use Rattle.vsd_rule.specs.RowFacts.{IsPrivate, IsOldest}
use Rattle.vsd_rule.specs.Zones.{zones}
use Rattle.vsd_rule.specs.Rule.{Rule}

-- the row's handle, token and target are what was loaded of them
pub record AreThere (rows : List ℕ) (row : ℕ) (seen : KnownWords) : Type 0 where
  pub handle : IfSome seen.handle (λ h. IsHandlePacking h (slice_index rows (4 * row + 1)))
  pub token : IfSome seen.token (λ token. slice_index rows (4 * row + 2) ≡ token)
  pub target : IfSome seen.target (λ target. slice_index rows (4 * row + 3) ≡ target)

-- The row is claimed, so no exchange from free gives it again. Its words are those that its protector has loaded. No caller may
-- store in it: it is nobody's private row, and nobody's sweep that has passed every caller is of it.
pub record StaysGiven (k : Key) (rows : List ℕ) (views : List View) (row : ℕ) (seen : KnownWords) : Type 0 where
  pub claimed : slice_index rows (4 * row) ≡ 1
  pub there : AreThere rows row seen
  pub not_private : (seat : ℕ) (v : View) → get_elem? views seat ≡ some v → IsPrivate v row → ⊥
  pub not_freed : (seat : ℕ) (v : View) → get_elem? views seat ≡ some v → IsOldest v row → v.rows.passed ≡ k.sizes.callers → ⊥

-- so it is of each row that a pinned caller protects, wherever the rule holds
abbrev pub ProtectedRowsStay : Type 0
ProtectedRowsStay = (k : Key) (words : List ℕ) (views : List View) (seat i : ℕ) (v : View) (x : ProtectedRow)
    → Rule k words views → get_elem? views seat ≡ some v → 0 < v.rows.pinned → get_elem? v.rows.protected i ≡ some x
    → StaysGiven k (zones k.sizes words).rows views x.row x.seen
