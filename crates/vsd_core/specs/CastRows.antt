-- What the rule says of a cast row: who may write it, and what a look at it has loaded.
use Rattle.std.specs.Prelude.{◌≡◌, ℕ, ◌+◌, ◌*◌, ◌%◌, ◌<◌, ◌≤◌, List, slice_index, Option, Some, IfSome}
use mathlib.Core.Option.{some}
use lib.ListN.{get_elem?}
use Rattle.vsd_words.specs.declared.handle.Handle.{Handle}
use Rattle.vsd_words.specs.declared.cast_word.CastWord.{CastWord}
use Rattle.vsd_words.specs.Handle.{IsHandlePacking}
use Rattle.vsd_words.specs.CastWord.{IsCastPacking}
use Rattle.vsd_rule.specs.declared.key.Key.{Key}
use Rattle.vsd_rule.specs.declared.cast_view.Probe.{Probe}
use Rattle.vsd_rule.specs.declared.cast_view.Written.{Written}
use Rattle.vsd_rule.specs.declared.view.View.{View}
use Rattle.vsd_rule.specs.Layout.{cast_rows}
use Rattle.vsd_rule.specs.Casts.{version_of, write_of}
use Rattle.vsd_rule.specs.Zones.{zones}
use Rattle.vsd_rule.specs.Rule.{Rule}

-- the row's two words are what is known of them
pub record AreInRow (casts : List ℕ) (row : ℕ) (known : Option Handle) (known_word : Option CastWord) : Type 0 where
  pub source : IfSome known (λ h. IsHandlePacking h (slice_index casts (3 * row + 1)))
  pub word : IfSome known_word (λ x. IsCastPacking x (slice_index casts (3 * row + 2)))

-- the seat made the row's version odd, and may store in the row or publish it
abbrev pub Writes : List View → ℕ → ℕ → Written → Type 0
Writes views row seat w = (v : View) × (get_elem? views seat ≡ some v) × (write_of row v.casts.writes ≡ Some w)

-- The version is the odd one that the seat made of it, so that no exchange from an even one wins. What the seat stored since
-- then is in the row, and no other seat may store there.
pub record IsWriter (casts : List ℕ) (views : List View) (row seat : ℕ) (w : Written) : Type 0 where
  pub version : version_of casts row ≡ w.version
  pub odd : w.version % 2 ≡ 1
  pub stored : AreInRow casts row w.source w.word
  pub alone : (other : ℕ) (x : Written) → Writes views row other x → other ≡ seat

-- The version is the one that the look loaded first or a later one. While it is that one, and even, nobody may store in the
-- row, and its two words are what the look loaded of them.
pub record IsLook (casts : List ℕ) (views : List View) (p : Probe) : Type 0 where
  pub version : p.version ≤ version_of casts p.row
  pub loaded : p.version ≡ version_of casts p.row → p.version % 2 ≡ 0 → AreInRow casts p.row p.source p.word
  pub unwritten : p.version ≡ version_of casts p.row → p.version % 2 ≡ 0 → (seat : ℕ) (w : Written) → Writes views p.row seat w → ⊥

pub record CastRowStays (casts : List ℕ) (views : List View) (row : ℕ) : Type 0 where
  pub writer : (seat : ℕ) (w : Written) → Writes views row seat w → IsWriter casts views row seat w
  -- a row that nobody may store in has an even version
  pub unwritten : ((seat : ℕ) (w : Written) → Writes views row seat w → ⊥) → version_of casts row % 2 ≡ 0
  pub look : (seat : ℕ) (v : View) (p : Probe) → get_elem? views seat ≡ some v → v.casts.probe ≡ Some p → p.row ≡ row → IsLook casts views p

-- so it is of each cast row, wherever the rule holds
abbrev pub CastRowsStay : Type 0
CastRowsStay = (k : Key) (words : List ℕ) (views : List View) (row : ℕ) → Rule k words views → row < cast_rows k.sizes → CastRowStays (zones k.sizes words).casts views row
