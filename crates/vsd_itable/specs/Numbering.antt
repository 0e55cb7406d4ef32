-- The methods of closed classes, numbered in the order of the classes and of their declarations.
use Rattle.std.specs.Prelude.{◌≡◌, ℕ, ◌+◌, ◌*◌, ◌<◌, ◌≤◌, All, List, length, Some, slice_get, slice_index}
use Rattle.vsd_types.specs.TypeList.{TypeList}
use Rattle.vsd_types.specs.Types.{type_at}
use Rattle.vsd_slots.specs.Refusals.{method_count}
use Rattle.vsd_slots.specs.declared.entries.ClosedMethod.{ClosedMethod}
use Rattle.vsd_itable.specs.Tables.{IsListed}

-- the first methods of a class came after those before
pub record AddsMethods (t count : ℕ) (old new : List ClosedMethod) : Type 0 where
  pub long : length new ≡ length old + count
  pub kept : (n : ℕ) → n < length old → slice_get new n ≡ slice_get old n
  pub added : (m : ℕ) → m < count → slice_get new (length old + m) ≡ Some (record { class = t; method = m })

-- the methods of the first classes, and the number of the first method of each
pub record AreNumberedTo (c : TypeList) (count : ℕ) (methods : List ClosedMethod) (starts : List ℕ) : Type 0 where
  pub starts_count : length starts ≡ count
  pub few : length methods ≤ 256 * count
  pub listed : All (IsListed c) methods
  pub each : (t m : ℕ) → t < count → m < method_count c.decls.list (type_at c.types t) → slice_get methods (slice_index starts t + m) ≡ Some (record { class = t; method = m })

abbrev pub AreNumbered : TypeList → List ClosedMethod → List ℕ → Type 0
AreNumbered c methods starts = AreNumberedTo c (length c.types) methods starts
