-- Tables on the way: what is selected by numbers, and the targets of some types.
use Rattle.std.specs.Prelude.{◌≡◌, ℕ, suc, ◌+◌, ◌*◌, ◌<◌, ◌^◌, IfSome, List, length, Option, Some, slice_index, slice_index_or}
use Rattle.vsd_terms.specs.declared.term.Term.{Term}
use Rattle.vsd_check.specs.Checked.{decls_of}
use Rattle.vsd_check.specs.Value.{Value as Told}
use Rattle.vsd_compat.specs.Variances.{AreVariancesOf}
use Rattle.vsd_compat.specs.declared.variances.Variances.{Variances}
use Rattle.vsd_rule.specs.Lists.{entry}
use Rattle.vsd_slots.specs.Entries.{found_of}
use Rattle.vsd_slots.specs.Slots.{AreSlotsOf}
use Rattle.vsd_slots.specs.declared.entries.ClosedMethod.{ClosedMethod}
use Rattle.vsd_slots.specs.declared.slots.Slots.{Slots}
use Rattle.vsd_types.specs.TypeList.{TypeList}
use Rattle.vsd_types.specs.Types.{type_at}
use Rattle.vsd_itable.specs.Bodies.{IsUpward}
use Rattle.vsd_itable.specs.Matching.{IsMatch}
use Rattle.vsd_itable.specs.Selection.{IsImplementedBy}
use Rattle.vsd_itable.specs.Tables.{IsListed, IsTarget}

-- the parts were made from one another
pub record BelongTogether (checked : Told) (c : TypeList) (v : Variances) (s : Slots) : Type 0 where
  pub decls : c.decls ≡ decls_of checked
  pub variances : AreVariancesOf c v
  pub slots : AreSlotsOf c s

module _ (c : TypeList) where
  -- a method that the type t declares, or one above it
  pub record IsDeclaredFrom (t : ℕ) (m : ClosedMethod) : Type 0 where
    pub listed : IsListed c m
    pub upward : IsUpward c.decls.list (type_at c.types t) (type_at c.types m.class)

  -- what implements the m-th method of the type j in the class t, by numbers
  pub record IsImplementing (t j m : ℕ) (method : Option ClosedMethod) : Type 0 where
    pub answering : Option Term
    pub matches : IsMatch c.decls.list (type_at c.types t) (type_at c.types j) answering
    pub implements : IsImplementedBy c.decls.list (type_at c.types t) m answering (found_of c.types method)
    pub upward : IfSome method (IsDeclaredFrom t)

-- the target of the class t and the k-th token
abbrev pub IsTargetAt : TypeList → List (ℕ × ℕ) → List ClosedMethod → ℕ → ℕ → ℕ → Type 0
IsTargetAt c tokens methods t k number = IsTarget c methods (type_at c.types t) (type_at c.types (slice_index_or tokens k (0, 0)).0) (slice_index_or tokens k (0, 0)).1 number

module _ (c : TypeList) (tokens : List (ℕ × ℕ)) (methods : List ClosedMethod) where
  -- the targets of the class t for the first tokens came after those before
  pub record AddsTargets (t count : ℕ) (old new : List ℕ) : Type 0 where
    pub long : length new ≡ length old + count
    pub kept : (i : ℕ) → i < length old → slice_index new i ≡ slice_index old i
    pub added : (k : ℕ) → k < count → IsTargetAt c tokens methods t k (slice_index new (length old + k))
    pub fits : ((i : ℕ) → slice_index old i < 2 ^ 32) → (i : ℕ) → slice_index new i < 2 ^ 32

  -- the targets of the first types
  pub record AreTargetsTo (count : ℕ) (entries : List ℕ) : Type 0 where
    pub long : length entries ≡ count * length tokens
    pub each : (t k : ℕ) → t < count → k < length tokens → IsTargetAt c tokens methods t k (entry entries (length tokens) t k)
    pub fits : (i : ℕ) → slice_index entries i < 2 ^ 32
