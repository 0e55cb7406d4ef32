-- Which classes leave a method of an interface without implementation, and how many slots classes have (ECMA-335, II.12.2).
use Rattle.std.specs.Prelude.{◌≡◌, ℕ, zero, suc, ◌+◌, ◌<◌, ◌≤◌, ◌⊎◌, Bool, true, false, not, ◌&&◌, List, map, sum, length, Option, Some, None, slice_get}
use Rattle.vsd_terms.specs.declared.term.Term.{Term}
use Rattle.vsd_ast.specs.declared.declarations.Decl.{Decl}
use Rattle.vsd_types.specs.TypeList.{TypeList}
use Rattle.vsd_types.specs.Types.{declaration_of, type_at}
use Rattle.vsd_slots.specs.Implementation.{IsImplementation}
use Rattle.vsd_interfaces.specs.Lineage.{IsLineage, Level, all_interfaces}
use Rattle.vsd_methods.specs.Methods.{methods_in}

-- the most slots that the classes of a list have together
abbrev pub most_slots : ℕ
most_slots = 262144

abbrev pub is_concrete_class : Option Decl → Bool
is_concrete_class None = false
is_concrete_class (Some x) = not x.is_interface && not x.is_abstract

module _ (ds : List Decl) where
  -- the different interfaces of a class and of those above it, nearest class first
  pub record AreAll (t : Term) (interfaces : List Term) : Type 0 where
    pub levels : List Level
    pub lineage : IsLineage ds (Some t) levels
    pub all : interfaces ≡ all_interfaces levels

  abbrev pub method_count : Term → ℕ
  method_count i = length (methods_in (declaration_of ds i))

  -- a slot for each method of each of them
  abbrev pub slots_in : List Term → ℕ
  slots_in interfaces = sum (map method_count interfaces)

  -- a declared class that isn't abstract
  abbrev pub is_concrete : Term → Bool
  is_concrete t = is_concrete_class (declaration_of ds t)

  -- nothing implements the m-th method of the interface at this place
  pub record Lacks (t : Term) (interfaces : List Term) (place m : ℕ) : Type 0 where
    pub interface : Term
    pub stands : slice_get interfaces place ≡ Some interface
    pub listed : m < method_count interface
    pub none : IsImplementation ds t interface m None

  -- of the slots that a class lacks, the first by interface and then by method
  pub record LacksFirst (t : Term) (interfaces : List Term) (place m : ℕ) : Type 0 where
    pub lacks : Lacks t interfaces place m
    pub first : (p n : ℕ) → Lacks t interfaces p n → (place < p) ⊎ ((place ≡ p) × (m ≤ n))

  -- the class is abstract, or something implements each of its slots
  abbrev pub IsWhole : Term → Type 0
  IsWhole t = is_concrete t ≡ true → (interfaces : List Term) → AreAll t interfaces → (place m : ℕ) → Lacks t interfaces place m → ⊥

module _ (c : TypeList) where
  -- the slots of the types before the n-th together
  abbrev pub IsTotal : ℕ → ℕ → Type 0
  IsTotal zero total = total ≡ 0
  IsTotal (suc n) total = (interfaces : List Term) × (before : ℕ) × AreAll c.decls.list (type_at c.types n) interfaces × IsTotal n before × (total ≡ before + slots_in c.decls.list interfaces)

  -- the types up to and with this one have no more slots than there may be
  abbrev pub IsWithinLimit : ℕ → Type 0
  IsWithinLimit t = (total : ℕ) × IsTotal (suc t) total × (total ≤ most_slots)

  -- with this type there are more
  abbrev pub IsOverLimit : ℕ → Type 0
  IsOverLimit t = (total : ℕ) × IsTotal (suc t) total × (most_slots < total)

  -- no type before the n-th has too many slots or lacks one
  abbrev pub Passes : ℕ → Type 0
  Passes n = (t : ℕ) → t < n → IsWithinLimit t × IsWhole c.decls.list (type_at c.types t)

  -- the first type with which there are too many slots, where no earlier one lacks a slot
  pub record IsTooMany (t : ℕ) : Type 0 where
    pub listed : t < length c.types
    pub before : Passes t
    pub total : ℕ
    pub totalled : IsTotal (suc t) total
    pub more : most_slots < total

  -- the first class that lacks a slot, within the limit, and the first slot that it lacks
  pub record IsMissing (t interface m : ℕ) : Type 0 where
    pub listed : t < length c.types
    pub before : Passes t
    pub within : IsWithinLimit t
    pub concrete : is_concrete c.decls.list (type_at c.types t) ≡ true
    pub interfaces : List Term
    pub are : AreAll c.decls.list (type_at c.types t) interfaces
    pub place : ℕ
    pub stands : slice_get interfaces place ≡ Some (type_at c.types interface)
    pub lacks : LacksFirst c.decls.list (type_at c.types t) interfaces place m
