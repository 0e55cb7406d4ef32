-- What tables say of types, tokens and methods, by their numbers.
use Rattle.std.specs.Prelude.{◌≡◌, ℕ, zero, suc, ◌+◌, ◌*◌, ◌<◌, ◌↔◌, All, List, length, Option, Some, None, slice_index_or}
use Rattle.vsd_terms.specs.declared.term.Term.{Term}
use Rattle.vsd_rule.specs.Lists.{entry}
use Rattle.vsd_types.specs.TypeList.{TypeList}
use Rattle.vsd_types.specs.Types.{type_at}
use Rattle.vsd_compat.specs.Compatibility.{IsCompatible}
use Rattle.vsd_compat.specs.Matrices.{bits_of}
use Rattle.vsd_slots.specs.Implementation.{Found}
use Rattle.vsd_slots.specs.Refusals.{method_count}
use Rattle.vsd_slots.specs.Texts.{method_text}
use Rattle.vsd_slots.specs.declared.entries.ClosedMethod.{ClosedMethod}
use Rattle.vsd_itable.specs.BitList.{bits_list}
use Rattle.vsd_itable.specs.Selection.{IsSelection}
use Rattle.vsd_itable.specs.Value.{Value}
use Rattle.vsd_itable.specs.declared.target.Target.{Target}
use Rattle.vsd_itable.specs.declared.target.Target.TheVariants.{Method, Missing}

-- ---- methods by their numbers

-- stands for a method past a list's end
abbrev pub no_method : ClosedMethod
no_method = record { class = 0; method = 0 }

abbrev pub found_with : List Term → ClosedMethod → Found
found_with types m = record { class = type_at types m.class; method = m.method }

-- the method of this number, a closed class and one of the methods that it declares
abbrev pub method_at : List Term → List ClosedMethod → ℕ → Found
method_at types methods n = found_with types (slice_index_or methods n no_method)

-- a declared method of a listed type
pub record IsListed (c : TypeList) (m : ClosedMethod) : Type 0 where
  pub class : m.class < length c.types
  pub method : m.method < method_count c.decls.list (type_at c.types m.class)

-- a token: the number of a listed type, and one of the methods that it declares
pub record IsToken (c : TypeList) (k : ℕ × ℕ) : Type 0 where
  pub interface : k.0 < length c.types
  pub slot : k.1 < method_count c.decls.list (type_at c.types k.0)

-- ---- targets: 0 for the missing slot, n + 1 for the method of number n

module _ (c : TypeList) (methods : List ClosedMethod) (t j : Term) (m : ℕ) where
  abbrev pub IsTarget : ℕ → Type 0
  IsTarget zero = IsSelection c.decls.list t j m None
  IsTarget (suc n) = (n < length methods) × IsSelection c.decls.list t j m (Some (method_at c.types methods n))

abbrev pub number_of : Target → ℕ
number_of (Method n) = n + 1
number_of Missing = 0

-- ---- of tables

abbrev pub types_count : Value → ℕ
types_count v = length v.closed.types

abbrev pub tokens_count : Value → ℕ
tokens_count v = length v.tokens

-- the target of each type and token, type by type
abbrev pub sel_of : Value → List ℕ
sel_of v = v.targets.entries.items

-- for each two types, first by first, 1 where the first is compatible with the second, else 0
abbrev pub cmp_of : Value → List ℕ
cmp_of v = bits_list (types_count v) (bits_of v.matrix)

abbrev pub token_at : Value → ℕ → ℕ × ℕ
token_at v k = slice_index_or v.tokens k (0, 0)

-- the interface and the slot of a token
abbrev pub interface_of : Value → ℕ → Term
interface_of v k = type_at v.closed.types (token_at v k).0

abbrev pub slot_of : Value → ℕ → ℕ
slot_of v k = (token_at v k).1

-- the target of a type and a token says what is selected
abbrev pub IsTargetOf : Value → ℕ → ℕ → ℕ → Type 0
IsTargetOf v t k number = IsTarget v.closed v.methods (type_at v.closed.types t) (interface_of v k) (slot_of v k) number

-- the text of the method of a number: its closed class, `::`, its name, `#k` after the k-th of that name
abbrev pub numbered_text : Value → ℕ → List ℕ
numbered_text v n = method_text v.closed.decls.names v.closed.decls.list (method_at v.closed.types v.methods n).class (method_at v.closed.types v.methods n).method

-- the text of a token's slot, made alike from the closed interface
abbrev pub slot_text : Value → ℕ → List ℕ
slot_text v k = method_text v.closed.decls.names v.closed.decls.list (interface_of v k) (slot_of v k)

-- Tables say what declarations answer: each token is a slot of a listed type, each number one declared method of a listed type,
-- each target what is selected, and each bit whether two types are compatible.
pub record AreTables (v : Value) : Type 0 where
  pub tokens : All (IsToken v.closed) v.tokens
  pub methods : All (IsListed v.closed) v.methods
  pub targets_count : length (sel_of v) ≡ types_count v * tokens_count v
  pub targets : (t k : ℕ) → t < types_count v → k < tokens_count v → IsTargetOf v t k (entry (sel_of v) (tokens_count v) t k)
  pub compatible : (t u : ℕ) → t < types_count v → u < types_count v → (entry (cmp_of v) (types_count v) t u ≡ 1) ↔ IsCompatible v.closed.decls.list (type_at v.closed.types t) (type_at v.closed.types u)
