-- The types that a lane's variables name, kept by the variables' numbers.
use Rattle.std.specs.Prelude.{ℕ, ◌<◌, List, map, length, slice_index, slice_set}
use Rattle.vsd_ast.specs.declared.scripts.Host.{Host}
use Rattle.vsd_ast.specs.declared.scripts.Op.{Op}
use Rattle.vsd_ast.specs.declared.scripts.Op.TheVariants.{Load, Unload, Call, Cast}
use Rattle.vsd_ast.specs.declared.scripts.Var.{Var}
use Rattle.vsd_ast.specs.declared.scripts.Var.TheVariants as var

-- the kept types after an operation
abbrev pub held_after : List ℕ → List ℕ → Op → List ℕ
held_after types held (Load variable root) = slice_set held variable (slice_index types root)
held_after types held (Unload variable) = held
held_after types held (Call site object) = held
held_after types held (Cast source target) = held

-- the type of a host's root
abbrev pub host_type : List Host → List ℕ → ℕ → ℕ
host_type hosts types host = slice_index types (slice_index (map (λ (h : Host). h.root) hosts) host)

-- the type that a variable names by what is kept
abbrev pub held_type : List Host → List ℕ → List ℕ → Var → ℕ
held_type hosts types held (var.Host host) = host_type hosts types host
held_type hosts types held (var.Own variable) = slice_index held variable

-- a variable whose type is kept
abbrev pub IsInReach : List Host → List ℕ → List ℕ → Var → Type 0
IsInReach hosts types held (var.Host host) = (host < length hosts) × (slice_index (map (λ (h : Host). h.root) hosts) host < length types)
IsInReach hosts types held (var.Own variable) = variable < length held

-- an operation that can be answered among so many types and tokens
abbrev pub CanAnswerOne : ℕ → ℕ → List Host → List ℕ → List ℕ → List ℕ → Op → Type 0
CanAnswerOne all_types all_tokens hosts types tokens held (Load variable root) = (variable < length held) × (root < length types)
CanAnswerOne all_types all_tokens hosts types tokens held (Unload variable) = Unit {0}
CanAnswerOne all_types all_tokens hosts types tokens held (Call site object) =
    (site < length tokens) × (slice_index tokens site < all_tokens) × IsInReach hosts types held object × (held_type hosts types held object < all_types)
CanAnswerOne all_types all_tokens hosts types tokens held (Cast source target) =
    IsInReach hosts types held source × (held_type hosts types held source < all_types) × IsInReach hosts types held target × (held_type hosts types held target < all_types)
