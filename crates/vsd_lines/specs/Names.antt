-- Which names and texts are there.
use Rattle.std.specs.Prelude.{ℕ, ◌<◌, List, length, slice_index}
use Rattle.vsd_ast.specs.declared.scripts.Host.{Host}
use Rattle.vsd_ast.specs.declared.scripts.Op.{Op}
use Rattle.vsd_ast.specs.declared.scripts.Op.TheVariants.{Load, Unload, Call, Cast}
use Rattle.vsd_ast.specs.declared.scripts.Var.{Var}
use Rattle.vsd_ast.specs.declared.scripts.Var.TheVariants as var

-- a variable whose name is there
abbrev pub IsNamed : List Host → List (List ℕ) → Var → Type 0
IsNamed hosts names (var.Host host) = host < length hosts
IsNamed hosts names (var.Own variable) = variable < length names

-- an operation whose names, and whose slot's text, are there: among so many sites and texts of slots
abbrev pub IsWritable : ℕ → List Host → List ℕ → ℕ → List (List ℕ) → Op → Type 0
IsWritable sites hosts tokens slots names (Load variable root) = Unit {0}
IsWritable sites hosts tokens slots names (Unload variable) = Unit {0}
IsWritable sites hosts tokens slots names (Call site object) = (site < sites) × (site < length tokens) × (slice_index tokens site < slots)
IsWritable sites hosts tokens slots names (Cast source target) = IsNamed hosts names source × IsNamed hosts names target
