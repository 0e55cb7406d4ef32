-- From a type to an interface, by naming and requiring (ECMA-335, II.12.2).
use Rattle.std.specs.Prelude.{◌≡◌, ℕ, zero, suc, ◌↔◌, false, List, Contains}
use Rattle.vsd_terms.specs.declared.term.Term.{Term}
use Rattle.vsd_ast.specs.declared.declarations.Decl.{Decl}
use Rattle.vsd_types.specs.Numbers.{IsDistinct}
use Rattle.vsd_types.specs.Types.{is_interface_type, named_of}
use Rattle.vsd_interfaces.specs.Interfaces.{AreInterfaces}

-- the type names v, or what it names requires v by so many steps
abbrev pub Reaches : List Decl → ℕ → Term → Term → Type 0
Reaches ds zero u v = Contains (named_of ds u) v
Reaches ds (suc n) u v = (w : Term) × Contains (named_of ds u) w × Reaches ds n w v

-- the interfaces of a class are those that it reaches, each once
abbrev pub ListsReached : Type 0
ListsReached = (ds : List Decl) (t : Term) (interfaces : List Term) → is_interface_type ds t ≡ false → AreInterfaces ds t interfaces → IsDistinct interfaces × ((i : Term) → Contains interfaces i ↔ ((n : ℕ) × Reaches ds n t i))
