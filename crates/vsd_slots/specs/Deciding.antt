-- Which rule decides what implements a method of an interface (ECMA-335, II.12.2).
use Rattle.std.specs.Prelude.{◌≡◌, ℕ, true, false, List, ◌∷◌, Contains, Some, None}
use Rattle.vsd_terms.specs.declared.term.Term.{Term}
use Rattle.vsd_ast.specs.declared.declarations.Decl.{Decl}
use Rattle.vsd_slots.specs.Implementation.{Found, has, implementation}
use Rattle.vsd_interfaces.specs.Lineage.{Level}
use Rattle.vsd_methods.specs.Methods.{naming, overriding}

-- a class's own override comes first
abbrev pub OverrideWins : Type 0
OverrideWins = (ds : List Decl) (i : Term) (m : ℕ) (l : Level) (above : List Level) (p : ℕ) → overriding ds i m l.type ≡ Some p → implementation ds i m (l ∷ above) ≡ Some (record { class = l.type; method = p })

-- then, where the class has the interface, its own method by name
abbrev pub NameIsNext : Type 0
NameIsNext = (ds : List Decl) (i : Term) (m : ℕ) (l : Level) (above : List Level) (p : ℕ) → overriding ds i m l.type ≡ None → has l i ≡ true → naming ds i m l.type ≡ Some p → implementation ds i m (l ∷ above) ≡ Some (record { class = l.type; method = p })

-- a class that neither overrides nor has the interface itself leaves it to its base
abbrev pub BaseDecides : Type 0
BaseDecides = (ds : List Decl) (i : Term) (m : ℕ) (l : Level) (above : List Level) → overriding ds i m l.type ≡ None → has l i ≡ false → implementation ds i m (l ∷ above) ≡ implementation ds i m above

-- what is found is declared by the class or one above it
abbrev pub IsDeclaredAbove : Type 0
IsDeclaredAbove = (ds : List Decl) (i : Term) (m : ℕ) (levels : List Level) (f : Found) → implementation ds i m levels ≡ Some f → (l : Level) × Contains levels l × (l.type ≡ f.class)
