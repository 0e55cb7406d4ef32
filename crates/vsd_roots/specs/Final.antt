-- Overriding a final method (ECMA-335, II.10.3.1, II.15.4.2.2).
use Rattle.std.specs.Prelude.{◌≡◌, ℕ, true, List}
use Rattle.vsd_least.specs.Least.{AtSome}
use Rattle.vsd_ast.specs.declared.declarations.Decl.{Decl}
use Rattle.vsd_ast.specs.declared.declarations.Method.{Method}
use Rattle.vsd_roots.specs.Methods.{IsMethod}
use Rattle.vsd_roots.specs.Slots.{Overrides}
use Rattle.vsd_roots.specs.declared.place.Place.{Place}

-- what the method overrides is final
pub record OverridesFinal (ds : List Decl) (p : Place) : Type 0 where
  pub above : Place
  pub overrides : Overrides ds p above
  pub other : Method
  pub is_other : IsMethod ds above other
  pub final : other.is_final ≡ true

abbrev pub FinalAt : List Decl → ℕ → ℕ → Method → ℕ → Type 0
FinalAt ds decl method m line = OverridesFinal ds (record { decl = decl; method = method }) × (line ≡ m.line)

-- the line of a method of the declaration that overrides a final one
abbrev pub ShowsFinal : List Decl → ℕ → Decl → ℕ → Type 0
ShowsFinal ds decl x = AtSome x.methods (FinalAt ds decl)
