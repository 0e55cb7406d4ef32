-- Signs stand on the parameters of interfaces alone (II.9.5).
use Rattle.std.specs.Prelude.{◌≡◌, ℕ, false, Any}
use Rattle.vsd_ast.specs.declared.declarations.Decl.{Decl}
use Rattle.vsd_ast.specs.declared.declarations.Param.{Param}
use Rattle.vsd_ast.specs.declared.declarations.Sign.TheVariants.{Plain}

-- a parameter of the declaration has a sign
abbrev pub HasSign : Decl → Type 0
HasSign x = Any (λ (p : Param). ¬ (p.sign ≡ Plain)) x.params

-- a class with a sign, at its line
abbrev pub ShowsVariantClass : Decl → ℕ → Type 0
ShowsVariantClass x line = ((x.is_interface ≡ false) × HasSign x) × (line ≡ x.line)
