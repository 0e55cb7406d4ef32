use Rattle.std.proofs.Common.{◌≡◌, true, inl, inr, List, refl}
use Rattle.vsd_terms.specs.declared.term.Term.{Term}
use Rattle.vsd_ast.specs.declared.declarations.Decl.{Decl}
use Rattle.vsd_ast.specs.declared.declarations.Sign.{Sign}
use Rattle.vsd_ast.specs.declared.declarations.Sign.TheVariants.{Plus, Minus, Plain}
use Rattle.vsd_compat.specs.Compatibility.{IsCompatible, Varies, same, to_object, by_base, by_interface, by_variance, equal, covariant, contravariant}
use Rattle.vsd_compat.specs.Rules.{VariesAs}
use Rattle.vsd_compat.proofs.Least.{least}
use Rattle.vsd_compat.proofs.laws.compatibility_law.Goals as goal

varies : (ds : List Decl) (s : Sign) (a b : Term) → VariesAs ds (IsCompatible ds) s a b → Varies ds s a b
varies ds s a b (inl e) = equal e
varies ds Plus a b (inr w) = covariant refl w.0 w.1
varies ds Minus a b (inr w) = contravariant refl w.0 w.1
varies ds Plain a b (inr w) = absurd w.1

pub returns-clause-keeps : goal.returns-clause-keeps
returns-clause-keeps c ds = record {
  itself = λ t. same refl;
  to_object = λ t. to_object refl;
  base = λ t b u is related. by_base b is related;
  interface = λ t i u has related. by_interface i has related;
  variance = λ t u generic at. by_variance generic (λ place s a b p. varies ds s a b (at place s a b p));
}

pub returns-clause-least : goal.returns-clause-least
returns-clause-least c ds related keeps t u rest = least ds (λ t u. related t u ≡ true) keeps rest
