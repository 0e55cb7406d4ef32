-- Compatibility is the least relation that keeps the rules: what keeps them has all that it has.
use Rattle.std.proofs.Common.{inl, inr, List, sym, subst}
use Rattle.vsd_terms.specs.declared.term.Term.{Term}
use Rattle.vsd_ast.specs.declared.declarations.Decl.{Decl}
use Rattle.vsd_ast.specs.declared.declarations.Sign.{Sign}
use Rattle.vsd_compat.specs.Compatibility.{IsCompatible, Varies, same, to_object, by_base, by_interface, by_variance, equal, covariant, contravariant}
use Rattle.vsd_compat.specs.Rules.{KeepsRules, Turned, VariesAs}

module _ (ds : List Decl) (Related : Term → Term → Type 0) (keeps : KeepsRules ds Related) where
  mutual
    pub least : {t u : Term} → IsCompatible ds t u → Related t u
    least {t} {u} (same e) = subst (Related t) e (keeps.itself t)
    least {t} {u} (to_object e) = subst (Related t) (sym e) (keeps.to_object t)
    least {t} {u} (by_base b is rest) = keeps.base t b u is (least rest)
    least {t} {u} (by_interface i has rest) = keeps.interface t i u has (least rest)
    least {t} {u} (by_variance generic at) =
        keeps.variance t u generic (λ place s a b p. least_argument (at place s a b p))

    least_argument : {s : Sign} {a b : Term} → Varies ds s a b → VariesAs ds Related s a b
    least_argument (equal e) = inl e
    least_argument {s} {a} {b} (covariant sign references rest) =
        inr (references, subst (λ (z : Sign). Turned ds Related z a b) (sym sign) (least rest))
    least_argument {s} {a} {b} (contravariant sign references rest) =
        inr (references, subst (λ (z : Sign). Turned ds Related z a b) (sym sign) (least rest))
