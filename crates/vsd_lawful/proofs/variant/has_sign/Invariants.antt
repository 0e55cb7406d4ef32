-- No parameter so far has a sign.
use Rattle.std.proofs.Common.{◌≡◌, ℕ, ◌<◌, Some}
use Rattle.std.specs.List.{slice_get}
use Rattle.vsd_ast.specs.declared.declarations.Param.{Param}
use Rattle.vsd_ast.specs.declared.declarations.Sign.TheVariants.{Plain}
use Rattle.vsd_lawful.proofs.variant.has_sign.Given as goal

abbrev pub invariant-loop-param : goal.invariant-loop-param
invariant-loop-param l = (k : ℕ) (p : Param) → k < l.param-index → slice_get l.param-items k ≡ Some p → p.sign ≡ Plain
