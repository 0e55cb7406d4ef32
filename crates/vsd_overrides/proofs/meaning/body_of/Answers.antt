use Rattle.std.proofs.Common.{◌<◌, length, refl, sym, subst, inl, inr, arith}
use Rattle.std.proofs.lemmas.Option.{slice_get_cases}
use Rattle.vsd_ast.specs.WellFormed.{IsImplementer}
use Rattle.vsd_ast.specs.declared.declarations.Implementer.{Implementer}
use Rattle.vsd_overrides.specs.Implements.{IsBody}
use Rattle.vsd_overrides.proofs.meaning.body_of.Goals as goal

pub returns-in-Own : goal.returns-in-Own
returns-in-Own c =
    let x = c.args.decl.now in
    let w = c.requires.written in
    let place = c.in-Own.place in
    let within : place < length x.methods = subst (λ (b : Implementer). IsImplementer w.0 (length x.params) (length x.methods) b) c.in-Own.is w.1 in
    elim (slice_get_cases x.methods place).1 [
      | inl there ↦ (there.0, subst (λ (b : Implementer). IsBody x b place there.0) (sym c.in-Own.is) (refl, there.2))
      | inr past ↦ absurd (omega (arith, past.0))
    ]
