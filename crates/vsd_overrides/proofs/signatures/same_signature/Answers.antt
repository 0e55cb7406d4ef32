use Rattle.std.proofs.Common.{sym, ap, ◌∙◌}
use Rattle.std.proofs.lemmas.Bool.{false≢true}
use Rattle.std.proofs.lemmas.Slice.Eq.{slice_eq-Decides}
use Rattle.vsd_terms.specs.Equality.{term_eq-Decides}
use Rattle.vsd_ast.specs.declared.declarations.Signature.{Signature}
use Rattle.vsd_overrides.proofs.SignatureLemmas.{result-Decides, signature_same}
use Rattle.vsd_overrides.proofs.signatures.same_signature.Goals as goal

pub returns-then-eq : goal.returns-then-eq
returns-then-eq c =
    let a = c.args.a.now in
    let b = c.args.b.now in
    let results = (result-Decides a.result b.result).0 (sym c.eq.ensures ∙ c.if-eq.true) in
    let same = slice_eq-Decides term_eq-Decides c.as_slice.result.now c.as_slice-then-eq.result.now c.eq-then-eq.result c.eq-then-eq.ensures in (
      λ h. signature_same a b results (sym c.as_slice.ensures ∙ same.0 h ∙ c.as_slice-then-eq.ensures),
      λ e. same.1 (c.as_slice.ensures ∙ ap (λ (s : Signature). s.arguments) e ∙ sym c.as_slice-then-eq.ensures),
    )

pub returns-else-eq : goal.returns-else-eq
returns-else-eq c =
    let a = c.args.a.now in
    let b = c.args.b.now in (
      λ h. absurd (false≢true (sym c.if-eq.false ∙ h)),
      λ e. c.eq.ensures ∙ (result-Decides a.result b.result).1 (ap (λ (s : Signature). s.result) e),
    )
