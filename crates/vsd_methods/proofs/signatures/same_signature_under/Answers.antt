use Rattle.std.proofs.Common.{map, sym, ap, ◌∙◌}
use Rattle.std.proofs.lemmas.Bool.{false≢true}
use Rattle.std.proofs.lemmas.Bool.Decides.{same_from_decides}
use Rattle.vsd_terms.specs.Substitution.{subst_of}
use Rattle.vsd_ast.specs.declared.declarations.Signature.{Signature}
use Rattle.vsd_methods.specs.Methods.{same_signature, signature_at}
use Rattle.vsd_methods.proofs.SignatureLaws.{same_signature-Decides, signature_parts}
use Rattle.vsd_methods.proofs.signatures.same_signature_under.Goals as goal

pub returns-then-same_result_under : goal.returns-then-same_result_under
returns-then-same_result_under c =
    let a = signature_at c.args.a_args.now c.args.a.now in
    let b = signature_at c.args.b_args.now c.args.b.now in
    let left = ap (map (subst_of c.args.a_args.now)) c.as_slice.ensures in
    let right = ap (map (subst_of c.args.b_args.now)) c.as_slice-then-same_result_under.ensures in
    same_from_decides c.same_terms_under.result (same_signature a b) (
      λ h. signature_parts a b (c.same_result_under.ensures.0 c.if-same_result_under.true) (sym left ∙ c.same_terms_under.ensures.0 h ∙ right),
      λ e. c.same_terms_under.ensures.1 (left ∙ ap (λ (s : Signature). s.arguments) e ∙ sym right),
    ) (same_signature-Decides a b)

pub returns-else-same_result_under : goal.returns-else-same_result_under
returns-else-same_result_under c =
    let a = signature_at c.args.a_args.now c.args.a.now in
    let b = signature_at c.args.b_args.now c.args.b.now in
    same_from_decides c.same_result_under.result (same_signature a b) (
      λ h. absurd (false≢true (sym c.if-same_result_under.false ∙ h)),
      λ e. c.same_result_under.ensures.1 (ap (λ (s : Signature). s.result) e),
    ) (same_signature-Decides a b)
