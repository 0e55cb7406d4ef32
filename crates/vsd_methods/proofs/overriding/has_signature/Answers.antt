use Rattle.std.proofs.Common.{Some, sym, ap, ◌∙◌}
use Rattle.std.proofs.lemmas.Bool.Decides.{same_from_decides}
use Rattle.vsd_methods.specs.Methods.{has_signature, same_signature, signature_at}
use Rattle.vsd_methods.proofs.SignatureLaws.{same_signature-Decides}
use Rattle.vsd_methods.proofs.overriding.has_signature.Goals as goal

pub returns-in-None : goal.returns-in-None
returns-in-None c =
    let whole = signature_at c.args.owner_args.now c.args.m.now.signature in
    let given = c.args.given.now.signature in
    same_from_decides c.is_signature_at.result (same_signature whole given) c.is_signature_at.ensures (same_signature-Decides whole given)
    ∙ ap (λ w. has_signature c.args.owner_args.now w (Some c.args.given.now) c.args.m.now) (sym c.in-None.is)
