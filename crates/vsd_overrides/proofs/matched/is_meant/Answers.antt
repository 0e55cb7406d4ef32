use Rattle.std.proofs.Common.{length}
use Rattle.vsd_overrides.proofs.SignatureLemmas.{greatest-written}
use Rattle.vsd_overrides.proofs.matched.is_meant.Goals as goal

pub is_signature_at-requires-clause-arguments_fit : goal.is_signature_at-requires-clause-arguments_fit
is_signature_at-requires-clause-arguments_fit c =
    let w = c.requires in
    greatest-written w.0 (length c.args.args.now) c.args.method.now.signature.arguments w.1.signature.arguments
