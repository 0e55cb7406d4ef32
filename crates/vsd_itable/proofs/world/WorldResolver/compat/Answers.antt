use Rattle.std.proofs.Common.{sym, ◌∙◌}
use Rattle.vsd_compat.specs.Matrices.{bits_of}
use Rattle.vsd_itable.proofs.BitLaws.{bit-entry}
use Rattle.vsd_itable.proofs.world.WorldResolver.compat.Goals as goal

pub returns : goal.returns
returns c =
    let w = c.args.self.now in
    let read = bit-entry w.types (bits_of w.variances.matrix) c.args.t c.args.u c.requires.0 c.requires.1 in (
      λ is. read ∙ c.bit.ensures.0 is,
      λ one. c.bit.ensures.1 (sym read ∙ one),
    )
