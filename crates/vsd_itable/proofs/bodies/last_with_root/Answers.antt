use Rattle.std.proofs.Common.{◌-◌, arith}
use Rattle.vsd_check.specs.Checked.{decls_of}
use Rattle.vsd_itable.proofs.BodyLaws.{method-in}
use Rattle.vsd_itable.proofs.bodies.last_with_root.Goals as goal

pub has_root-requires : goal.has_root-requires
has_root-requires c =
    method-in (decls_of c.args.checked.now).list c.args.decl (c.args.count - 1 - c.loop-later.later) c.requires.0 c.requires.1 (omega (arith, c.requires.2, c.loop-later-test.true))

pub returns : goal.returns
returns c = λ m within. c.loop-later.invariant m within (omega (arith, within, c.loop-later-test.false))
