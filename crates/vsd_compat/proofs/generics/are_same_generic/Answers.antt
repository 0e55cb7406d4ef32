use Rattle.vsd_types.specs.Types.{type_at}
use Rattle.vsd_compat.proofs.Rules.{one_interface}
use Rattle.vsd_compat.proofs.generics.are_same_generic.Goals as goal

pub returns : goal.returns
returns c =
    let types = c.args.closed.now.types in
    let found = one_interface c.args.closed.now.decls.list (type_at types c.args.t) (type_at types c.args.u) in
    let told = rw (c.generic.ensures, c.generic-2.ensures) at c.is_one_interface.ensures in (
      λ yes. found.0 (told.0 yes),
      λ same. told.1 (found.1 same),
    )
