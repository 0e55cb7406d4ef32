use Rattle.std.proofs.Common.{sym, subst}
use Rattle.vsd_overrides.specs.Targets.{AreLawfulOwners}
use Rattle.vsd_check.proofs.SettledLaws.{lawful_owners}
use Rattle.vsd_check.proofs.overriding.methods_of.Goals as goal

pub targets-requires-clause-owners : goal.targets-requires-clause-owners
targets-requires-clause-owners c = subst AreLawfulOwners (sym c.requires.scope) (lawful_owners c.args.decls.now c.requires.first)
