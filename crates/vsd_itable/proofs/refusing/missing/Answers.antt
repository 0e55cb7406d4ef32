use Rattle.vsd_itable.proofs.BodyLaws.{missing-listed}
use Rattle.vsd_itable.proofs.refusing.missing.Goals as goal

pub name_text-requires-clause-listed : goal.name_text-requires-clause-listed
name_text-requires-clause-listed c = missing-listed c.args.closed.now c.args.class c.args.interface c.args.method c.requires.missing

pub type_text-requires-2-clause-listed : goal.type_text-requires-2-clause-listed
type_text-requires-2-clause-listed c = missing-listed c.args.closed.now c.args.class c.args.interface c.args.method c.requires.missing
