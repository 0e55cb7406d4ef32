use Rattle.std.proofs.Common.{sym}
use Rattle.std.proofs.lemmas.Bool.{false≢true}
use Rattle.vsd_grammar.proofs.Numbers.{position_found, position_absent}
use Rattle.vsd_lanes.proofs.types.Types.find.Goals as goal

pub returns-in-Some : goal.returns-in-Some
returns-in-Some c = sym (position_found c.args.self.now.decls.now.names c.args.name.now c.in-Some.number c.in-Some.ensures.names c.in-Some.ensures.found)

pub returns-in-None : goal.returns-in-None
returns-in-None c = sym (position_absent c.args.self.now.decls.now.names c.args.name.now (λ there. false≢true (c.in-None.ensures.present.1 there)))
