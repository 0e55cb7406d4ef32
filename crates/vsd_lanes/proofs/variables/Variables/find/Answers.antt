use Rattle.std.proofs.Common.{ap, ◌∙◌}
use Rattle.std.specs.List.{position}
use Rattle.std.specs.Str.{bytes_eq}
use Rattle.vsd_lanes.proofs.VariableLemmas.{position_names}
use Rattle.vsd_lanes.proofs.variables.Variables.find.Goals as goal

pub returns-in-Some : goal.returns-in-Some
returns-in-Some c = c.in-Some.ensures.index ∙ position_names c.args.name.now c.self.inside.set.keys ∙ ap (position (bytes_eq c.args.name.now)) c.self.view_is

pub returns-in-None : goal.returns-in-None
returns-in-None c = c.in-None.ensures.index ∙ position_names c.args.name.now c.self.inside.set.keys ∙ ap (position (bytes_eq c.args.name.now)) c.self.view_is
