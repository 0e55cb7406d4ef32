use Rattle.std.proofs.Common.{Some}
use Rattle.vsd_type_syntax.proofs.types.type_below.Goals as goal

pub returns : goal.returns
returns g c = λ room h. c.type_by.ensures (Some room) (λ old index number r new p. p room h)
