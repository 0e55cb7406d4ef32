use Rattle.std.proofs.Common.{arith}
use Rattle.std.proofs.lemmas.Bool.{false≢true}
use Rattle.std.proofs.lemmas.Option.{slice_get_within}
use Rattle.vsd_lawful.proofs.duplicates.has_repeat.Goals as goal

pub returns : goal.returns
returns c = (λ no_one. absurd (false≢true no_one), λ r. absurd (c.loop-place.invariant r.place r.element (omega (arith, slice_get_within c.args.params.now r.place r.element r.there)) r.there r.repeats))
