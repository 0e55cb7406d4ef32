use Rattle.std.proofs.Common.{◌≡◌, map, take}
use Rattle.vsd_types.proofs.kind.signs.Given as goal

abbrev pub invariant-loop-param : goal.invariant-loop-param
invariant-loop-param l = l.made ≡ map (λ p. p.sign) (take l.param-index l.params)
