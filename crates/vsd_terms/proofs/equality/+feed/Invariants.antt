-- Feeding what the arguments to come write makes the state what the whole term makes it.
use Rattle.std.proofs.Common.{◌≡◌, fold, map, drop}
use Rattle.std.specs.List.{flat_map}
use Rattle.vsd_terms.specs.Equality.{writes_of}
use Rattle.vsd_terms.proofs.equality.+feed.Given as goal

abbrev pub invariant-loop-i : goal.invariant-loop-i
invariant-loop-i g l =
    fold g.H.Hasher.write l.state (flat_map (λ writes. writes) (map writes_of (drop l.i l.args))) ≡ fold g.H.Hasher.write l.fn.state (writes_of l.t)
