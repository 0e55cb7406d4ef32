-- None of the methods before this one fits.
use Rattle.std.proofs.Common.{◌≡◌, drop}
use Rattle.std.specs.List.{position_from}
use Rattle.vsd_methods.specs.Methods.{offers_at}
use Rattle.vsd_methods.proofs.offering.offered_from.Given as goal

abbrev pub invariant-loop-i : goal.invariant-loop-i
invariant-loop-i l = position_from (offers_at l.interface_args l.m l.args) 0 l.methods ≡ position_from (offers_at l.interface_args l.m l.args) l.i (drop l.i l.methods)
