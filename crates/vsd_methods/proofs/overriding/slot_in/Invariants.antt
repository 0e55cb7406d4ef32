-- The override is for none of the methods before this one.
use Rattle.std.proofs.Common.{◌≡◌, Some, drop}
use Rattle.std.specs.List.{position_from}
use Rattle.vsd_methods.specs.Methods.{is_meant}
use Rattle.vsd_methods.proofs.overriding.slot_in.Given as goal

abbrev pub invariant-loop-i : goal.invariant-loop-i
invariant-loop-i l = position_from (is_meant l.o l.owner_args (Some l.given)) 0 l.methods ≡ position_from (is_meant l.o l.owner_args (Some l.given)) l.i (drop l.i l.methods)
