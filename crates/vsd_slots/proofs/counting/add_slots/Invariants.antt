-- The slots of the interfaces so far are added.
use Rattle.std.proofs.Common.{◌≡◌, ◌+◌, ◌≤◌, take}
use Rattle.vsd_slots.specs.Refusals.{slots_in}
use Rattle.vsd_interfaces.specs.Tables.{types_of}
use Rattle.vsd_slots.proofs.counting.add_slots.Given as goal

abbrev pub invariant-loop-i : goal.invariant-loop-i
invariant-loop-i l = record {
  sum : l.sum ≡ l.total + slots_in l.closed.decls.list (types_of l.closed.types (take l.i l.interfaces));
  few : l.sum ≤ 262144;
}
