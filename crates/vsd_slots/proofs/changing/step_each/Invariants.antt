-- The entries for the methods before this one are changed, and the others as they were.
use Rattle.vsd_slots.specs.Entries.{IsStep}
use Rattle.vsd_slots.proofs.ColumnLaws.{AreChanged}
use Rattle.vsd_slots.proofs.changing.step_each.Given as goal

abbrev pub invariant-loop-m : goal.invariant-loop-m
invariant-loop-m l = AreChanged (IsStep l.closed l.t l.i) l.m l.initial.column l.column
