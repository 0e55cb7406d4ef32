-- The list that was begun has the entries for the methods before this one.
use Rattle.std.proofs.Common.{◌≡◌, List, [], ◌∷◌, ◌++◌}
use Rattle.vsd_slots.specs.Columns.{AreEach}
use Rattle.vsd_slots.specs.Entries.{IsStep}
use Rattle.vsd_slots.specs.Ragged.{Gains}
use Rattle.vsd_slots.specs.declared.entries.Entry.{Entry}
use Rattle.vsd_slots.proofs.columns.stepped.Given as goal

abbrev pub invariant-loop-m : goal.invariant-loop-m
invariant-loop-m l = (before : List (List Entry)) → l.initial.found ≡ before ++ [] ∷ [] → Gains (AreEach (IsStep l.closed l.t l.i) l.m l.above) before l.found
