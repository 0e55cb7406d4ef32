-- The list that was begun has the entries for the methods before this one.
use Rattle.std.proofs.Common.{◌≡◌, List, [], ◌∷◌, ◌++◌, None}
use Rattle.vsd_slots.specs.Columns.{AreEach}
use Rattle.vsd_slots.specs.Entries.{IsCombined}
use Rattle.vsd_slots.specs.Ragged.{Gains}
use Rattle.vsd_slots.specs.declared.entries.Entry.{Entry}
use Rattle.vsd_slots.proofs.columns.passed_on.Given as goal

abbrev pub invariant-loop-m : goal.invariant-loop-m
invariant-loop-m l = (before : List (List Entry)) → l.initial.found ≡ before ++ [] ∷ [] → Gains (AreEach (λ m. IsCombined None None l.has) l.m l.above) before l.found
