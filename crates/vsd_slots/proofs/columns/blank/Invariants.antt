-- So many entries so far.
use Rattle.vsd_slots.specs.Columns.{IsBlank}
use Rattle.vsd_slots.proofs.columns.blank.Given as goal

abbrev pub invariant-loop : goal.invariant-loop
invariant-loop l = IsBlank l.counter l.found.items
