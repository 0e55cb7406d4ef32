-- The numbers of the columns for the interfaces before this one.
use Rattle.vsd_slots.specs.Kept.{AreKept}
use Rattle.vsd_slots.specs.Rows.{IsRow, Keeps}
use Rattle.vsd_slots.proofs.making.row.Given as goal

abbrev pub invariant-loop-k : goal.invariant-loop-k
invariant-loop-k l = record {
  row : IsRow l.closed l.columns l.t l.map l.k l.found.items;
  keeps : Keeps l.initial.columns l.columns;
  kept : AreKept l.closed l.columns l.kept;
}
