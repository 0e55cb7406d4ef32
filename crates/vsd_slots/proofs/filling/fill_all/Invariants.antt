-- The types before this one are within the limit and lack nothing, and have their rows where all are to have them.
use Rattle.vsd_slots.specs.Kept.{AreKept}
use Rattle.vsd_slots.specs.Missing.{AreWhole}
use Rattle.vsd_slots.specs.Refusals.{Passes}
use Rattle.vsd_slots.specs.Slots.{AreMade}
use Rattle.vsd_slots.proofs.filling.fill_all.Given as goal

abbrev pub invariant-loop-t : goal.invariant-loop-t
invariant-loop-t l = record {
  made : AreMade l.closed l.parts.table.maps l.end l.t l.rows;
  kept : AreKept l.closed l.rows.columns l.kept;
  whole : AreWhole l.rows.columns l.whole.items;
  passes : Passes l.closed l.t;
}
