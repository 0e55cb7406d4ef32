use Rattle.vsd_table.specs.Seating.{Belongs}
use Rattle.vsd_handles.specs.Owned.{AreWordsOf}
use Rattle.vsd_handles.proofs.tests.binds_each_row_and_the_lowest_again.Given as goal

-- the hand stays the table's, and the words its own
abbrev pub invariant-loop-row : goal.invariant-loop-row
invariant-loop-row g l = record { seat : Belongs l.table l.hand.seated; words : AreWordsOf l.owned l.hand }
