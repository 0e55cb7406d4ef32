use Rattle.std.proofs.Common.{◌≡◌, ℕ, ◌+◌, All, length, vec_len, vec_capacity}
use mathlib.Core.Option.{some}
use lib.ListN.{get_elem?}
use Rattle.vsd_rule.specs.Seats.{caller_of}
use Rattle.vsd_table.specs.declared.seated.Seated.{Seated}
use Rattle.vsd_table.specs.Seating.{view_of, IsNew}
use Rattle.vsd_core.specs.Callers.{IsNewCaller, AreInOrder}
use Rattle.vsd_core.proofs.starting.seated_callers.Given as goal

abbrev pub invariant-loop-seated : goal.invariant-loop-seated
invariant-loop-seated l = record {
  seats : All (IsNew l.table) l.seated-iterator.rest.items;
  numbers : (i : ℕ) (s : Seated) → get_elem? l.seated-iterator.rest.items i ≡ some s → caller_of (view_of s).who ≡ length l.callers.items + i;
  callers : All (IsNewCaller l.table) l.callers.items;
  order : AreInOrder l.callers.items;
  count : length l.callers.items + l.seated-iterator.rest.len ≡ length l.fn.seats.items;
  len : vec_len l.callers ≡ length l.callers.items;
  room : vec_capacity l.callers ≡ length l.fn.seats.items;
}
