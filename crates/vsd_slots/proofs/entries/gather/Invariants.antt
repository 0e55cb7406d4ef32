-- What the overrides of the types before this one give.
use Rattle.std.proofs.Common.{◌≡◌, ℕ, ◌<◌, [], length, get_or}
use Rattle.vsd_types.specs.Types.{type_at}
use Rattle.vsd_methods.specs.Givens.{AreGiven}
use Rattle.vsd_slots.proofs.entries.gather.Given as goal

abbrev pub invariant-loop-t : goal.invariant-loop-t
invariant-loop-t l = record {
  count : length l.given ≡ l.t;
  each : (t : ℕ) → t < l.t → AreGiven l.closed.decls.list l.closed.types (type_at l.closed.types t) (get_or l.given t []);
}
