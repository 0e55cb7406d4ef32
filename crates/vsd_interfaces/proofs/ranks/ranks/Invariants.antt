-- The ranks of the types before this one.
use Rattle.std.proofs.Common.{◌≡◌, ℕ, ◌<◌, length, get_or}
use Rattle.vsd_check.specs.Checked.{depths_of}
use Rattle.vsd_types.specs.Types.{type_at}
use Rattle.vsd_interfaces.specs.Ranks.{rank_of}
use Rattle.vsd_interfaces.proofs.ranks.ranks.Given as goal

abbrev pub invariant-loop-t : goal.invariant-loop-t
invariant-loop-t l = record {
  count : length l.found.items ≡ l.t;
  each : (t : ℕ) → t < l.t → get_or l.found.items t 0 ≡ rank_of l.closed.decls.list (depths_of l.checked) (type_at l.closed.types t);
}
