-- So many places so far, and nothing is known of any.
use Rattle.std.proofs.Common.{◌≡◌, ℕ, length, Option, Some, None}
use Rattle.std.specs.List.{slice_get}
use Rattle.vsd_terms.specs.declared.term.Term.{Term}
use Rattle.vsd_ways.proofs.binding.unknown.Given as goal

abbrev pub invariant-loop : goal.invariant-loop
invariant-loop l = record {
  long : length l.known.items ≡ l.counter;
  none : (i : ℕ) (w : Option Term) → slice_get l.known.items i ≡ Some w → w ≡ None;
}
