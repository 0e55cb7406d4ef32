-- What is written and the arguments to come, each behind its separator, are all of them so.
use Rattle.std.proofs.Common.{◌≡◌, ◌≤◌, ◌++◌, length, map, drop}
use Rattle.vsd_terms.specs.Size.{greatest}
use Rattle.vsd_terms.specs.Substitution.{parameters_of}
use Rattle.vsd_terms.specs.Text.{text_of, names_of}
use Rattle.vsd_terms.proofs.TextLemmas.{listed}
use Rattle.vsd_terms.proofs.text.+print_to.Given as goal

abbrev pub invariant-print_arguments-loop-arg : goal.invariant-print_arguments-loop-arg
invariant-print_arguments-loop-arg l = record {
  text : l.out.items ++ listed l.before (map (text_of l.names) (drop l.arg-index l.arg-items)) ≡ l.fn.out.items ++ listed 60 (map (text_of l.names) l.arg-items);
  closed : greatest (map parameters_of (drop l.arg-index l.arg-items)) ≤ 0;
  named : greatest (map names_of (drop l.arg-index l.arg-items)) ≤ length l.names;
}
