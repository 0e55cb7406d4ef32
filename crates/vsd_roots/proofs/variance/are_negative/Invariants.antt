-- Whether the terms from this one on may stand is whether all may, and their names are numbered.
use Rattle.std.proofs.Common.{◌≡◌, ◌≤◌, length, map, drop}
use Rattle.vsd_terms.specs.Size.{greatest}
use Rattle.vsd_terms.specs.Text.{names_of}
use Rattle.vsd_roots.specs.Variance.{all_negative}
use Rattle.vsd_roots.proofs.variance.are_negative.Given as goal

abbrev pub invariant-loop-i : goal.invariant-loop-i
invariant-loop-i l = record {
  rest : all_negative l.h.decls.now l.own (drop l.i l.ts) ≡ all_negative l.h.decls.now l.own l.ts;
  named : greatest (map names_of (drop l.i l.ts)) ≤ length l.h.places.now;
}
