-- What the arguments from this one on say is what all of them say, and their names are numbered.
use Rattle.std.proofs.Common.{◌≡◌, ◌≤◌, length, map, drop}
use Rattle.vsd_terms.specs.Size.{greatest}
use Rattle.vsd_terms.specs.Text.{names_of}
use Rattle.vsd_roots.specs.Variance.{arguments_valid, is_valid}
use Rattle.vsd_roots.proofs.variance.+may_stand_at.Given as goal

abbrev pub invariant-loop-i : goal.invariant-loop-i
invariant-loop-i l = record {
  rest : arguments_valid l.h.decls.now l.name l.i (map (is_valid l.h.decls.now l.own) (drop l.i l.args)) l.position ≡ is_valid l.h.decls.now l.own l.t l.position;
  named : greatest (map names_of (drop l.i l.args)) ≤ length l.h.places.now;
}
