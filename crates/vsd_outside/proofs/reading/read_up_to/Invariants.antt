use Rattle.std.proofs.Common.{◌≡◌, ◌-◌, ◌≤◌, vec_len}
use Rattle.std.specs.Io.KnownBytes.{prepend_known}
use Rattle.vsd_outside.proofs.reading.read_up_to.Given as goal

abbrev pub invariant-loop-text : goal.invariant-loop-text
invariant-loop-text g l = record {
  given : g.S.Source.left l.initial.source ≡ prepend_known l.text.items (g.S.Source.left l.source);
  within : vec_len l.text ≤ l.limit;
  piece : vec_len l.piece ≡ 65536;
  no_fault : g.S.Source.faults l.source ≡ g.S.Source.faults l.initial.source;
  stays_sure : g.S.Source.never_fails l.initial.source → g.S.Source.never_fails l.source;
}

abbrev pub decreases-loop-text : goal.decreases-loop-text
decreases-loop-text g l = l.limit - vec_len l.text
