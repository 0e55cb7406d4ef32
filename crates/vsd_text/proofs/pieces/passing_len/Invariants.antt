use Rattle.std.proofs.Common.{◌≡◌, ◌+◌, ◌-◌, ◌≤◌, length, drop}
use Rattle.std.specs.List.{prefix_len}
use Rattle.vsd_text.proofs.pieces.passing_len.Given as goal

abbrev pub invariant-loop-end : goal.invariant-loop-end
invariant-loop-end g l = record {
  begun : l.at ≤ l.end;
  in_range : l.end ≤ length l.text;
  same : l.end - l.at + prefix_len g.T.ByteTest.passes (drop l.end l.text) ≡ prefix_len g.T.ByteTest.passes (drop l.at l.text);
}

abbrev pub decreases-loop-end : goal.decreases-loop-end
decreases-loop-end g l = length l.text - l.end
