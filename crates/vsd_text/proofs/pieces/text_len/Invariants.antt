use Rattle.std.proofs.Common.{◌≡◌, ◌+◌, ◌-◌, ◌≤◌, length, drop, false}
use Rattle.vsd_text.specs.Tokens.{text_len}
use Rattle.vsd_text.proofs.pieces.text_len.Given as goal

abbrev pub invariant-loop-end : goal.invariant-loop-end
invariant-loop-end l = record {
  begun : l.at ≤ l.end;
  in_range : l.end ≤ length l.text;
  same : l.end - l.at + text_len false (drop l.end l.text) ≡ text_len false (drop l.at l.text);
}

abbrev pub decreases-loop-end : goal.decreases-loop-end
decreases-loop-end l = length l.text - l.end
