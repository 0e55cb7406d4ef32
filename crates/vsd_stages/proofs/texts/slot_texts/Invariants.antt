use Rattle.std.proofs.Common.{◌≡◌, ℕ, ◌<◌, length}
use Rattle.vsd_itable.specs.Tables.{slot_text}
use Rattle.vsd_lines.specs.Lines.{text_at}
use Rattle.vsd_stages.proofs.texts.slot_texts.Given as goal

abbrev pub invariant-loop-k : goal.invariant-loop-k
invariant-loop-k l = record {
  count : length l.texts.items ≡ l.k;
  made : (j : ℕ) → j < l.k → text_at l.texts.items j ≡ slot_text l.tables j;
}
