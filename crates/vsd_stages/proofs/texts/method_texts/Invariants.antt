use Rattle.std.proofs.Common.{ℕ, ◌<◌}
use Rattle.vsd_stages.specs.Noted.{AreRight, AreTold}
use Rattle.vsd_stages.proofs.texts.method_texts.Given as goal

abbrev pub invariant-loop-t : goal.invariant-loop-t
invariant-loop-t l = record {
  told : (t : ℕ) → t < l.t → AreTold l.tables l.texts.items t l.tokens;
  right : AreRight l.tables l.texts.items;
}
