use Rattle.vsd_stages.specs.Noted.{AreRight, AreTold, Keeps}
use Rattle.vsd_stages.proofs.texts.note_type.Given as goal

abbrev pub invariant-loop-k : goal.invariant-loop-k
invariant-loop-k l = record {
  told : AreTold l.tables l.texts.items l.t l.k;
  keeps : Keeps l.tables l.initial.texts.items l.texts.items;
  right : AreRight l.tables l.texts.items;
}
