use Rattle.std.proofs.Common.{◌∙◌, arith}
use Rattle.std.proofs.lemmas.List.{length-take}
use Rattle.vsd_outside.proofs.Known.{given_more}
use Rattle.vsd_outside.proofs.reading.read_up_to.Goals as goal

pub loop-text-preserved : goal.loop-text-preserved
loop-text-preserved g c = record {
  given =
      given_more _ _ _ _ _ _ c.loop-text.invariant.given c.in_ok-read_piece.ensures.bytes
      c.in_ok-read_piece.ensures.adds;
  within =
      let grown = c.in_ok-read_piece.ensures.grows in
      let bound = c.in_ok-read_piece.ensures.bound in
      omega (arith, length-take c.min-room.result c.deref_mut.result.now);
  piece = c.loop-text.invariant.piece;
  no_fault = c.in_ok-read_piece.ensures.no_fault ∙ c.loop-text.invariant.no_fault;
  stays_sure = λ sure. c.in_ok-read_piece.ensures.stays_sure (c.loop-text.invariant.stays_sure sure);
}
