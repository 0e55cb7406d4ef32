use Rattle.std.proofs.Common.{◌<◌, inl, inr, subst, sym, arith}
use Rattle.std.proofs.lemmas.Bool.{cases_order}
use Rattle.vsd_compat.specs.Matrices.{bits_of}
use Rattle.vsd_compat.specs.Settling.{HasVariant}
use Rattle.vsd_compat.proofs.Moving.{Moves-twice, both_false}
use Rattle.vsd_compat.proofs.relation.relate_all.Goals as goal

pub loop-u-preserved : goal.loop-u-preserved
loop-u-preserved c =
    let before = c.loop-u.invariant in
    record {
      moves = Moves-twice _ _ _ _ _ before.moves c.relate-changed.ensures.moves;
      sound = λ sound. c.relate-changed.ensures.sound (before.sound sound);
      related = λ still k below.
          let parts = both_false c.loop-u.changed c.relate-changed.result still in
          elim (cases_order k c.loop-u.u) [
            | inl here ↦ subst (HasVariant c.args.closed.now (bits_of c.relate-changed.new.matrix) c.args.t) (sym here) (c.relate-changed.ensures.settled parts.1)
            | inr other ↦
                let low : k < c.loop-u.u = elim other [ inl less ↦ less | inr more ↦ absurd (omega arith) ] in
                subst (λ b. HasVariant c.args.closed.now b c.args.t k) (sym (c.relate-changed.ensures.moves.stays parts.1)) (before.related parts.0 k low)
          ];
    }
