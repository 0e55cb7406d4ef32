use Rattle.std.proofs.Common.{◌<◌, inl, inr, subst, sym, ap, ◌∙◌, arith}
use Rattle.std.proofs.lemmas.Bool.{cases_order}
use Rattle.vsd_compat.specs.Matrices.{bits_of}
use Rattle.vsd_compat.specs.Settling.{IsSettled, turned}
use Rattle.vsd_compat.proofs.Moving.{Moves-twice, both_false}
use Rattle.vsd_compat.proofs.Sweeping.{turned-twice}
use Rattle.vsd_compat.proofs.variances.sweep.Goals as goal

pub loop-k-preserved : goal.loop-k-preserved
loop-k-preserved c =
    let s = c.args.closed.now in
    let before = c.loop-k.invariant in
    let row = c.settle-changed.ensures in
    let count = c.args.matrix.now.count in
    record {
      moves = Moves-twice _ _ _ _ _ before.moves row.moves;
      sound = λ sound. row.sound (before.sound sound);
      settled = λ still j below.
          let parts = both_false c.loop-k.changed c.settle-changed.result still in
          elim (cases_order j c.loop-k.k) [
            | inl here ↦ subst (IsSettled s (bits_of c.settle-changed.new.matrix)) (c.turn-t.ensures.turned ∙ ap (turned count c.args.forward) (sym here)) (row.settled parts.1)
            | inr other ↦
                let low : j < c.loop-k.k = elim other [ inl less ↦ less | inr more ↦ absurd (omega arith) ] in
                subst (λ b. IsSettled s b (turned count c.args.forward j)) (sym (row.moves.stays parts.1)) (before.settled parts.0 j low)
          ];
    }

pub returns-clause-settled : goal.returns-clause-settled
returns-clause-settled c = λ still t within.
    let s = c.args.closed.now in
    let count = c.args.matrix.now.count in
    let t_in : t < count = omega (arith, within, c.requires.count) in
    let there = turned-twice count c.args.forward t t_in in
    subst (IsSettled s (bits_of c.loop-k.matrix)) there.1 (c.loop-k.invariant.settled still (turned count c.args.forward t) (omega (arith, there.0, c.loop-k-test.false)))
