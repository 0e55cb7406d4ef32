use Rattle.std.proofs.Common.{◌<◌, ℕ, IfSome, inl, inr, length, subst, sym, ◌∙◌, arith}
use Rattle.std.proofs.lemmas.Bool.{cases_order}
use Rattle.vsd_compat.specs.Matrices.{bits_of, IsSet}
use Rattle.vsd_compat.proofs.Sweeping.{if_some_weaker, object_bit}
use Rattle.vsd_compat.proofs.variances.start.Goals as goal

pub loop-t-preserved : goal.loop-t-preserved
loop-t-preserved c =
    let before = c.loop-t.invariant in
    let row = c.start_row.ensures in
    let t = c.loop-t.t in
    let o = c.number-object.result in
    let old = bits_of c.loop-t.matrix in
    let new = bits_of c.start_row.new.matrix in
    record {
      count = row.count ∙ before.count;
      sound = row.sound before.sound;
      own = λ k below. elim (cases_order k t) [
        | inl here ↦ subst (λ n. IsSet new n n) (sym here) row.own
        | inr other ↦
            let low : k < t = elim other [ inl less ↦ less | inr more ↦ absurd (omega arith) ] in
            row.kept k k (before.own k low)
      ];
      object = λ k below. elim (cases_order k t) [
        | inl here ↦ subst (λ n. IfSome o (IsSet new n)) (sym here) row.object
        | inr other ↦
            let low : k < t = elim other [ inl less ↦ less | inr more ↦ absurd (omega arith) ] in
            if_some_weaker o (IsSet old k) (IsSet new k) (λ x h. row.kept k x h) (before.object k low)
      ];
    }

pub returns-clause-started : goal.returns-clause-started
returns-clause-started c =
    let s = c.args.closed.now in
    let before = c.loop-t.invariant in
    let all : (t : ℕ) → t < length s.types → t < c.loop-t.t = λ t within. omega (arith, within, c.count-count.ensures.count, c.loop-t-test.false) in
    record {
      own = λ t within. before.own t (all t within);
      object = λ t u t_in u_in is. object_bit s (bits_of c.loop-t.matrix) c.number-object.result t c.count-count.ensures.distinct c.number-object.ensures.found c.number-object.ensures.present.1 (before.object t (all t t_in)) u u_in is;
    }
