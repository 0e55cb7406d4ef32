use Rattle.std.proofs.Common.{◌≡◌, ℕ, List, [], length, Option, Some, IsSomeAnd, inl, inr, sym, ap, ◌∙◌, subst, arith}
use Rattle.std.specs.List.{slice_get}
use Rattle.std.proofs.lemmas.Bool.{cases_lt}
use Rattle.std.proofs.lemmas.List.{length_push}
use Rattle.std.proofs.lemmas.Option.{slice_get_within}
use Rattle.vsd_lift.proofs.ChainLemmas.{slice_get-left, slice_get-seam}
use Rattle.vsd_overrides.specs.Targets.{AreTargets}
use Rattle.vsd_overrides.specs.declared.target.Target.{Target}
use Rattle.vsd_overrides.proofs.MeaningLemmas.{entry_at}
use Rattle.vsd_overrides.proofs.table.targets.Goals as goal

pub loop-at-preserved : goal.loop-at-preserved
loop-at-preserved c =
    let ds = c.args.h.now.decls.now in
    let rows = c.loop-at.rows in
    let at = c.loop-at.at in
    let row = c.in_ok-row.row in
    let count = c.loop-at.invariant.count in
    record {
      count = ap length c.in_ok-push.ensures.ok ∙ length_push rows row ∙ omega (arith, count);
      done = λ n x below here.
          elim (cases_lt n at) [
            | inl lt ↦ (
                let same : slice_get c.push.new.self n ≡ slice_get rows n = ap (λ l. slice_get l n) c.in_ok-push.ensures.ok ∙ slice_get-left rows _ n (omega (arith, count)) in
                subst (λ e. IsSomeAnd e (AreTargets ds n x)) (sym same) (c.loop-at.invariant.done n x lt here)
                )
            | inr ge ↦ (
                let last : n ≡ at = omega arith in
                let put : slice_get c.push.new.self n ≡ Some row = ap (λ l. slice_get l n) c.in_ok-push.ensures.ok ∙ slice_get-seam rows row n (omega (arith, count)) in
                let are : AreTargets ds n x row = subst (λ (k : ℕ). AreTargets ds k x row) (sym last) (c.in_ok-row.ensures x (ap (slice_get ds) (sym last) ∙ here)) in
                subst (λ e. IsSomeAnd e (AreTargets ds n x)) (sym put) are
                )
          ];
    }

pub returns : goal.returns
returns c =
    let ds = c.args.h.now.decls.now in
    let long : c.loop-at.at ≡ length ds = omega arith in
    let none : List (Option Target) = [] in
    record {
      rows = c.loop-at.invariant.count ∙ long;
      each = λ n x here. entry_at (AreTargets ds n x) c.loop-at.rows n none (c.loop-at.invariant.done n x (omega (arith, slice_get_within ds n x here)) here);
    }
