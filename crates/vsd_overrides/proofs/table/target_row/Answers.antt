use Rattle.std.proofs.Common.{◌≡◌, ℕ, ◌<◌, ◌≤◌, List, length, get_or, Some, IsSomeAnd, inl, inr, refl, sym, ap, ◌∙◌, subst, arith}
use Rattle.std.specs.List.{slice_get}
use Rattle.std.proofs.lemmas.Bool.{cases_lt}
use Rattle.std.proofs.lemmas.List.{length_push}
use Rattle.std.proofs.lemmas.Option.{get_or_from_slice_get, slice_get-get_or, slice_get_read, slice_get_within}
use Rattle.vsd_ast.specs.declared.declarations.Decl.{Decl}
use Rattle.vsd_ast.specs.declared.declarations.Override.{Override}
use Rattle.vsd_lift.proofs.ChainLemmas.{slice_get-left, slice_get-seam}
use Rattle.vsd_overrides.specs.Targets.{IsTarget}
use Rattle.vsd_overrides.proofs.table.target_row.Goals as goal

pub target_of-target-requires-clause-told : goal.target_of-target-requires-clause-told
target_of-target-requires-clause-told c =
    let ds = c.args.h.now.decls.now in
    let at = c.args.at in
    let x : Decl = get_or ds at c.index-h-at.result in
    let all = c.as_slice-overrides.result.now in
    let o = c.index-overrides-i.result in
    let here : slice_get ds at ≡ Some x = slice_get-get_or ds at c.index-h-at.result c.requires.within in
    let there : slice_get all c.loop-i.i ≡ Some o = slice_get_read all (length all) c.loop-i.i o refl c.loop-i-test.true c.index-overrides-i.is in
    let one = ap (λ (l : List Override). slice_get l c.loop-i.i) (sym c.as_slice-overrides.ensures) ∙ there in
    c.requires.told x here c.loop-i.i o one

pub loop-i-preserved : goal.loop-i-preserved
loop-i-preserved c =
    let ds = c.args.h.now.decls.now in
    let at = c.args.at in
    let x : Decl = get_or ds at c.index-h-at.result in
    let all = c.as_slice-overrides.result.now in
    let row = c.loop-i.row in
    let i = c.loop-i.i in
    let t = c.target_of-target.result in
    let count = c.loop-i.invariant.count in
    record {
      count = ap length c.in_ok-push.ensures.ok ∙ length_push row t ∙ omega (arith, count);
      done = λ j o below there.
          let P = IsTarget ds at x in
          elim (cases_lt j i) [
            | inl lt ↦ (
                let same : slice_get c.push.new.self j ≡ slice_get row j = ap (λ l. slice_get l j) c.in_ok-push.ensures.ok ∙ slice_get-left row _ j (omega (arith, count)) in
                subst (λ e. IsSomeAnd e (P o)) (sym same) (c.loop-i.invariant.done j o lt there)
                )
            | inr ge ↦ (
                let last : j ≡ i = omega arith in
                let put : slice_get c.push.new.self j ≡ Some t = ap (λ l. slice_get l j) c.in_ok-push.ensures.ok ∙ slice_get-seam row t j (omega (arith, count)) in
                let read : slice_get all i ≡ Some c.index-overrides-i.result = slice_get_read all (length all) i c.index-overrides-i.result refl (omega arith) c.index-overrides-i.is in
                let one : o ≡ c.index-overrides-i.result = let both = sym there ∙ ap (slice_get all) last ∙ read in cc in
                subst (λ e. IsSomeAnd e (P o)) (sym put) (subst (λ (p : Override). P p t) (sym one) c.target_of-target.ensures)
                )
          ];
    }

pub returns : goal.returns
returns c x here =
    let ds = c.args.h.now.decls.now in
    let at = c.args.at in
    let read : get_or ds at c.index-h-at.result ≡ x = get_or_from_slice_get ds at x c.index-h-at.result here in
    let all : c.as_slice-overrides.result.now ≡ x.overrides = c.as_slice-overrides.ensures ∙ ap (λ (d : Decl). d.overrides) read in
    let P : Decl → List Override → Type 0 = λ y l. (j : ℕ) (o : Override) → j < c.loop-i.i → slice_get l j ≡ Some o → IsSomeAnd (slice_get c.loop-i.row j) (IsTarget ds at y o) in
    let done : P x x.overrides = subst (λ (l : List Override). P x l) all (subst (λ (y : Decl). P y c.as_slice-overrides.result.now) read c.loop-i.invariant.done) in
    let end : length c.as_slice-overrides.result.now ≤ c.loop-i.i = omega arith in
    let long : c.loop-i.i ≡ length c.as_slice-overrides.result.now = omega arith in
    record {
      long = c.loop-i.invariant.count ∙ long ∙ ap length all;
      each = λ j o there. done j o (omega (arith, slice_get_within x.overrides j o there, ap (λ (l : List Override). length l) all)) there;
    }
