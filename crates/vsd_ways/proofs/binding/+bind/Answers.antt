use Rattle.std.proofs.Common.{◌≡◌, ◌+◌, ◌<◌, ◌↔◌, List, length, map, take, refl, sym, ap, ◌∙◌, IsTrue, Some, arith}
use Rattle.std.specs.List.{slice_get}
use Rattle.std.proofs.lemmas.Bool.{false≢true}
use Rattle.vsd_terms.specs.declared.term.Term.{Term}
use Rattle.vsd_terms.specs.Substitution.{parameters_of, subst_of}
use Rattle.vsd_terms.proofs.PlaceLemmas.{greatest-drop}
use Rattle.vsd_ways.specs.Known.{Meets}
use Rattle.vsd_ways.proofs.KnownLemmas.{param_exact, taken_step, taken_whole, IfOk_map}
use Rattle.vsd_ways.proofs.binding.+bind.Goals as goal

pub bind-returns-in-Param-default-clause-exact : goal.bind-returns-in-Param-default-clause-exact
bind-returns-in-Param-default-clause-exact t c =
    let known = c.args.known.now.items in
    let new = c.settle.new.known.items in
    IfOk_map
    (λ able. (args : List Term) → (IsTrue able × Meets new args) ↔ (Meets known args × (slice_get args c.in-Param-default.place ≡ Some c.args.whole.now)))
    (λ able. (args : List Term) → (IsTrue able × Meets new args) ↔ (Meets known args × (subst_of args c.args.pattern.now ≡ c.args.whole.now)))
    c.settle.result
    (λ able exact args. param_exact known new args c.in-Param-default.place c.args.pattern.now c.args.whole.now able c.in-Param-default.is-0 c.requires (exact args))
    c.settle.ensures.exact

pub bind_all-returns-then-not-branch-clause-exact :
    goal.bind_all-returns-then-not-branch-clause-exact
bind_all-returns-then-not-branch-clause-exact t c args =
    let i = c.loop-i.i in
    let xs = c.as_slice-patterns.result.now in
    let ys = c.as_slice-wholes.result.now in
    let x_in : i < length xs = omega arith in
    let y_in : i < length ys = omega (arith, c.loop-i.invariant.long) in
    let step = taken_step (subst_of args) xs ys i c.index-patterns-i.result c.index-wholes-i.result x_in y_in c.index-patterns-i.is c.index-wholes-i.is in (
      λ both. absurd (false≢true both.0),
      λ both.
          let whole : map (subst_of args) xs ≡ ys = ap (map (subst_of args)) c.as_slice-patterns.ensures ∙ both.1 ∙ sym c.as_slice-wholes.ensures in
          let parts = step.0 (ap (take (i + 1)) whole) in
          let before = (c.loop-i.invariant.exact args).1 (both.0, parts.0) in
          let able = (c.in_ok-bind.ensures.exact args).1 (before, parts.1) in
          absurd (false≢true (sym c.if-not-branch.true ∙ able.0)),
    )

pub bind_all-loop-i-preserved : goal.bind_all-loop-i-preserved
bind_all-loop-i-preserved t c =
    let i = c.loop-i.i in
    let xs = c.as_slice-patterns.result.now in
    let ys = c.as_slice-wholes.result.now in
    let x_in : i < length xs = omega arith in
    let y_in : i < length ys = omega (arith, c.loop-i.invariant.long) in
    let size : length c.bind.new.known.items ≡ length c.loop-i.known.items = c.in_ok-bind.ensures.long in
    record {
      long = c.loop-i.invariant.long;
      size = size ∙ c.loop-i.invariant.size;
      fits = omega (arith, size, (greatest-drop parameters_of xs i (length c.loop-i.known.items) c.index-patterns-i.result x_in c.index-patterns-i.is c.loop-i.invariant.fits).1);
      exact = λ args.
          let step = taken_step (subst_of args) xs ys i c.index-patterns-i.result c.index-wholes-i.result x_in y_in c.index-patterns-i.is c.index-wholes-i.is in
          let now = c.in_ok-bind.ensures.exact args in
          let before = c.loop-i.invariant.exact args in (
            λ meets.
                let a = now.0 (c.if-not-branch.false, meets) in
                let b = before.0 a.0 in
                (b.0, step.1 (b.1, a.1)),
            λ both.
                let parts = step.0 both.1 in
                (now.1 (before.1 (both.0, parts.0), parts.1)).1,
          );
    }

pub bind_all-returns-clause-exact : goal.bind_all-returns-clause-exact
bind_all-returns-clause-exact t c args =
    let xs = c.as_slice-patterns.result.now in
    let ys = c.as_slice-wholes.result.now in
    let whole = taken_whole (subst_of args) xs ys c.loop-i.i c.args.patterns.now c.args.wholes.now (omega arith) c.loop-i.invariant.long c.as_slice-patterns.ensures c.as_slice-wholes.ensures in
    let exact = c.loop-i.invariant.exact args in
    (λ both. let h = exact.0 both.1 in (h.0, whole.0 h.1), λ both. (refl, exact.1 (both.0, whole.1 both.1)))
