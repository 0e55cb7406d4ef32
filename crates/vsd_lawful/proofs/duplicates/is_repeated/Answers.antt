use Rattle.std.proofs.Common.{◌≡◌, ◌<◌, inl, inr, length, Some, sym, refl, ap, ◌∙◌, arith}
use Rattle.std.specs.Bool.{Decides}
use Rattle.std.specs.List.{slice_get}
use Rattle.std.proofs.lemmas.Bool.{false≢true, cases_lt}
use Rattle.std.proofs.lemmas.Option.{slice_get-get_or, slice_get_within}
use Rattle.vsd_ast.specs.declared.declarations.Param.{Param}
use Rattle.vsd_terms.proofs.KeyLemmas.{same_bytes-Decides}
use Rattle.vsd_lawful.specs.Twice.{SameParam}
use Rattle.vsd_lawful.proofs.duplicates.is_repeated.Goals as goal
use Rattle.vsd_lawful.proofs.duplicates.is_repeated.Goals.{After-eq}

within : (c : After-eq) → c.loop-earlier.earlier < length c.args.params.now
within c = let w = slice_get_within c.args.params.now c.args.place c.args.param.now c.requires in omega arith

here : (c : After-eq) → slice_get c.args.params.now c.loop-earlier.earlier ≡ Some c.index-params-earlier.result
here c = slice_get-get_or c.args.params.now c.loop-earlier.earlier c.index-params-earlier.result (within c) ∙ ap Some (sym c.index-params-earlier.is)

-- the test compares the two names
compares : (c : After-eq) → Decides c.eq.result (SameParam c.index-params-earlier.result c.args.param.now)
compares c =
    let d = same_bytes-Decides c.as_slice.result.now c.as_slice-in-loop-earlier.result.now in
    let left = c.as_slice.ensures ∙ ap (λ (p : Param). p.name) (sym c.index-params-earlier.is) in
    let right = c.as_slice-in-loop-earlier.ensures in
    (λ h. sym left ∙ d.0 (sym c.eq.ensures ∙ h) ∙ right, λ e. c.eq.ensures ∙ d.1 (left ∙ e ∙ sym right))

pub returns-then-eq : goal.returns-then-eq
returns-then-eq c =
    let after = (goal.at.returns-then-eq c).After-eq in (
      λ _. record {
        earlier = c.loop-earlier.earlier;
        before = omega arith;
        other = c.index-params-earlier.result;
        there = here after;
        alike = (compares after).0 c.if-eq.true;
      },
      λ _. refl,
    )

pub loop-earlier-preserved : goal.loop-earlier-preserved
loop-earlier-preserved c = λ k q below there same.
    let after = (goal.at.loop-earlier-preserved c).After-eq in
    let other : k ≡ c.loop-earlier.earlier → ⊥ = λ e.
    let read : slice_get c.args.params.now k ≡ Some c.index-params-earlier.result = ap (slice_get c.args.params.now) e ∙ here after in
    let is : q ≡ c.index-params-earlier.result = cc in
    false≢true (sym c.if-eq.false ∙ (compares after).1 (sym (ap (λ (p : Param). p.name) is) ∙ same)) in
    elim (cases_lt k c.loop-earlier.earlier) [
      | inl lt ↦ c.loop-earlier.invariant k q lt there same
      | inr ge ↦ other (omega arith)
    ]

pub returns : goal.returns
returns c = (λ no_one. absurd (false≢true no_one), λ r. absurd (c.loop-earlier.invariant r.earlier r.other (omega (arith, r.before)) r.there r.alike))
