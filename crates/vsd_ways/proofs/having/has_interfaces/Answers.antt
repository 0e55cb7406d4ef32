use Rattle.std.proofs.Common.{◌≡◌, ℕ, get_or, ap, ◌∙◌, sym, subst, Some, inl, inr, arith}
use Rattle.std.specs.List.{slice_get}
use Rattle.std.proofs.lemmas.Bool.{cases_lt}
use Rattle.std.proofs.lemmas.Option.{slice_get-get_or, slice_get_within}
use Rattle.vsd_ast.specs.declared.declarations.Located.{Located}
use Rattle.vsd_lift.specs.Chain.{envs_of}
use Rattle.vsd_lift.specs.Lift.{lift}
use Rattle.vsd_ways.specs.Found.{SomeOf}
use Rattle.vsd_ways.specs.Leads.{LeadsTo}
use Rattle.vsd_ways.proofs.ClassLemmas.{class_at}
use Rattle.vsd_ways.proofs.having.has_interfaces.Goals as goal

pub loop-level-init : goal.loop-level-init
loop-level-init c owners are o owner wanted asked =
    (λ m. absurd (c.all_but-found.ensures o wanted m), λ w. absurd (omega (arith, w.1)))

pub loop-level-preserved : goal.loop-level-preserved
loop-level-preserved c owners are o owner wanted asked =
    let h = c.args.h.now in
    let ds = h.decls.now in
    let chain = c.args.chain.now in
    let level = c.loop-level.level in
    let before = c.loop-level.invariant owners are o owner wanted asked in
    let stands = slice_get-get_or chain level 0 c.loop-level-test.true in
    let x = class_at ds h.places.now h.depths.now chain c.requires.settled c.requires.upward level c.loop-level-test.true in
    let now = c.mark_level.ensures owners are (get_or chain level 0) stands x.0 x.1 o owner asked in (
      λ m. elim (now.0 m) [
        | inl old ↦ (let w = before.0 old in (w.0, omega (arith, w.1)))
        | inr named ↦ (record { level = level; number = get_or chain level 0; stands = stands; class = x.0; declared = x.1; named = named }, omega arith)
      ],
      λ w. elim (cases_lt w.0.level level) [
        | inl lt ↦ now.1 (inl (before.1 (w.0, lt)))
        | inr ge ↦ (
            let here : w.0.level ≡ level = omega (arith, w.1) in
            let there : slice_get chain level ≡ Some w.0.number = ap (slice_get chain) (sym here) ∙ w.0.stands in
            let named = subst (λ (l : ℕ). SomeOf (λ (i : Located). LeadsTo ds (lift (envs_of ds chain) l i.term) owner) w.0.class.interfaces) here w.0.named in
            (c.mark_level.ensures owners are w.0.number there w.0.class w.0.declared o owner asked).1 (inr named)
            )
      ],
    )

pub returns : goal.returns
returns c owners are o owner wanted asked =
    let exact = c.loop-level.invariant owners are o owner wanted asked in
    (λ m. (exact.0 m).0, λ w. exact.1 (w, omega (arith, slice_get_within c.args.chain.now w.level w.number w.stands)))
