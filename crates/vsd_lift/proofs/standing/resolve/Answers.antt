use Rattle.std.proofs.Common.{ℕ, ◌<◌, ◌-◌, ◌∙◌, length, get_or, slice_get, ap, sym, arith}
use Rattle.std.proofs.lemmas.List.{length-map}
use Rattle.std.proofs.lemmas.List.Elements.{All-get_or}
use Rattle.vsd_terms.specs.Substitution.{parameters_of}
use Rattle.vsd_terms.proofs.SubstitutionLemmas.{parameters_of-Param}
use Rattle.vsd_lift.specs.Chain.{arguments_at, envs_of}
use Rattle.vsd_lift.proofs.LiftLemmas.{argument_fits, env_at-envs_of, lift-Param}
use Rattle.vsd_lift.proofs.standing.resolve.Goals as goal

pub bounds-base_arguments-place : goal.bounds-base_arguments-place
bounds-base_arguments-place c =
    let level = c.loop-at.at - 1 in
    let declared : get_or c.args.chain.now level 0 < length c.args.decls.now = All-get_or (λ (n : ℕ). n < length c.args.decls.now) c.args.chain.now level 0 (omega arith) c.requires.ladder.declared in
    let given = env_at-envs_of c.args.decls.now c.args.chain.now level c.index-decls-chain.result (omega arith) declared c.index-decls-chain.is ∙ sym c.base_arguments.ensures in
    omega (arith, c.loop-at.invariant.fits c.loop-at-test.true, ap length given, ap parameters_of c.in-Param.is, parameters_of-Param c.in-Param.place)

pub loop-at-preserved : goal.loop-at-preserved
loop-at-preserved c =
    let ds = c.args.decls.now in
    let chain = c.args.chain.now in
    let envs = envs_of ds chain in
    let level = c.loop-at.at - 1 in
    let args = c.base_arguments.result.now in
    let u = c.index-base_arguments-place.result in
    let declared : get_or chain level 0 < length ds = All-get_or (λ (n : ℕ). n < length ds) chain level 0 (omega arith) c.requires.ladder.declared in
    let given = env_at-envs_of ds chain level c.index-decls-chain.result (omega arith) declared c.index-decls-chain.is ∙ sym c.base_arguments.ensures in
    let inside : c.in-Param.place < length args = omega (arith, c.loop-at.invariant.fits c.loop-at-test.true, ap length given, ap parameters_of c.in-Param.is, parameters_of-Param c.in-Param.place) in
    record {
      same = lift-Param envs level c.loop-at.at c.in-Param.place c.loop-at.standing.now u args (omega arith) c.in-Param.is given inside c.index-base_arguments-place.is ∙ c.loop-at.invariant.same;
      within = omega arith;
      fits = argument_fits envs level c.in-Param.place u args c.requires.ladder.envs (omega (arith, length-map chain (λ n. arguments_at (slice_get ds n)))) given inside c.index-base_arguments-place.is;
    }
