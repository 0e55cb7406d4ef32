use Rattle.std.proofs.Common.{◌<◌, length, map, refl, ap, ◌∙◌, sym, arith}
use Rattle.std.proofs.lemmas.Bool.{false≢true}
use Rattle.std.proofs.lemmas.List.{length-map}
use Rattle.std.proofs.lemmas.Option.{slice_get_read}
use Rattle.vsd_terms.specs.Substitution.{parameters_of}
use Rattle.vsd_terms.proofs.PlaceLemmas.{slice_get-map_at}
use Rattle.vsd_terms.proofs.SubstitutionLaws.{get_or-greatest}
use Rattle.vsd_lift.specs.Chain.{envs_of}
use Rattle.vsd_lift.specs.Lift.{lift}
use Rattle.vsd_ways.proofs.KnownLemmas.{before_step, before_end}
use Rattle.vsd_ways.proofs.having.meets.Goals as goal

pub is_wanted-requires-clause-fits : goal.is_wanted-requires-clause-fits
is_wanted-requires-clause-fits c above =
    let args = c.args.args.now in
    let inside : c.loop-i.i < length args = omega (arith, c.loop-i.invariant.0) in
    omega (arith, c.requires.fit above, get_or-greatest parameters_of args c.loop-i.i c.index-args-i.result inside, ap parameters_of c.index-args-i.is)

pub returns-then-not-is_wanted : goal.returns-then-not-is_wanted
returns-then-not-is_wanted c =
    let i = c.loop-i.i in
    let args = c.args.args.now in
    let known = c.args.known.now in
    let up = lift (envs_of c.args.decls.now c.args.chain.now) c.args.level in
    let inside : i < length args = omega (arith, c.loop-i.invariant.0) in
    let w_inside : i < length known = omega arith in (
      λ no_. absurd (false≢true no_),
      λ all.
          let wanted = all.there i c.index-known-i.result (up c.index-args-i.result) (slice_get_read known (length known) i c.index-known-i.result refl w_inside c.index-known-i.is) (slice_get-map_at up args i c.index-args-i.result inside c.index-args-i.is) in
          absurd (false≢true (sym c.if-not-is_wanted.true ∙ c.is_wanted.ensures.1 wanted)),
    )

pub loop-i-preserved : goal.loop-i-preserved
loop-i-preserved c =
    let i = c.loop-i.i in
    let args = c.args.args.now in
    let known = c.args.known.now in
    let up = lift (envs_of c.args.decls.now c.args.chain.now) c.args.level in
    let inside : i < length args = omega (arith, c.loop-i.invariant.0) in
    let w_inside : i < length known = omega arith in
    let step = before_step i known (map up args) c.index-known-i.result (up c.index-args-i.result) (slice_get_read known (length known) i c.index-known-i.result refl w_inside c.index-known-i.is) (slice_get-map_at up args i c.index-args-i.result inside c.index-args-i.is) in
    (c.loop-i.invariant.0, step.0 (c.loop-i.invariant.1, c.is_wanted.ensures.0 c.if-not-is_wanted.false))

pub returns : goal.returns
returns c =
    let args = c.args.args.now in
    let known = c.args.known.now in
    let up = lift (envs_of c.args.decls.now c.args.chain.now) c.args.level in
    let end = before_end c.loop-i.i known (map up args) (omega arith) (length-map args up ∙ c.loop-i.invariant.0) in
    (λ yes_. end.0 c.loop-i.invariant.1, λ all. refl)
