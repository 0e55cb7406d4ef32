use Rattle.std.proofs.Common.{◌≡◌, ◌<◌, length, map, refl, ◌∙◌, arith}
use Rattle.std.proofs.lemmas.List.{length-map}
use Rattle.std.proofs.lemmas.Option.{slice_get_read}
use Rattle.vsd_terms.specs.Substitution.{parameters_of, subst_of}
use Rattle.vsd_terms.proofs.PlaceLemmas.{greatest-drop, slice_get-map_at}
use Rattle.vsd_ways.proofs.KnownLemmas.{before_step, before_end}
use Rattle.vsd_ways.proofs.binding.back.Goals as goal

pub loop-i-preserved : goal.loop-i-preserved
loop-i-preserved c =
    let i = c.loop-i.i in
    let patterns = c.args.patterns.now in
    let wanted = c.args.wanted.now in
    let inside : i < length patterns = omega (arith, c.loop-i.invariant.long) in
    let w_inside : i < length wanted = omega arith in
    let size : length c.bind_wanted.new.known.items ≡ length c.loop-i.known.items = c.in_ok-bind_wanted.ensures.long in
    record {
      long = c.loop-i.invariant.long;
      size = size ∙ c.loop-i.invariant.size;
      fits = (greatest-drop parameters_of patterns i c.args.parameters c.index-patterns-i.result inside c.index-patterns-i.is c.loop-i.invariant.fits).1;
      exact = λ args long.
          let step = before_step i wanted (map (subst_of args) patterns) c.index-wanted-i.result (subst_of args c.index-patterns-i.result) (slice_get_read wanted (length wanted) i c.index-wanted-i.result refl w_inside c.index-wanted-i.is) (slice_get-map_at (subst_of args) patterns i c.index-patterns-i.result inside c.index-patterns-i.is) in
          let now = c.in_ok-bind_wanted.ensures.exact args in
          let before = c.loop-i.invariant.exact args long in (
            λ meets.
                let a = now.0 (c.if-not-branch.false, meets) in
                step.0 (before.0 a.0, a.1),
            λ all.
                let parts = step.1 all in
                (now.1 (before.1 parts.0, parts.1)).1,
          );
    }

pub returns : goal.returns
returns c args long =
    let patterns = c.args.patterns.now in
    let wanted = c.args.wanted.now in
    let exact = c.loop-i.invariant.exact args long in
    let end = before_end c.loop-i.i wanted (map (subst_of args) patterns) (omega arith) (length-map patterns (subst_of args) ∙ c.loop-i.invariant.long) in
    (λ meets. end.0 (exact.0 meets), λ meets. exact.1 (end.1 meets))
