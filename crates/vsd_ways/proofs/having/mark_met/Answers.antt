use Rattle.std.proofs.Common.{List, map, ap, ◌∙◌, sym, inl, inr, arith}
use Rattle.std.proofs.lemmas.Bool.{false≢true}
use Rattle.vsd_terms.specs.declared.term.Term.{Term}
use Rattle.vsd_lift.specs.Chain.{envs_of}
use Rattle.vsd_lift.specs.Lift.{lift}
use Rattle.vsd_ways.specs.Known.{Meets, Serves, Way}
use Rattle.vsd_ways.proofs.FoundLemmas.{before-split, before-more, before-here, some-before, before-all}
use Rattle.vsd_ways.proofs.WaysLemmas.{meets_same}
use Rattle.vsd_ways.proofs.having.mark_met.Goals as goal

pub loop-i-preserved-then-not-has_more : goal.loop-i-preserved-then-not-has_more
loop-i-preserved-then-not-has_more c o =
    let i = c.loop-i.i in
    let ways = c.args.ways.now in
    let way : Way = (c.at.result.0.now.items, c.at.result.1.now) in
    let P : Way → Type 0 = Serves o (map (lift (envs_of c.args.decls.now c.args.chain.now) c.args.level) c.args.args.now) in
    let all = c.has_more.ensures.0 c.if-not-has_more.true in
    let before = c.loop-i.invariant o in (
      λ m. elim (before.0 m) [ inl old ↦ inl old | inr b ↦ inr (before-more P ways i b) ],
      λ e. elim e [
        | inl old ↦ before.1 (inl old)
        | inr b ↦ (elim (before-split P ways i way c.at.ensures b) [ inl w ↦ before.1 (inr w) | inr p ↦ all o p.0 ])
      ],
    )

pub loop-i-preserved-then-not-meets : goal.loop-i-preserved-then-not-meets
loop-i-preserved-then-not-meets c o =
    let i = c.loop-i.i in
    let ways = c.args.ways.now in
    let up : List Term → List Term = map (lift (envs_of c.args.decls.now c.args.chain.now) c.args.level) in
    let args = up c.args.args.now in
    let way : Way = (c.at.result.0.now.items, c.at.result.1.now) in
    let P : Way → Type 0 = Serves o args in
    let missed : Meets way.0 args → ⊥ = λ m. false≢true (sym c.if-not-meets.true ∙ c.meets.ensures.1 (meets_same way.0 c.as_slice.result.now args (up c.as_slice-in-loop-i.result.now) (sym c.as_slice.ensures.value) (ap up (sym c.as_slice-in-loop-i.ensures)) m)) in
    let before = c.loop-i.invariant o in (
      λ m. elim (before.0 m) [ inl old ↦ inl old | inr b ↦ inr (before-more P ways i b) ],
      λ e. elim e [
        | inl old ↦ before.1 (inl old)
        | inr b ↦ (elim (before-split P ways i way c.at.ensures b) [ inl w ↦ before.1 (inr w) | inr p ↦ absurd (missed p.1) ])
      ],
    )

pub loop-i-preserved : goal.loop-i-preserved
loop-i-preserved c o =
    let i = c.loop-i.i in
    let ways = c.args.ways.now in
    let up : List Term → List Term = map (lift (envs_of c.args.decls.now c.args.chain.now) c.args.level) in
    let args = up c.args.args.now in
    let way : Way = (c.at.result.0.now.items, c.at.result.1.now) in
    let P : Way → Type 0 = Serves o args in
    let meets : Meets way.0 args = meets_same c.as_slice.result.now way.0 (up c.as_slice-in-loop-i.result.now) args c.as_slice.ensures.value (ap up c.as_slice-in-loop-i.ensures) (c.meets.ensures.0 c.if-not-meets.false) in
    let now = c.join.ensures o in
    let before = c.loop-i.invariant o in (
      λ m. elim (now.0 m) [
        | inl w ↦ (elim (before.0 w) [ inl old ↦ inl old | inr b ↦ inr (before-more P ways i b) ])
        | inr own ↦ inr (before-here P ways i way c.at.ensures (own, meets))
      ],
      λ e. now.1 (elim e [
        | inl old ↦ inl (before.1 (inl old))
        | inr b ↦ (elim (before-split P ways i way c.at.ensures b) [ inl w ↦ inl (before.1 (inr w)) | inr p ↦ inr p.0 ])
      ]),
    )

pub returns : goal.returns
returns c o =
    let ways = c.args.ways.now in
    let P : Way → Type 0 = Serves o (map (lift (envs_of c.args.decls.now c.args.chain.now) c.args.level) c.args.args.now) in
    let exact = c.loop-i.invariant o in (
      λ m. elim (exact.0 m) [ inl old ↦ inl old | inr b ↦ inr (some-before P ways c.loop-i.i b) ],
      λ e. exact.1 (elim e [ inl old ↦ inl old | inr s ↦ inr (before-all P ways c.loop-i.i (omega arith) s) ]),
    )
