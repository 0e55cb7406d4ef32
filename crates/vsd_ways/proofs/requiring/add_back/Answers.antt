use Rattle.std.proofs.Common.{◌≡◌, map, ap, sym, inl, inr, arith}
use Rattle.vsd_terms.specs.Substitution.{subst_of}
use Rattle.vsd_ways.specs.Known.{Serves, Way}
use Rattle.vsd_ways.proofs.FoundLemmas.{before-split, before-more, before-here, some-before, before-all}
use Rattle.vsd_ways.proofs.WaysLemmas.{meets_same}
use Rattle.vsd_ways.proofs.requiring.add_back.Goals as goal

pub loop-i-preserved : goal.loop-i-preserved
loop-i-preserved c o args long =
    let i = c.loop-i.i in
    let ways = c.args.wanted.now in
    let way : Way = (c.at.result.0.now.items, c.at.result.1.now) in
    let up = map (subst_of args) c.args.patterns.now in
    let P : Way → Type 0 = Serves o up in
    let now = c.in_ok-add_some.ensures o args in
    let found = c.in_ok-found.ensures args long in
    let before = c.loop-i.invariant o args long in
    let put = map (subst_of args) c.as_slice.result.now in
    let up_is : put ≡ up = ap (map (subst_of args)) c.as_slice.ensures in
    let to = meets_same c.as_slice-in-loop-i.result.now way.0 put up c.as_slice-in-loop-i.ensures.value up_is in
    let from = meets_same way.0 c.as_slice-in-loop-i.result.now up put (sym c.as_slice-in-loop-i.ensures.value) (sym up_is) in (
      λ m. elim (now.0 m) [
        | inl w ↦ (elim (before.0 w) [ inl old ↦ inl old | inr b ↦ inr (before-more P ways i b) ])
        | inr f ↦ inr (before-here P ways i way c.at.ensures (f.0, to (found.0 f.1)))
      ],
      λ e. now.1 (elim e [
        | inl old ↦ inl (before.1 (inl old))
        | inr b ↦ (elim (before-split P ways i way c.at.ensures b) [ inl w ↦ inl (before.1 (inr w)) | inr p ↦ inr (p.0, found.1 (from p.1)) ])
      ]),
    )

pub returns : goal.returns
returns c o args long =
    let ways = c.args.wanted.now in
    let P : Way → Type 0 = Serves o (map (subst_of args) c.args.patterns.now) in
    let exact = c.loop-i.invariant o args long in (
      λ m. elim (exact.0 m) [ inl old ↦ inl old | inr b ↦ inr (some-before P ways c.loop-i.i b) ],
      λ e. exact.1 (elim e [ inl old ↦ inl old | inr s ↦ inr (before-all P ways c.loop-i.i (omega arith) s) ]),
    )
