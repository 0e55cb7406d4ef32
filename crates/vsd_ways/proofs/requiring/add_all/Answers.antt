use Rattle.std.proofs.Common.{refl, sym, inl, inr, arith}
use Rattle.vsd_ways.specs.Known.{Serves, Way}
use Rattle.vsd_ways.proofs.FoundLemmas.{before-split, before-more, before-here, some-before, before-all}
use Rattle.vsd_ways.proofs.WaysLemmas.{meets_same}
use Rattle.vsd_ways.proofs.requiring.add_all.Goals as goal

pub loop-i-preserved : goal.loop-i-preserved
loop-i-preserved c o args =
    let i = c.loop-i.i in
    let ways = c.args.wanted.now in
    let way : Way = (c.at.result.0.now.items, c.at.result.1.now) in
    let P : Way → Type 0 = Serves o args in
    let now = c.in_ok-add_same.ensures o args in
    let before = c.loop-i.invariant o args in
    let to = meets_same c.as_slice.result.now way.0 args args c.as_slice.ensures.value refl in
    let from = meets_same way.0 c.as_slice.result.now args args (sym c.as_slice.ensures.value) refl in (
      λ m. elim (now.0 m) [
        | inl w ↦ (elim (before.0 w) [ inl old ↦ inl old | inr b ↦ inr (before-more P ways i b) ])
        | inr f ↦ inr (before-here P ways i way c.at.ensures (f.0, to f.1))
      ],
      λ e. now.1 (elim e [
        | inl old ↦ inl (before.1 (inl old))
        | inr b ↦ (elim (before-split P ways i way c.at.ensures b) [ inl w ↦ inl (before.1 (inr w)) | inr p ↦ inr (p.0, from p.1) ])
      ]),
    )

pub returns : goal.returns
returns c o args =
    let ways = c.args.wanted.now in
    let P : Way → Type 0 = Serves o args in
    let exact = c.loop-i.invariant o args in (
      λ m. elim (exact.0 m) [ inl old ↦ inl old | inr b ↦ inr (some-before P ways c.loop-i.i b) ],
      λ e. exact.1 (elim e [ inl old ↦ inl old | inr s ↦ inr (before-all P ways c.loop-i.i (omega arith) s) ]),
    )
