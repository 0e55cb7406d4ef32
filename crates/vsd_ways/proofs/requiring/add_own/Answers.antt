use Rattle.std.proofs.Common.{◌≡◌, sym, ap, ◌∙◌, Some, inl, inr, arith}
use Rattle.std.specs.List.{slice_get}
use Rattle.std.proofs.lemmas.Bool.{cases_lt}
use Rattle.vsd_terms.specs.declared.term.Term.TheVariants.{Named}
use Rattle.vsd_ways.specs.Known.{owners_in}
use Rattle.vsd_ways.proofs.OwnersLemmas.{asked_at, asked_within}
use Rattle.vsd_ways.proofs.requiring.add_own.Goals as goal

pub loop-o-preserved : goal.loop-o-preserved
loop-o-preserved c p args =
    let o = c.loop-o.o in
    let owners = c.args.owners.now in
    let owner = c.index-owners-o.result in
    let here : slice_get (owners_in owners) o ≡ Some owner.now = asked_at owners o owner (omega arith) (omega arith) c.index-owners-o.is in
    let now = c.in_ok-add_owner.ensures p args in
    let before = c.loop-o.invariant p args in (
      λ m. elim (now.0 m) [
        | inl w ↦ (elim (before.0 w) [ inl old ↦ inl old | inr b ↦ inr (omega (arith, b.0), b.1) ])
        | inr e ↦ inr (omega (arith, e.0), ap (slice_get (owners_in owners)) e.0 ∙ here ∙ ap Some (sym e.1))
      ],
      λ e. now.1 (elim e [
        | inl old ↦ inl (before.1 (inl old))
        | inr b ↦ (elim (cases_lt p o) [
          | inl lt ↦ inl (before.1 (inr (lt, b.1)))
          | inr ge ↦ (
              let last : p ≡ o = omega (arith, b.0) in
              inr (last, let both = sym b.1 ∙ ap (slice_get (owners_in owners)) last ∙ here in cc)
              )
        ])
      ]),
    )

pub returns : goal.returns
returns c p args =
    let exact = c.loop-o.invariant p args in (
      λ m. elim (exact.0 m) [ inl old ↦ inl old | inr b ↦ inr b.1 ],
      λ e. exact.1 (elim e [
        | inl old ↦ inl old
        | inr own ↦ (
            let within = asked_within c.args.owners.now p (Named c.args.name args) own in
            inr (omega (arith, within.0, within.1), own)
            )
      ]),
    )
