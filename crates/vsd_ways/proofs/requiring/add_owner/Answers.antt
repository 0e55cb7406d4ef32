use Rattle.std.proofs.Common.{◌≡◌, ℕ, List, ◌⊎◌, inl, inr, ◌↔◌, sym, ap, ◌∙◌, rules}
use Rattle.vsd_terms.specs.declared.term.Term.{Term}
use Rattle.vsd_terms.specs.declared.term.Term.TheVariants.{Named}
use Rattle.vsd_lift.proofs.Forms.{Named-arguments}
use Rattle.vsd_ways.specs.Known.{IsMarked, Meets, MeetsFor}
use Rattle.vsd_ways.proofs.KnownLemmas.{OnOk_map}
use Rattle.vsd_ways.proofs.requiring.add_owner.Goals as goal

pub returns : goal.returns
returns c =
    let old = c.args.ways.now in
    let new = c.add.new.self in
    let known = c.in_ok-known.known.items in
    let marks = c.marked.result in
    OnOk_map
    ((p : ℕ) (args : List Term) → MeetsFor new p args ↔ (MeetsFor old p args ⊎ (IsMarked marks p × Meets known args)))
    ((p : ℕ) (args : List Term) → MeetsFor new p args ↔ (MeetsFor old p args ⊎ ((p ≡ c.args.o) × (Named c.args.name args ≡ c.args.owner.now))))
    c.add.result
    (λ exact p args.
    let name : c.in-Named.other ≡ c.args.name = search rules in
    let is : c.args.owner.now ≡ Named c.args.name c.in-Named.args = c.in-Named.is ∙ ap (λ (n : ℕ). Named n c.in-Named.args) name in
    let given = c.in_ok-known.ensures args in
    let one = c.marked.ensures p in (
      λ m. elim ((exact p args).0 m) [ inl before ↦ inl before | inr k ↦ inr (one.0 k.0, ap (Named c.args.name) (given.0 k.1 ∙ c.as_slice.ensures) ∙ sym is) ],
      λ e. (exact p args).1 (elim e [ inl before ↦ inl before | inr own ↦ inr (one.1 own.0, given.1 (Named-arguments c.args.name c.args.name args c.in-Named.args (own.1 ∙ is) ∙ sym c.as_slice.ensures)) ]),
    ))
    c.add.ensures
