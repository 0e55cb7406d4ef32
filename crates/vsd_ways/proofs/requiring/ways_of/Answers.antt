use Rattle.std.proofs.Common.{◌≡◌, ℕ, List, [], length, get_or, ap, ◌∙◌, sym, Some, inl, inr, arith}
use Rattle.std.proofs.lemmas.Option.{slice_get_within, get_or_from_slice_get}
use Rattle.vsd_terms.specs.declared.term.Term.{Term}
use Rattle.vsd_terms.specs.declared.term.Term.TheVariants.{Named}
use Rattle.vsd_ast.specs.declared.declarations.Decl.{Decl}
use Rattle.vsd_ways.specs.Known.{owners_in, MeetsFor, Way}
use Rattle.vsd_ways.proofs.LeadsLemmas.{leads-step, place_of-own}
use Rattle.vsd_ways.proofs.requiring.ways_of.Goals as goal

-- of no ways none is met
nothing : (ways : List Way) (o : ℕ) (args : List Term) → ways ≡ [] → MeetsFor ways o args → ⊥
nothing ways o args none w = omega (arith, slice_get_within ways w.place w.element w.there, ap length none)

pub returns : goal.returns
returns c decl here ready = record {
  exact = λ o owner asked args long.
      let ds = c.args.h.now.decls.now in
      let owners = owners_in c.args.owners.now in
      let read : get_or ds c.args.at c.index-h-at.result ≡ decl = get_or_from_slice_get ds c.args.at decl c.index-h-at.result here in
      let name : (get_or ds c.args.at c.index-h-at.result).name ≡ decl.name = ap (λ (d : Decl). d.name) read in
      let own = c.in_ok-add_own.ensures o args in
      let more = c.in_ok-add_required.ensures decl here owners ready o owner asked args long in
      let step = leads-step ds owner decl.name args decl (place_of-own ds c.args.h.now.depths.now c.args.at decl c.requires.settled.hierarchy here) in (
        λ m. step.1 (elim (more.0 m) [
          | inl w ↦ (elim (own.0 w) [ inl none ↦ absurd (nothing c.new-ways.result o args c.new-ways.ensures none) | inr e ↦ inl (let both = sym e ∙ asked in ap (λ (n : ℕ). Named n args) (sym name) ∙ cc) ])
          | inr s ↦ inr s
        ]),
        λ l. more.1 (elim (step.0 l) [
          | inl e ↦ inl (own.1 (inr (asked ∙ ap Some (sym (ap (λ (n : ℕ). Named n args) name ∙ e)))))
          | inr s ↦ inr s
        ]),
      );
}
