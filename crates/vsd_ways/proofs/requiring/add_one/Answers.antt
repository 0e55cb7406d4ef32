use Rattle.std.proofs.Common.{◌≡◌, ℕ, ◌<◌, List, [], length, map, get_or, ap, ◌∙◌, sym, subst, Some, ◌⊎◌, inl, inr, ◌↔◌, arith}
use Rattle.std.specs.List.{slice_get}
use Rattle.std.proofs.lemmas.List.{length-map, get_or_read}
use Rattle.std.proofs.lemmas.Option.{slice_get_within}
use Rattle.vsd_terms.specs.declared.term.Term.{Term}
use Rattle.vsd_terms.specs.declared.term.Term.TheVariants.{Named}
use Rattle.vsd_terms.specs.Substitution.{subst_of}
use Rattle.vsd_terms.proofs.SubstitutionLemmas.{subst_of-Named}
use Rattle.vsd_ast.specs.Lookup.{place_of}
use Rattle.vsd_ways.specs.Known.{MeetsFor, Way}
use Rattle.vsd_ways.specs.Leads.{LeadsTo}
use Rattle.vsd_ways.specs.Ways.{IsReady, IsWays}
use Rattle.vsd_ways.proofs.KnownLemmas.{OnOk_map}
use Rattle.vsd_ways.proofs.LeadsLemmas.{leads-named}
use Rattle.vsd_ways.proofs.SettledLemmas.{target}
use Rattle.vsd_ways.proofs.requiring.add_one.Goals as goal

pub bounds-table-place : goal.bounds-table-place
bounds-table-place c =
    let h = c.args.h.now in
    let to = target h.decls.now h.places.now h.depths.now c.args.required.now c.in-Named.name c.in-Named.args c.requires.settled c.in-Named.is c.requires.named c.requires.lawful in
    omega (arith, to.place, slice_get_within h.decls.now (place_of h.decls.now c.in-Named.name) to.declaration to.declared_at, c.requires.count)

pub returns : goal.returns
returns c =
    let h = c.args.h.now in
    let ds = h.decls.now in
    let name = c.in-Named.name in
    let xs = c.in-Named.args in
    let table = c.args.table.now in
    let old = c.args.ways.now in
    let new = c.add_through.new.ways in
    let one = c.index-table-place.result in
    let to = target ds h.places.now h.depths.now c.args.required.now name xs c.requires.settled c.in-Named.is c.requires.named c.requires.lawful in
    let inside : get_or h.places.now name 0 < length table = omega (arith, to.place, slice_get_within ds (place_of ds name) to.declaration to.declared_at, c.requires.count) in
    let read : one ≡ get_or table (place_of ds name) [] = get_or_read table (get_or h.places.now name 0) one inside c.index-table-place.is [] ∙ ap (λ (k : ℕ). get_or table k []) to.place in
    OnOk_map
    ((o : ℕ) (args : List Term) → length args ≡ c.args.parameters → MeetsFor new o args ↔ (MeetsFor old o args ⊎ MeetsFor one o (map (subst_of args) xs)))
    ((owners : List Term) → IsReady ds owners table c.args.required.now → (o : ℕ) (owner : Term) → slice_get owners o ≡ Some owner → (args : List Term) → length args ≡ c.args.parameters → MeetsFor new o args ↔ (MeetsFor old o args ⊎ LeadsTo ds (subst_of args c.args.required.now) owner))
    c.add_through.result
    (λ exact owners ready o owner asked args long.
    let put : subst_of args c.args.required.now ≡ Named name (map (subst_of args) xs) = ap (subst_of args) c.in-Named.is ∙ subst_of-Named args name xs in
    let ways = subst (λ (w : List Way). IsWays ds owners to.declaration w) (sym read) (ready name xs c.in-Named.is to.declaration to.declared_at) in
    let leads = leads-named ds owners o owner name (map (subst_of args) xs) to.declaration one asked to.declared_at ways (length-map xs (subst_of args) ∙ to.long) in
    let step = exact o args long in (
      λ m. elim (step.0 m) [ inl old_way ↦ inl old_way | inr w ↦ inr (subst (λ (u : Term). LeadsTo ds u owner) (sym put) (leads.0 w)) ],
      λ e. step.1 (elim e [ inl old_way ↦ inl old_way | inr l ↦ inr (leads.1 (subst (λ (u : Term). LeadsTo ds u owner) put l)) ]),
    ))
    c.add_through.ensures
