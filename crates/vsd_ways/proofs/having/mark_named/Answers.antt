use Rattle.std.proofs.Common.{◌≡◌, ℕ, ◌<◌, List, [], length, map, get_or, ap, ◌∙◌, sym, subst, inl, inr, arith}
use Rattle.std.proofs.lemmas.List.{length-map, get_or_read}
use Rattle.std.proofs.lemmas.Option.{slice_get_within}
use Rattle.vsd_terms.specs.declared.term.Term.{Term}
use Rattle.vsd_terms.specs.declared.term.Term.TheVariants.{Named}
use Rattle.vsd_ast.specs.Lookup.{place_of}
use Rattle.vsd_lift.specs.Chain.{envs_of}
use Rattle.vsd_lift.specs.Lift.{lift}
use Rattle.vsd_lift.proofs.LiftLemmas.{lift-Named}
use Rattle.vsd_ways.specs.Known.{Way}
use Rattle.vsd_ways.specs.Leads.{LeadsTo}
use Rattle.vsd_ways.specs.Ways.{IsWays}
use Rattle.vsd_ways.proofs.LeadsLemmas.{leads-named}
use Rattle.vsd_ways.proofs.SettledLemmas.{interface_at, target}
use Rattle.vsd_ways.proofs.having.mark_named.Goals as goal

pub bounds-table-place : goal.bounds-table-place
bounds-table-place c =
    let h = c.args.h.now in
    let to = target h.decls.now h.places.now h.depths.now c.args.named.now c.in-Named.name c.in-Named.args c.requires.settled c.in-Named.is c.requires.names c.requires.lawful in
    omega (arith, to.place, slice_get_within h.decls.now (place_of h.decls.now c.in-Named.name) to.declaration to.declared_at, c.requires.count)

pub returns : goal.returns
returns c owners are o owner asked =
    let h = c.args.h.now in
    let ds = h.decls.now in
    let named = c.args.named.now in
    let name = c.in-Named.name in
    let xs = c.in-Named.args in
    let table = c.args.table.now in
    let one = c.index-table-place.result in
    let envs = envs_of ds c.args.chain.now in
    let up = lift envs c.args.level in
    let to = target ds h.places.now h.depths.now named name xs c.requires.settled c.in-Named.is c.requires.names c.requires.lawful in
    let inside : get_or h.places.now name 0 < length table = omega (arith, to.place, slice_get_within ds (place_of ds name) to.declaration to.declared_at, c.requires.count) in
    let read : one ≡ get_or table (place_of ds name) [] = get_or_read table (get_or h.places.now name 0) one inside c.index-table-place.is [] ∙ ap (λ (k : ℕ). get_or table k []) to.place in
    let there = are.each (place_of ds name) to.declaration to.declared_at (interface_at ds name xs named to.declaration c.in-Named.is to.declared_at c.requires.interface) in
    let ways = subst (λ (w : List Way). IsWays ds owners to.declaration w) (sym read) there in
    let leads = leads-named ds owners o owner name (map up xs) to.declaration one asked to.declared_at ways (length-map xs up ∙ to.long) in
    let lifted : up named ≡ Named name (map up xs) = ap up c.in-Named.is ∙ lift-Named envs c.args.level name xs in
    let now = c.mark_met.ensures o in (
      λ m. elim (now.0 m) [ inl old ↦ inl old | inr w ↦ inr (subst (λ (u : Term). LeadsTo ds u owner) (sym lifted) (leads.0 w)) ],
      λ e. now.1 (elim e [ inl old ↦ inl old | inr l ↦ inr (leads.1 (subst (λ (u : Term). LeadsTo ds u owner) lifted l)) ]),
    )
