use Rattle.std.proofs.Common.{ℕ, ◌≤◌, List, length, get_or, sym, ap, subst, arith}
use Rattle.std.proofs.lemmas.Option.{slice_get-get_or}
use Rattle.vsd_ast.specs.declared.declarations.Method.{Method}
use Rattle.vsd_lift.specs.Chain.{IsChain}
use Rattle.vsd_lift.proofs.ChainLemmas.{chain-distinct}
use Rattle.vsd_roots.specs.Slots.{IsOverridden}
use Rattle.vsd_roots.specs.declared.place.Place.{Place}
use Rattle.vsd_roots.proofs.MatchLemmas.{same_place}
use Rattle.vsd_roots.proofs.TableLemmas.{listed_below, method_here, part-end, part-push}
use Rattle.vsd_roots.proofs.overriding.overridden_row.Goals as goal

pub levels-requires-clause-once : goal.levels-requires-clause-once
levels-requires-clause-once c =
    let h = c.args.h.now in
    let chained : IsChain h.decls.now c.args.at c.as_slice.result.now = subst (λ (l : List ℕ). IsChain h.decls.now c.args.at l) (sym c.as_slice.ensures.value) c.in_ok-upward.ensures.chain in
    chain-distinct h.decls.now h.places.now h.depths.now c.args.at c.as_slice.result.now c.requires.settled c.requires.within chained

pub overridden_by-above-requires-clause-is : goal.overridden_by-above-requires-clause-is
overridden_by-above-requires-clause-is c =
    method_here c.args.h.now.decls.now c.args.at c.loop-method.method c.index-h-at.result c.as_slice-methods.result.now c.requires.within c.as_slice-methods.ensures (omega arith) c.index-methods-method.result c.index-methods-method.is

pub loop-method-preserved : goal.loop-method-preserved
loop-method-preserved c =
    let ds = c.args.h.now.decls.now in
    let x = c.overridden_by-above.result in
    part-push ds (IsOverridden ds) c.args.at c.loop-method.method c.loop-method.row c.push.new.self x c.in_ok-push.ensures.ok
    (λ p m decl method is. subst (λ (q : Place). IsOverridden ds q x) (sym (same_place p (record { decl = c.args.at; method = c.loop-method.method }) decl method)) c.overridden_by-above.ensures)
    c.loop-method.invariant

pub returns : goal.returns
returns c =
    let ds = c.args.h.now.decls.now in
    let x = get_or ds c.args.at c.index-h-at.result in
    let here = slice_get-get_or ds c.args.at c.index-h-at.result c.requires.within in
    let all : length x.methods ≤ c.loop-method.method = omega (arith, ap (λ (l : List Method). length l) c.as_slice-methods.ensures) in
    part-end ds (IsOverridden ds) c.args.at c.loop-method.method c.loop-method.row (listed_below ds c.args.at x c.loop-method.method here all) c.loop-method.invariant
