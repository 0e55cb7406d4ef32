use Rattle.std.proofs.Common.{◌≡◌, ℕ, ◌*◌, ◌≤◌, List, length, get_or, sym, ap, ◌∙◌, arith}
use Rattle.std.specs.HashMap.{get}
use Rattle.std.proofs.lemmas.Option.{slice_get-get_or}
use Rattle.vsd_ast.specs.declared.declarations.Method.{Method}
use Rattle.vsd_roots.specs.Methods.{IsMethod}
use Rattle.vsd_roots.specs.Order.{IsShallower, same_name}
use Rattle.vsd_roots.specs.declared.place.Place.{Place}
use Rattle.vsd_roots.proofs.LinkLemmas.{IsShallower-found}
use Rattle.vsd_roots.proofs.TableLemmas.{listed_below, method_here, part-end, part-push, same_method}
use Rattle.vsd_roots.proofs.links.shallower_row.Goals as goal

pub loop-method-preserved : goal.loop-method-preserved
loop-method-preserved c =
    let h = c.args.h.now in
    let ds = h.decls.now in
    let depths = h.depths.now in
    let at = c.args.at in
    let here : Place = record { decl = at; method = c.loop-method.method } in
    let read : Method = c.index-methods-method.result in
    let is : IsMethod ds here read = method_here ds at c.loop-method.method c.index-h-at.result c.as_slice-methods.result.now c.requires.within c.as_slice-methods.ensures (omega arith) read c.index-methods-method.is in
    part-push ds (IsShallower ds depths) at c.loop-method.method c.loop-method.row c.push.new.self c.latest_of-found.result c.in_ok-push.ensures.ok
    (λ p m decl method other.
    let one : read ≡ m = same_method ds here p read m (sym decl) (sym method) is other in
    let bound : 1024 * get_or depths p.decl 0 * 256 ≡ 1024 * get_or depths at 0 * 256 = ap (λ (i : ℕ). 1024 * get_or depths i 0 * 256) decl in
    IsShallower-found ds h.places.now depths c.requires.settled (get same_name c.args.latest.now) (1024 * get_or depths at 0 * 256) p m c.as_slice.result c.latest_of-found.result other bound (c.as_slice.ensures ∙ ap (λ (x : Method). x.name) (sym c.index-methods-method.is ∙ one)) c.latest_of-found.ensures c.requires.latest)
    c.loop-method.invariant

pub returns : goal.returns
returns c =
    let h = c.args.h.now in
    let ds = h.decls.now in
    let x = get_or ds c.args.at c.index-h-at.result in
    let here = slice_get-get_or ds c.args.at c.index-h-at.result c.requires.within in
    let all : length x.methods ≤ c.loop-method.method = omega (arith, ap (λ (l : List Method). length l) c.as_slice-methods.ensures) in
    part-end ds (IsShallower ds h.depths.now) c.args.at c.loop-method.method c.loop-method.row (listed_below ds c.args.at x c.loop-method.method here all) c.loop-method.invariant
