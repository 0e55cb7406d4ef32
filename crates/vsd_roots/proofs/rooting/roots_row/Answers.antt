use Rattle.std.proofs.Common.{◌≡◌, ℕ, ◌<◌, List, length, get_or, refl, sym, subst, Option, Some, None, IfSome, IsSome, IsSomeAnd, inl, inr, arith}
use Rattle.std.proofs.lemmas.Option.{slice_get-get_or, slice_get_cases}
use Rattle.vsd_ast.specs.declared.declarations.Decl.{Decl}
use Rattle.vsd_ast.specs.declared.declarations.Method.{Method}
use Rattle.vsd_lift.specs.Settled.{IsSettled}
use Rattle.vsd_roots.specs.Methods.{IsMethod, entry}
use Rattle.vsd_roots.specs.Order.{TabulatesBelow, rank}
use Rattle.vsd_roots.specs.Slots.{IsOverridden, IsRoot, Overrides}
use Rattle.vsd_roots.specs.declared.place.Place.{Place}
use Rattle.vsd_roots.proofs.MatchLemmas.{same_place}
use Rattle.vsd_roots.proofs.RootLemmas.{overrides_lower, root_further, root_own}
use Rattle.vsd_roots.proofs.TableLemmas.{entry_has, listed_below, part-end, part-push, some_entry}
use Rattle.vsd_roots.proofs.rooting.roots_row.Goals as goal

-- the root of what is overridden is there already
above_has : (ds : List Decl) (places depths : List ℕ) (table : List (List Place)) (p q : Place) → IsSettled ds places depths → TabulatesBelow ds depths (rank depths p.decl) (IsRoot ds) table → Overrides ds p q → IsSomeAnd (entry table q) (IsRoot ds q)
above_has ds places depths table p q settled filled over =
    let matches = over.nearest.matches in
    filled.each q matches.other matches.is_other (overrides_lower ds places depths p q settled over)

above_some : (ds : List Decl) (places depths : List ℕ) (table : List (List Place)) (p : Place) (o : Option Place) → IsSettled ds places depths → TabulatesBelow ds depths (rank depths p.decl) (IsRoot ds) table → IsOverridden ds p o → IfSome o (λ q. IsSome (entry table q))
above_some ds places depths table p None settled filled is = tt
above_some ds places depths table p (Some q) settled filled is = some_entry (entry table q) (IsRoot ds q) (above_has ds places depths table p q settled filled is)

above_root : (ds : List Decl) (places depths : List ℕ) (table : List (List Place)) (p root : Place) (o : Option Place) → IsSettled ds places depths → TabulatesBelow ds depths (rank depths p.decl) (IsRoot ds) table → IsOverridden ds p o → (o ≡ None → root ≡ p) → IfSome o (λ q. entry table q ≡ Some root) → IsRoot ds p root
above_root ds places depths table p root None settled filled is own same = subst (λ (r : Place). IsRoot ds p r) (sym (own refl)) (root_own ds p is)
above_root ds places depths table p root (Some q) settled filled is own same =
    root_further ds p q root is (entry_has (entry table q) root (IsRoot ds q) same (above_has ds places depths table p q settled filled is))

-- the method at a place below the count
method_at : (ds : List Decl) (at i : ℕ) (d : Decl) → at < length ds → i < length (get_or ds at d).methods → (m : Method) × IsMethod ds (record { decl = at; method = i }) m
method_at ds at i d inside within =
    elim (slice_get_cases (get_or ds at d).methods i).1 [
      | inl w ↦ (w.0, record { owner = get_or ds at d; declared = slice_get-get_or ds at d inside; listed = w.2 })
      | inr past ↦ absurd (omega (arith, past.0))
    ]

pub entry_of-above-requires : goal.entry_of-above-requires
entry_of-above-requires c =
    let ds = c.args.h.now.decls.now in
    let m = method_at ds c.args.at c.loop-method.method c.index-h-at.result c.requires.within (omega (arith, c.len-count.ensures)) in
    some_entry _ _ (c.requires.overridden.each (record { decl = c.args.at; method = c.loop-method.method }) m.0 m.1)

pub root_above-requires : goal.root_above-requires
root_above-requires c =
    let h = c.args.h.now in
    let ds = h.decls.now in
    let p : Place = record { decl = c.args.at; method = c.loop-method.method } in
    let m = method_at ds c.args.at c.loop-method.method c.index-h-at.result c.requires.within (omega (arith, c.len-count.ensures)) in
    let is = entry_has (entry c.args.overridden.now p) c.entry_of-above.result (IsOverridden ds p) c.entry_of-above.ensures (c.requires.overridden.each p m.0 m.1) in
    above_some ds h.places.now h.depths.now c.args.roots.now p c.entry_of-above.result c.requires.settled c.requires.filled is

pub loop-method-preserved : goal.loop-method-preserved
loop-method-preserved c =
    let h = c.args.h.now in
    let ds = h.decls.now in
    let p : Place = record { decl = c.args.at; method = c.loop-method.method } in
    let m = method_at ds c.args.at c.loop-method.method c.index-h-at.result c.requires.within (omega (arith, c.len-count.ensures)) in
    let is = entry_has (entry c.args.overridden.now p) c.entry_of-above.result (IsOverridden ds p) c.entry_of-above.ensures (c.requires.overridden.each p m.0 m.1) in
    let root = above_root ds h.places.now h.depths.now c.args.roots.now p c.root_above.result c.entry_of-above.result c.requires.settled c.requires.filled is c.root_above.ensures.own c.root_above.ensures.same in
    part-push ds (IsRoot ds) c.args.at c.loop-method.method c.loop-method.row c.push.new.self c.root_above.result c.in_ok-push.ensures.ok
    (λ q n decl method other. subst (λ (r : Place). IsRoot ds r c.root_above.result) (sym (same_place q p decl method)) root)
    c.loop-method.invariant

pub returns : goal.returns
returns c =
    let ds = c.args.h.now.decls.now in
    let x = get_or ds c.args.at c.index-h-at.result in
    let here = slice_get-get_or ds c.args.at c.index-h-at.result c.requires.within in
    part-end ds (IsRoot ds) c.args.at c.loop-method.method c.loop-method.row (listed_below ds c.args.at x c.loop-method.method here (omega (arith, c.len-count.ensures))) c.loop-method.invariant
