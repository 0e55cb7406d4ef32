use Rattle.std.proofs.Common.{◌≡◌, ℕ, ◌-◌, ◌<◌, ◌≤◌, List, length, get_or, sym, ap, ◌∙◌, subst, Option, Some, None, IfSome, IsSomeAnd, inl, inr, arith}
use Rattle.std.specs.List.{slice_get}
use Rattle.std.proofs.lemmas.Bool.{cases_eq}
use Rattle.std.proofs.lemmas.List.{length-set}
use Rattle.std.proofs.lemmas.Option.{slice_get-get_or, slice_get_cases}
use Rattle.vsd_ast.specs.declared.declarations.Decl.{Decl}
use Rattle.vsd_ast.specs.declared.declarations.Method.{Method}
use Rattle.vsd_roots.specs.Methods.{IsMethod}
use Rattle.vsd_roots.specs.Order.{IsEarlier, IsLink}
use Rattle.vsd_roots.specs.declared.place.Place.{Place}
use Rattle.vsd_roots.proofs.LinkLemmas.{earlier-step}
use Rattle.vsd_roots.proofs.MatchLemmas.{same_place}
use Rattle.vsd_roots.proofs.TableLemmas.{entry_has, listed_below, slice_get-set_other, slice_get-set_same, some_entry}
use Rattle.vsd_roots.proofs.earlier.earlier_row.Goals as goal

-- there is a method at each place of a declaration
method_at : (ds : List Decl) (at i : ℕ) (x : Decl) → slice_get ds at ≡ Some x → i < length x.methods → (m : Method) × IsMethod ds (record { decl = at; method = i }) m
method_at ds at i x here within =
    elim (slice_get_cases x.methods i).1 [
      | inl w ↦ (w.0, record { owner = x; declared = here; listed = w.2 })
      | inr past ↦ absurd (omega (arith, past.0))
    ]

-- a method before that is of the same declaration is one of its methods
fits : (ds : List Decl) (depths : List ℕ) (at count : ℕ) (x : Decl) (p : Place) (o : Option Place) → slice_get ds at ≡ Some x → length x.methods ≤ count → IsLink ds depths p o → IfSome o (λ (q : Place). q.decl ≡ at → q.method < count)
fits ds depths at count x p None here few link = tt
fits ds depths at count x p (Some q) here few link =
    let w = link.latest.is in
    λ decl. listed_below ds at x count here few q w.0 decl w.1.0

pub entry_of-before-requires : goal.entry_of-before-requires
entry_of-before-requires c =
    let ds = c.args.h.now.decls.now in
    let at = c.args.at in
    let x : Decl = get_or ds at c.index-h-at.result in
    let here : slice_get ds at ≡ Some x = slice_get-get_or ds at c.index-h-at.result c.requires.within in
    let found = method_at ds at (c.loop-method.method - 1) x here (omega (arith, c.len-count.ensures)) in
    some_entry _ _ (c.requires.links.each _ found.0 found.1)

pub before_all-found-requires : goal.before_all-found-requires
before_all-found-requires c =
    let h = c.args.h.now in
    let ds = h.decls.now in
    let at = c.args.at in
    let i = c.loop-method.method - 1 in
    let p : Place = record { decl = at; method = i } in
    let x : Decl = get_or ds at c.index-h-at.result in
    let here : slice_get ds at ≡ Some x = slice_get-get_or ds at c.index-h-at.result c.requires.within in
    let found = method_at ds at i x here (omega (arith, c.len-count.ensures)) in
    let link = entry_has _ c.entry_of-before.result (IsLink ds h.depths.now p) c.entry_of-before.ensures (c.requires.links.each p found.0 found.1) in
    let long : length x.methods ≤ length c.as_slice.result.now = omega (arith, c.len-count.ensures, c.loop-method.invariant.count, ap (λ (l : List (Option Place)). length l) c.as_slice.ensures) in
    fits ds h.depths.now at (length c.as_slice.result.now) x p c.entry_of-before.result here long link

pub loop-method-preserved : goal.loop-method-preserved
loop-method-preserved c =
    let h = c.args.h.now in
    let ds = h.decls.now in
    let depths = h.depths.now in
    let at = c.args.at in
    let i = c.loop-method.method - 1 in
    let row = c.loop-method.row in
    let read = c.as_slice.result.now in
    let new = c.before_all-found.result in
    let p : Place = record { decl = at; method = i } in
    let x : Decl = get_or ds at c.index-h-at.result in
    let here : slice_get ds at ≡ Some x = slice_get-get_or ds at c.index-h-at.result c.requires.within in
    let inside : i < length x.methods = omega (arith, c.len-count.ensures) in
    let found = method_at ds at i x here inside in
    let link = entry_has _ c.entry_of-before.result (IsLink ds depths p) c.entry_of-before.ensures (c.requires.links.each p found.0 found.1) in
    let D : List (Option Place) → Type 0 = λ l. (q : Place) (n : Method) → q.decl ≡ at → i < q.method → IsMethod ds q n → IsSomeAnd (slice_get l q.method) (IsEarlier ds depths q) in
    let done : D read = subst D (sym c.as_slice.ensures) (λ q n decl past is. c.loop-method.invariant.done q n decl (omega arith) is) in
    let own : IsEarlier ds depths p new = earlier-step ds h.places.now depths c.requires.settled p found.0 c.entry_of-before.result new read found.1 link done c.before_all-found.ensures.own c.before_all-found.ensures.other in
    record {
      count = ap length c.set.ensures ∙ length-set row i new ∙ c.loop-method.invariant.count;
      done = λ q n decl past is.
          elim (cases_eq q.method i) [
            | inl same ↦ (
                let written : slice_get c.set.new.self q.method ≡ Some new = ap (slice_get c.set.new.self) same ∙ ap (λ l. slice_get l i) c.set.ensures ∙ slice_get-set_same row i new (omega (arith, c.loop-method.invariant.count, c.len-count.ensures)) in
                subst (λ o. IsSomeAnd o (IsEarlier ds depths q)) (sym written) (subst (λ (r : Place). IsEarlier ds depths r new) (sym (same_place q p decl same)) own)
                )
            | inr differ ↦ (
                let kept : slice_get c.set.new.self q.method ≡ slice_get row q.method = ap (λ l. slice_get l q.method) c.set.ensures ∙ slice_get-set_other row i q.method new differ in
                subst (λ o. IsSomeAnd o (IsEarlier ds depths q)) (sym kept) (c.loop-method.invariant.done q n decl (omega arith) is)
                )
          ];
    }

pub returns : goal.returns
returns c = record { each = λ p m decl is. c.loop-method.invariant.done p m decl (omega arith) is }
