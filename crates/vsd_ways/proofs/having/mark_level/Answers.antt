use Rattle.std.proofs.Common.{◌≡◌, ℕ, ◌<◌, List, length, get_or, ap, ◌∙◌, sym, subst, Some, ◌↔◌, ◌⊎◌, inl, inr, arith}
use Rattle.std.specs.List.{slice_get}
use Rattle.std.proofs.lemmas.Option.{slice_get-get_or, slice_get_within, get_or_from_slice_get}
use Rattle.vsd_ast.specs.declared.declarations.Decl.{Decl}
use Rattle.vsd_ast.specs.declared.declarations.Located.{Located}
use Rattle.vsd_lift.specs.Chain.{envs_of}
use Rattle.vsd_lift.specs.Lift.{lift}
use Rattle.vsd_lift.specs.Settled.{IsSettled}
use Rattle.vsd_ways.specs.Found.{SomeOf}
use Rattle.vsd_ways.specs.Known.{IsMarked}
use Rattle.vsd_ways.specs.Leads.{IsUpward, LeadsTo}
use Rattle.vsd_ways.proofs.ClassLemmas.{NamesAt, class_at, names_at, upward_ladder}
use Rattle.vsd_ways.proofs.FoundLemmas.{before-split, before-more, before-here, some-before, before-all}
use Rattle.vsd_ways.proofs.having.mark_level.Goals as goal

-- the number at a level is that of a declaration
number_within : (ds : List Decl) (places depths chain : List ℕ) (level : ℕ) → IsSettled ds places depths → IsUpward ds chain → level < length chain → get_or chain level 0 < length ds
number_within ds places depths chain level settled up inside =
    let x = class_at ds places depths chain settled up level inside in
    slice_get_within ds (get_or chain level 0) x.0 x.1

-- an interface that the code reads
reads : (ds : List Decl) (places depths chain : List ℕ) (level : ℕ) (d : Decl) (interfaces : List Located) (i : ℕ) (t : Located) (settled : IsSettled ds places depths) (up : IsUpward ds chain) → level < length chain → interfaces ≡ (get_or ds (get_or chain level 0) d).interfaces → i < length interfaces → NamesAt ds places depths chain settled up level (get_or chain level 0) (get_or ds (get_or chain level 0) d) (get_or interfaces i t)
reads ds places depths chain level d interfaces i t settled up inside are within =
    let n = get_or chain level 0 in
    let x = get_or ds n d in
    names_at ds places depths chain settled up level n x i (get_or interfaces i t)
    (slice_get-get_or chain level 0 inside)
    (slice_get-get_or ds n d (number_within ds places depths chain level settled up inside))
    (ap (λ (l : List Located). slice_get l i) (sym are) ∙ slice_get-get_or interfaces i t within)

pub bounds-h-chain : goal.bounds-h-chain
bounds-h-chain c =
    let h = c.args.h.now in
    number_within h.decls.now h.places.now h.depths.now c.args.chain.now c.args.level c.requires.settled c.requires.upward c.requires.within

pub offset_bounds-h-chain : goal.offset_bounds-h-chain
offset_bounds-h-chain c =
    let h = c.args.h.now in
    let inside = number_within h.decls.now h.places.now h.depths.now c.args.chain.now c.args.level c.requires.settled c.requires.upward c.requires.within in
    omega (arith, inside, c.requires.settled.few)

pub mark_named-requires-clause-ladder : goal.mark_named-requires-clause-ladder
mark_named-requires-clause-ladder c =
    let h = c.args.h.now in
    upward_ladder h.decls.now h.places.now h.depths.now c.args.chain.now c.requires.settled c.requires.upward

pub mark_named-requires-clause-fits : goal.mark_named-requires-clause-fits
mark_named-requires-clause-fits c =
    let h = c.args.h.now in
    (reads h.decls.now h.places.now h.depths.now c.args.chain.now c.args.level c.index-h-chain.result c.as_slice-interfaces.result.now c.loop-i.i c.index-interfaces-i.result c.requires.settled c.requires.upward c.requires.within c.as_slice-interfaces.ensures c.loop-i-test.true).fits

pub mark_named-requires-clause-names : goal.mark_named-requires-clause-names
mark_named-requires-clause-names c =
    let h = c.args.h.now in
    (reads h.decls.now h.places.now h.depths.now c.args.chain.now c.args.level c.index-h-chain.result c.as_slice-interfaces.result.now c.loop-i.i c.index-interfaces-i.result c.requires.settled c.requires.upward c.requires.within c.as_slice-interfaces.ensures c.loop-i-test.true).by.names

pub mark_named-requires-clause-lawful : goal.mark_named-requires-clause-lawful
mark_named-requires-clause-lawful c =
    let h = c.args.h.now in
    (reads h.decls.now h.places.now h.depths.now c.args.chain.now c.args.level c.index-h-chain.result c.as_slice-interfaces.result.now c.loop-i.i c.index-interfaces-i.result c.requires.settled c.requires.upward c.requires.within c.as_slice-interfaces.ensures c.loop-i-test.true).by.lawful

pub mark_named-requires-clause-interface : goal.mark_named-requires-clause-interface
mark_named-requires-clause-interface c =
    let h = c.args.h.now in
    (reads h.decls.now h.places.now h.depths.now c.args.chain.now c.args.level c.index-h-chain.result c.as_slice-interfaces.result.now c.loop-i.i c.index-interfaces-i.result c.requires.settled c.requires.upward c.requires.within c.as_slice-interfaces.ensures c.loop-i-test.true).by.interface

-- the class is the one whose interfaces the code reads
class_is : (ds : List Decl) (chain : List ℕ) (level n : ℕ) (x d : Decl) (interfaces : List Located) → slice_get chain level ≡ Some n → slice_get ds n ≡ Some x → interfaces ≡ (get_or ds (get_or chain level 0) d).interfaces → interfaces ≡ x.interfaces
class_is ds chain level n x d interfaces stands here are =
    let number : get_or chain level 0 ≡ n = get_or_from_slice_get chain level n 0 stands in
    are ∙ ap (λ (k : ℕ). (get_or ds k d).interfaces) number ∙ ap (λ (y : Decl). y.interfaces) (get_or_from_slice_get ds n x d here)

pub loop-i-preserved : goal.loop-i-preserved
loop-i-preserved c owners are o owner asked =
    let ds = c.args.h.now.decls.now in
    let i = c.loop-i.i in
    let interfaces = c.as_slice-interfaces.result.now in
    let P : Located → Type 0 = λ u. LeadsTo ds (lift (envs_of ds c.args.chain.now) c.args.level u.term) owner in
    let t = get_or interfaces i c.index-interfaces-i.result in
    let there = slice_get-get_or interfaces i c.index-interfaces-i.result c.loop-i-test.true in
    let now = c.mark_named.ensures owners are o owner asked in
    let before = c.loop-i.invariant owners are o owner asked in (
      λ m. elim (now.0 m) [
        | inl w ↦ (elim (before.0 w) [ inl old ↦ inl old | inr b ↦ inr (before-more P interfaces i b) ])
        | inr l ↦ inr (before-here P interfaces i t there l)
      ],
      λ e. now.1 (elim e [
        | inl old ↦ inl (before.1 (inl old))
        | inr b ↦ (elim (before-split P interfaces i t there b) [ inl w ↦ inl (before.1 (inr w)) | inr l ↦ inr l ])
      ]),
    )

pub returns : goal.returns
returns c owners are n stands class here o owner asked =
    let ds = c.args.h.now.decls.now in
    let interfaces = c.as_slice-interfaces.result.now in
    let P : Located → Type 0 = λ u. LeadsTo ds (lift (envs_of ds c.args.chain.now) c.args.level u.term) owner in
    let exact = c.loop-i.invariant owners are o owner asked in
    let Q : List Located → Type 0 = λ l. IsMarked c.loop-i.found o ↔ (IsMarked c.args.found.now o ⊎ SomeOf P l) in
    subst Q (class_is ds c.args.chain.now c.args.level n class c.index-h-chain.result interfaces stands here c.as_slice-interfaces.ensures) (
      λ m. elim (exact.0 m) [ inl old ↦ inl old | inr b ↦ inr (some-before P interfaces c.loop-i.i b) ],
      λ e. exact.1 (elim e [ inl old ↦ inl old | inr s ↦ inr (before-all P interfaces c.loop-i.i (omega arith) s) ]),
    )
