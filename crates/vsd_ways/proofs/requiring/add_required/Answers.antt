use Rattle.std.proofs.Common.{◌≡◌, List, length, get_or, refl, ap, ◌∙◌, sym, subst, Some, All, IsTrue, ◌⊎◌, inl, inr, ◌↔◌, arith}
use Rattle.std.specs.List.{slice_get}
use Rattle.std.proofs.lemmas.Option.{slice_get_read, slice_get-get_or, get_or_from_slice_get}
use Rattle.vsd_terms.specs.Substitution.{subst_of}
use Rattle.vsd_ast.specs.declared.declarations.Decl.{Decl}
use Rattle.vsd_ast.specs.declared.declarations.Located.{Located}
use Rattle.vsd_ast.specs.Lookup.{is_lawful}
use Rattle.vsd_lift.proofs.PlaceLemmas.{All-at}
use Rattle.vsd_ways.specs.Found.{SomeOf}
use Rattle.vsd_ways.specs.Known.{MeetsFor}
use Rattle.vsd_ways.specs.Leads.{LeadsTo}
use Rattle.vsd_ways.specs.Ways.{IsReady}
use Rattle.vsd_ways.proofs.FoundLemmas.{before-split, before-more, before-here, some-before, before-all}
use Rattle.vsd_ways.proofs.SettledLemmas.{named_by}
use Rattle.vsd_ways.proofs.requiring.add_required.Goals as goal

pub add_one-requires-clause-lawful : goal.add_one-requires-clause-lawful
add_one-requires-clause-lawful c =
    let h = c.args.h.now in
    let ds = h.decls.now in
    let interfaces = c.as_slice-interfaces.result.now in
    let t = c.index-interfaces-i.result in
    let x = get_or ds c.args.at c.index-h-at.result in
    let here : slice_get ds c.args.at ≡ Some x = slice_get-get_or ds c.args.at c.index-h-at.result c.requires.within in
    let there : slice_get interfaces c.loop-i.i ≡ Some t = slice_get_read interfaces (length interfaces) c.loop-i.i t refl c.loop-i-test.true c.index-interfaces-i.is in
    let lawful = (named_by ds h.places.now h.depths.now c.args.at x c.loop-i.i t c.requires.settled here (ap (λ (l : List Located). slice_get l c.loop-i.i) (sym c.as_slice-interfaces.ensures) ∙ there)).lawful in
    subst (λ (u : Located). IsTrue (is_lawful ds u.term)) c.index-interfaces-i.is lawful

pub loop-i-preserved : goal.loop-i-preserved
loop-i-preserved c owners ready o owner asked args long =
    let ds = c.args.h.now.decls.now in
    let i = c.loop-i.i in
    let interfaces = c.as_slice-interfaces.result.now in
    let t = get_or interfaces i c.index-interfaces-i.result in
    let there : slice_get interfaces i ≡ Some t = slice_get-get_or interfaces i c.index-interfaces-i.result c.loop-i-test.true in
    let P : Located → Type 0 = λ u. LeadsTo ds (subst_of args u.term) owner in
    let now = c.in_ok-add_one.ensures owners (All-at (λ (u : Located). IsReady ds owners c.args.table.now u.term) interfaces i t there ready) o owner asked args (omega (arith, long, c.len.ensures)) in
    let before = c.loop-i.invariant owners ready o owner asked args long in (
      λ m. elim (now.0 m) [
        | inl w ↦ (elim (before.0 w) [ inl old ↦ inl old | inr b ↦ inr (before-more P interfaces i b) ])
        | inr l ↦ inr (before-here P interfaces i t there l)
      ],
      λ e. now.1 (elim e [
        | inl old ↦ inl (before.1 (inl old))
        | inr b ↦ (elim (before-split P interfaces i t there b) [ inl w ↦ inl (before.1 (inr w)) | inr l ↦ inr l ])
      ]),
    )

pub returns : goal.returns
returns c decl here owners ready o owner asked args long =
    let ds = c.args.h.now.decls.now in
    let interfaces = c.as_slice-interfaces.result.now in
    let read : get_or ds c.args.at c.index-h-at.result ≡ decl = get_or_from_slice_get ds c.args.at decl c.index-h-at.result here in
    let are : interfaces ≡ decl.interfaces = c.as_slice-interfaces.ensures ∙ ap (λ (d : Decl). d.interfaces) read in
    let P : Located → Type 0 = λ u. LeadsTo ds (subst_of args u.term) owner in
    let R : List Located → Type 0 = All (λ (u : Located). IsReady ds owners c.args.table.now u.term) in
    let exact = c.loop-i.invariant owners (subst R (sym are) ready) o owner asked args (long ∙ ap (λ (d : Decl). length d.params) (sym read)) in
    let Q : List Located → Type 0 = λ all. MeetsFor c.loop-i.ways o args ↔ (MeetsFor c.args.ways.now o args ⊎ SomeOf P all) in
    subst Q are (
      λ m. elim (exact.0 m) [ inl old ↦ inl old | inr b ↦ inr (some-before P interfaces c.loop-i.i b) ],
      λ e. exact.1 (elim e [ inl old ↦ inl old | inr s ↦ inr (before-all P interfaces c.loop-i.i (omega arith) s) ]),
    )
