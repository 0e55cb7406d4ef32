use Rattle.std.proofs.Common.{◌≡◌, ℕ, ◌↔◌, Bool, true, false, not, eqb, IsTrue, List, Some, sym, refl, ◌∙◌, arith}
use Rattle.std.specs.List.{slice_get}
use Rattle.std.proofs.lemmas.Bool.{false≢true, eqb-true}
use Rattle.std.proofs.lemmas.Bool.Decides.{Decides-eqb}
use Rattle.vsd_ast.specs.declared.declarations.Decl.{Decl}
use Rattle.vsd_lawful.specs.Index.{place_in}
use Rattle.vsd_lawful.specs.Twice.{Repeats, SameName}
use Rattle.vsd_lawful.proofs.IndexLemmas.{place_from-Some, place_from-least, place_from-absent}
use Rattle.vsd_lawful.proofs.duplicates.is_redeclared.Goals as goal

-- the first of the name stands elsewhere exactly where an earlier one has the name
elsewhere : (ds : List Decl) (place first : ℕ) (x : Decl) → slice_get ds place ≡ Some x → place_in ds x.name ≡ Some first → (b : Bool) → eqb first place ≡ b → IsTrue (not b) ↔ Repeats SameName ds place x
elsewhere ds place first x here found true is =
    let same : first ≡ place = eqb-true first place is in
    (λ h. absurd (false≢true h), λ r. absurd (omega (arith, place_from-least 0 ds x.name first r.earlier r.other found r.there r.alike, r.before)))
elsewhere ds place first x here found false is =
    let at = place_from-Some 0 ds x.name first found in
    let least = place_from-least 0 ds x.name first place x found here refl in
    let differ : ¬ (first ≡ place) = λ e. false≢true (sym is ∙ (Decides-eqb first place).1 e) in
    (λ h. record { earlier = at.offset; before = omega (arith, at.is, least, differ); other = at.element; there = at.there; alike = at.named }, λ r. refl)

pub returns-in-Some : goal.returns-in-Some
returns-in-Some c =
    elsewhere c.args.scope.now.list.now c.args.place c.in-Some.first c.args.decl.now c.requires (sym c.in-Some.ensures) (eqb c.in-Some.first c.args.place) refl

pub returns-in-None : goal.returns-in-None
returns-in-None c = (λ no_one. absurd (false≢true no_one), λ r. absurd (place_from-absent 0 c.args.scope.now.list.now c.args.decl.now.name r.earlier r.other (sym c.in-None.ensures) r.there r.alike))
