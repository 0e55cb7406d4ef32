-- What the table of places tells of a name that has a declaration.
use Rattle.std.proofs.Common.{◌≡◌, ℕ, ◌<◌, inl, inr, List, length, get_or, All, sym, ◌∙◌, subst, arith}
use Rattle.std.proofs.lemmas.Bool.{cases_lt}
use Rattle.std.proofs.lemmas.List.{get_or_default, get_or_past}
use Rattle.vsd_ast.specs.declared.declarations.Decl.{Decl}
use Rattle.vsd_ast.specs.Hierarchy.{IsHierarchy}
use Rattle.vsd_ast.specs.Lookup.{place_of}
use Rattle.vsd_ast.specs.WellFormed.{AreWellFormed, IsDeclaration}
use Rattle.vsd_ast.specs.declared.declarations.Decls.{Decls}
use Rattle.vsd_lawful.specs.Index.{IsIndex}
use Rattle.vsd_lift.specs.Settled.{IsSettled}
use Rattle.vsd_lawful.proofs.IndexLemmas.{table_place_of}

module _ (ds : List Decl) (places : List ℕ) (name : ℕ) (index : IsIndex ds places) (there : place_of ds name < length ds) where
  pub name_within : name < length places
  name_within = elim (cases_lt name (length places)) [
    | inl lt ↦ lt
    | inr ge ↦ (let e = sym (get_or_past places name (length ds) ge) ∙ index.each name ∙ table_place_of ds name in absurd (omega arith))
  ]

  pub place_told : get_or places name 0 ≡ place_of ds name
  place_told = get_or_default places name 0 (length ds) name_within ∙ index.each name ∙ table_place_of ds name

-- the tables are what walks along declarations rest on
pub IsSettled-tables : (d : Decls) → AreWellFormed d → (list : List Decl) (places depths made_places made_depths : List ℕ) → list ≡ d.list → places ≡ made_places → depths ≡ made_depths → length made_places ≡ length d.names → IsIndex d.list made_places → IsHierarchy d.list made_depths → IsSettled list places depths
IsSettled-tables d well list places depths made_places made_depths list_is places_are depths_are count index hierarchy =
    let P : List Decl → List ℕ → List ℕ → Type 0 = IsSettled in
    let made : IsSettled d.list made_places made_depths = record {
      few = well.few;
      each = subst (λ (n : ℕ). All (IsDeclaration n) d.list) (sym count) well.each;
      numbered = λ name within. get_or_default made_places name 0 (length d.list) within ∙ index.each name ∙ table_place_of d.list name;
      hierarchy = hierarchy;
    } in
    subst (λ (ds : List Decl). P ds places depths) (sym list_is) (subst (λ (ps : List ℕ). P d.list ps depths) (sym places_are) (subst (λ (es : List ℕ). P d.list made_places es) (sym depths_are) made))
