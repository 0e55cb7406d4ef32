-- The interfaces that a class has itself are the first of all that it has.
use Rattle.std.proofs.Common.{◌≡◌, ℕ, ◌<◌, inl, inr, Bool, true, false, List, [], ◌∷◌, ◌++◌, length, if◌then◌else◌, get_or, ltb, Some, refl, sym, ap, ◌∙◌, subst, arith}
use Rattle.std.specs.List.{flat_map, list_any}
use Rattle.std.proofs.lemmas.Bool.{cases_lt, le-ltb, lt-ltb}
use Rattle.std.proofs.lemmas.List.{get_or-map, get_or_append_left, length-append, length-map}
use Rattle.std.proofs.lemmas.List.Sums.{fold-append}
use Rattle.std.proofs.lemmas.Option.{slice_get-get_or}
use Rattle.indexmap.specs.IndexSet.{insert_all, insert_key}
use Rattle.vsd_terms.specs.declared.term.Term.{Term}
use Rattle.vsd_terms.specs.Equality.{term_eq}
use Rattle.vsd_terms.proofs.TermLemmas.{has_term-Decides}
use Rattle.vsd_ast.specs.declared.declarations.Decl.{Decl}
use Rattle.vsd_ast.specs.Hierarchy.{IsHierarchy}
use Rattle.vsd_types.specs.Numbers.{IsDistinct}
use Rattle.vsd_types.specs.TypeList.{TypeList}
use Rattle.vsd_types.specs.Types.{is_interface_type, named_of, object, type_at}
use Rattle.vsd_slots.specs.Entries.{IsHaving}
use Rattle.vsd_interfaces.specs.Interfaces.{AreInterfaces, firsts, tree}
use Rattle.vsd_interfaces.specs.Lineage.{IsLineage, Level, all_interfaces}
use Rattle.vsd_interfaces.specs.Tables.{AreOwn, IsMap, IsReached, types_of}
use Rattle.vsd_interfaces.proofs.FirstLaws.{insert-firsts}
use Rattle.vsd_interfaces.proofs.ReachLaws.{all-distinct}
use Rattle.vsd_interfaces.proofs.RowLaws.{own-are}
use Rattle.vsd_interfaces.proofs.ReadLaws.{read_any}
use Rattle.vsd_interfaces.proofs.UniqueLaws.{interfaces-unique}

-- what stood at a place before an insertion stands there after it
abbrev StandsAt : List Term → List Term → ℕ → Term → Type 0
StandsAt ts new k d = (k < length new) × (get_or new k d ≡ get_or ts k d)

key-stands : (ts : List Term) (x d : Term) (k : ℕ) → k < length ts → StandsAt ts (insert_key term_eq ts x) k d
key-stands ts x d k within =
    let M : Bool → Type 0 = λ b. StandsAt ts (if b then ts else ts ++ x ∷ []) k d in
    elim (list_any (term_eq x) ts) as M [
      | true ↦ (within, refl)
      | false ↦ (omega (arith, within, length-append ts (x ∷ [])), get_or_append_left ts (x ∷ []) d k within)
    ]

all-stands : (ts xs : List Term) (d : Term) (k : ℕ) → k < length ts → StandsAt ts (insert_all term_eq ts xs) k d
all-stands ts [] d k within = (within, refl)
all-stands ts (x ∷ xs) d k within =
    let first = key-stands ts x d k within in
    let rest = all-stands (insert_key term_eq ts x) xs d k first.0 in
    (rest.0, rest.1 ∙ first.1)

not_true : (b : Bool) → (b ≡ true → ⊥) → b ≡ false
not_true true other = absurd (other refl)
not_true false other = refl

-- of a list with more inserted, those that were in it are those before its end
front-test : (own more : List Term) → IsDistinct own → (k : ℕ) (d : Term) → k < length (insert_all term_eq own more)
    → ltb k (length own) ≡ list_any (term_eq (get_or (insert_all term_eq own more) k d)) own
front-test own more distinct k d within =
    let all = insert_all term_eq own more in
    let x = get_or all k d in
    let decides = has_term-Decides own x in
    elim (cases_lt k (length own)) [
      | inl low ↦ (
          let same : get_or own k x ≡ x = read_any own k x d low ∙ sym (all-stands own more d k low).1 in
          lt-ltb k (length own) low ∙ sym (decides.1 (k, low, same))
          )
      | inr high ↦ le-ltb k (length own) high ∙ sym (not_true (list_any (term_eq x) own) (λ there.
          let at = decides.0 there in
          let stands = all-stands own more d at.0 at.1 in
          let same : get_or all at.0 d ≡ x = stands.1 ∙ read_any own at.0 d x at.1 ∙ at.2 in
          let first = slice_get-get_or all at.0 d stands.0 ∙ ap Some same in
          let e : at.0 ≡ k = all-distinct own more distinct at.0 k x first (slice_get-get_or all k d within) in
          omega (arith, e, at.1, high)))
    ]

-- each interface of a type is there once
firsts-same : (ds : List Decl) (t : Term) (ts : List Term) (b : Bool) → is_interface_type ds t ≡ b → AreInterfaces ds t ts
    → firsts ts ≡ ts
firsts-same ds t ts false is are =
    let reached = are.class is in
    let whole = reached.whole reached.height (omega arith) in
    ap firsts whole ∙ insert-firsts [] (flat_map (tree ds reached.height) (named_of ds t)) ∙ sym whole
firsts-same ds t ts true is are = let none = are.other is in ap firsts none ∙ sym none

module _ (c : TypeList) (t : ℕ) where
  abbrev Ty : Term
  Ty = type_at c.types t

  having-level : (own map : List ℕ) (k : ℕ) → AreInterfaces c.decls.list Ty (types_of c.types own) → k < length map
      → (levels : List Level) → IsLineage c.decls.list (Some Ty) levels → types_of c.types map ≡ all_interfaces levels
      → IsHaving c t (get_or map k 0) (ltb k (length own))
  having-level own map k mine within [] lineage all = absurd lineage
  having-level own map k mine within (l ∷ above) lineage all =
      let ds = c.decls.list in
      let ts = l.interfaces in
      let more = flat_map (λ (l : Level). l.interfaces) above in
      let once = firsts-same ds Ty ts (is_interface_type ds Ty) refl lineage.1 in
      let whole : types_of c.types map ≡ insert_all term_eq ts more =
      all ∙ fold-append (insert_key term_eq) [] ts more ∙ ap (λ l. insert_all term_eq l more) once in
      let distinct = subst IsDistinct once (all-distinct [] ts (λ i j u a b. absurd cc)) in
      let same : types_of c.types own ≡ ts = interfaces-unique ds Ty (types_of c.types own) ts mine lineage.1 in
      let long : length own ≡ length ts = sym (length-map own (type_at c.types)) ∙ ap length same in
      let mapped = length-map map (type_at c.types) in
      let inside : k < length (insert_all term_eq ts more) = omega (arith, within, mapped, ap length whole) in
      let at : get_or (insert_all term_eq ts more) k object ≡ type_at c.types (get_or map k 0) =
      ap (λ l. get_or l k object) (sym whole) ∙ get_or-map (type_at c.types) map k 0 object within in
      record {
        interfaces = ts;
        are = lineage.1;
        test = ap (ltb k) long ∙ front-test ts more distinct k object inside ∙ ap (λ x. list_any (term_eq x) ts) at;
      }

  -- so a class has those itself that stand before as many places as it has itself
  pub having-own : (depths : List ℕ) → IsDistinct c.types → IsHierarchy c.decls.list depths → (reached own map : List ℕ) (k : ℕ)
      → IsReached c depths t reached → AreOwn c reached t own → IsMap c t map → k < length map
      → IsHaving c t (get_or map k 0) (ltb k (length own))
  having-own depths distinct h reached own map k right owned is within =
      let mine = own-are c depths distinct h t reached own (is_interface_type c.decls.list Ty) refl right owned in
      having-level own map k mine.1 within is.levels is.lineage is.all
