-- The declarations of a type and of those above it, and what the slots of the lowest hold.
use Rattle.std.proofs.Common.{◌≡◌, ℕ, zero, suc, ◌+◌, ◌<◌, ◌≤◌, inl, inr, Bool, true, false, if◌then◌else◌, IfSome, List, [], ◌∷◌, length, get_or, map, Option, Some, None, refl, sym, ap, ◌∙◌, subst, arith, add-one}
use Rattle.std.specs.List.{slice_get}
use Rattle.std.specs.Option.{option_and_then, option_map}
use Rattle.std.proofs.lemmas.Option.{slice_get-get_or, slice_get_cases}
use Rattle.vsd_terms.specs.declared.term.Term.{Term}
use Rattle.vsd_terms.specs.Substitution.{subst_of}
use Rattle.vsd_ast.specs.declared.declarations.Decl.{Decl}
use Rattle.vsd_ast.specs.declared.declarations.Located.{Located}
use Rattle.vsd_ast.specs.Hierarchy.{IsBase, IsHierarchy, IsPlaced}
use Rattle.vsd_ast.specs.Lookup.{Head, named, parameter, built_in, head_of, declared, place_of}
use Rattle.vsd_lift.specs.Chain.{IsChain, base_name, head_name, place_above}
use Rattle.vsd_types.specs.Types.{args_of, base_of, base_of_head, declared_base, object, place_of_head, written_base}
use Rattle.vsd_types.proofs.BaseLemmas.{head_of-Builtin}
use Rattle.vsd_types.proofs.Declared.{declared-All, declared-place, place_of-within}
use Rattle.vsd_terms.specs.declared.term.Builtin.TheVariants.{Object}
use Rattle.vsd_interfaces.proofs.RankLaws.{head-subst}
use Rattle.vsd_interfaces.specs.Lineage.{IsLineage, Level}

same_some : {A : Type 0} {x y : A} → Some x ≡ Some y → x ≡ y
same_some e = cc

none_some : {A : Type 0} {x : A} → None ≡ Some x → ⊥
none_some e = absurd cc

module _ (ds : List Decl) (depths : List ℕ) (h : IsHierarchy ds depths) where
  abbrev place : Term → Option ℕ
  place t = place_of_head ds (head_of t)

  abbrev place_in : Option Term → Option ℕ
  place_in None = None
  place_in (Some b) = place b

  abbrev pub from_place : Option ℕ → List ℕ → List ℕ
  from_place None rest = []
  from_place (Some n) rest = n ∷ rest

  -- the declarations of a lineage, up to the first type that has none
  abbrev pub places : List Level → List ℕ
  places [] = []
  places (l ∷ above) = from_place (place l.type) (places above)

  head_place : (g : Head) → option_map (place_of ds) (head_name g) ≡ place_of_head ds g
  head_place (named name) = refl
  head_place (parameter p) = refl
  head_place (built_in b) = refl

  base_no_parameter : (g : Head) → IsBase ds g → (p : ℕ) → g ≡ parameter p → ⊥
  base_no_parameter (named name) is p e = absurd cc
  base_no_parameter (parameter q) is p e = is
  base_no_parameter (built_in b) is p e = absurd cc

  written : (args : List Term) (b : Option Located) → IfSome b (λ (l : Located). IsBase ds (head_of l.term)) → option_map (place_of ds) (base_name b) ≡ place (written_base args b)
  written args None placed = sym (ap (place_of_head ds) (head_of-Builtin Object))
  written args (Some b) placed = head_place (head_of b.term) ∙ sym (ap (place_of_head ds) (head-subst args b.term (base_no_parameter (head_of b.term) placed)))

  declared_above : (args : List Term) (x : Decl) → IsPlaced ds x → option_map (place_of ds) (base_name x.base) ≡ place_in (declared_base args x)
  declared_above args x placed =
      let M : Bool → Type 0 = λ k. x.is_interface ≡ k → option_map (place_of ds) (base_name x.base) ≡ place_in (if k then None else Some (written_base args x.base)) in
      let both : M x.is_interface = elim x.is_interface as M [
        | true ↦ (λ is. ap (λ (b : Option Located). option_map (place_of ds) (base_name b)) (placed.no_base is))
        | false ↦ (λ is. written args x.base placed.base)
      ] in
      both refl

  -- the declaration above that of a type is that of its base
  above_place : (args : List Term) (g : Head) (d : ℕ) → place_of_head ds g ≡ Some d → place_above ds (slice_get ds d) ≡ place_in (base_of_head ds args g)
  above_place args (parameter p) d at = absurd cc
  above_place args (built_in b) d at = absurd cc
  above_place args (named name) d at = by (declared ds name) refl
    where
      by : (o : Option Decl) → declared ds name ≡ o → place_above ds (slice_get ds d) ≡ place_in (option_and_then (declared_base args) o)
      by None is = elim (slice_get_cases ds d).1 [
        | inl there ↦ (
            let same : place_of ds name ≡ d = same_some at in
            let within : place_of ds name < length ds = subst (λ n. n < length ds) (sym same) there.1 in
            absurd (none_some (sym is ∙ declared-place ds name there.0 within))
            )
        | inr past ↦ ap (place_above ds) past.1
      ]
      by (Some x) is =
          let same : place_of ds name ≡ d = same_some at in
          let within : place_of ds name < length ds = place_of-within ds name (rw is refl) in
          let here : slice_get ds d ≡ Some x = ap (slice_get ds) (sym same) ∙ slice_get-get_or ds (place_of ds name) x within ∙ sym (declared-place ds name x within) ∙ is in
          ap (place_above ds) here ∙ declared_above args x (declared-All (IsPlaced ds) ds name x h.each is)

  -- the chain of a type's declaration has the declarations of its lineage
  next_place : (o : Option Term) (levels : List Level) → IsLineage ds o levels → place_in o ≡ slice_get (places levels) 0
  next_place None [] up = refl
  next_place None (l ∷ above) up = absurd up
  next_place (Some b) [] up = absurd up
  next_place (Some b) (l ∷ above) up = by (place l.type) refl
    where
      by : (o : Option ℕ) → place l.type ≡ o → place b ≡ slice_get (from_place o (places above)) 0
      by None is = ap place (sym up.0) ∙ is
      by (Some n) is = ap place (sym up.0) ∙ is

  IsNext : List ℕ → Type 0
  IsNext chain = (level n : ℕ) → slice_get chain level ≡ Some n → place_above ds (slice_get ds n) ≡ slice_get chain (suc level)

  nexts : (o : Option Term) (levels : List Level) → IsLineage ds o levels → IsNext (places levels)
  unfolding IsNext
  nexts None [] up level n at = absurd (none_some at)
  nexts None (l ∷ above) up level n at = absurd up
  nexts (Some t) [] up level n at = absurd up
  nexts (Some t) (l ∷ above) up level n at = by (place l.type) refl (nexts (base_of ds t) above up.2) level n at
    where
      by : (o : Option ℕ) → place l.type ≡ o → IsNext (places above) → IsNext (from_place o (places above))
      by None is rest level n at = absurd (none_some at)
      by (Some d) is rest zero n at =
          let same : d ≡ n = same_some at in
          let here : place t ≡ Some n = ap place (sym up.0) ∙ is ∙ ap Some same in
          above_place (args_of t) (head_of t) n here ∙ next_place (base_of ds t) above up.2
      by (Some d) is rest (suc level) n at = rest level n at

  pub chain-is : (t : Term) (levels : List Level) (d : ℕ) → IsLineage ds (Some t) levels → place t ≡ Some d → IsChain ds d (places levels)
  unfolding IsNext
  chain-is t levels d up at = record {
    first = sym (next_place (Some t) levels up) ∙ at;
    next = λ level n here. nexts (Some t) levels up level n here ∙ ap (slice_get (places levels)) (let e : suc level ≡ level + 1 = omega arith in e);
  }
