-- The steps of the graphs of declarations.
use Rattle.std.proofs.Common.{◌≡◌, ℕ, ◌<◌, ◌≤◌, zero, suc, Bool, true, false, cond, List, [], ◌∷◌, ◌++◌, length, get_or, Option, Some, None, ◌⊎◌, inl, inr, refl, sym, ap, ◌∙◌, subst, arith, Contains}
use Rattle.std.specs.List.{slice_get, filter, filter_map, cons_option}
use Rattle.std.proofs.lemmas.Bool.{cases_lt}
use Rattle.std.proofs.lemmas.List.{length-map, get_or_past}
use Rattle.std.proofs.lemmas.List.Elements.{filter_map-append, Contains-append_left, Contains-append_right, Contains-append_cases}
use Rattle.std.proofs.lemmas.Option.{slice_get-map, get_or_from_slice_get}
use Rattle.std.specs.Option.{option_map}
use Rattle.vsd_terms.specs.declared.term.Term.{Term}
use Rattle.vsd_ast.specs.declared.declarations.Decl.{Decl}
use Rattle.vsd_ast.specs.Hierarchy.{above, base_terms}
use Rattle.vsd_ast.specs.Lookup.{Head, named, parameter, built_in, head_of}
use Rattle.vsd_graph.specs.Graph.{targets, IsClosed}
use Rattle.vsd_lawful.proofs.IndexLemmas.{IsPlaceOf, place_from-Some}
use Rattle.vsd_hierarchy.specs.Cycles.{followed, interface_terms, named_by, is_interface, is_class, required, base_class, place_named, places_of, graph_of}

later : {A : Type 0} → (t : A) (ts : List A) (x : A) → Contains ts x → Contains (t ∷ ts) x
later t ts x w = (suc w.0, omega (arith, w.1), w.2)

-- an element that a `filter_map` gives comes from one of the list
pub record FromOne {X : Type 0} (f : X → Option ℕ) (xs : List X) (y : ℕ) : Type 0 where
  pub element : X
  pub among : Contains xs element
  pub gives : f element ≡ Some y

pub filter_map-from : {X : Type 0} (f : X → Option ℕ) (xs : List X) (y : ℕ) → Contains (filter_map f xs) y → FromOne f xs y
filter_map-from f [] y w = absurd (omega (arith, w.1))
filter_map-from {X} f (x ∷ xs) y w = by (f x) refl w (filter_map-from f xs y)
  where
    rest : FromOne f xs y → FromOne f (x ∷ xs) y
    rest r = record { element = r.element; among = later x xs r.element r.among; gives = r.gives }

    found : (z k : ℕ) → f x ≡ Some z → k < length (z ∷ filter_map f xs) → get_or (z ∷ filter_map f xs) k y ≡ y → (Contains (filter_map f xs) y → FromOne f xs y) → FromOne f (x ∷ xs) y
    found z zero is within here more = record { element = x; among = (0, omega arith, refl); gives = is ∙ ap Some here }
    found z (suc k) is within here more = rest (more (k, omega (arith, within), here))

    by : (o : Option ℕ) → f x ≡ o → Contains (cons_option o (filter_map f xs)) y → (Contains (filter_map f xs) y → FromOne f xs y) → FromOne f (x ∷ xs) y
    by None is v more = rest (more v)
    by (Some z) is v more = found z v.0 is v.1 v.2 more

beside : (o : Option ℕ) (js : List ℕ) {j : ℕ} → Contains js j → Contains (cons_option o js) j
beside None js w = w
beside (Some z) js {j} w = later z js j w

-- where what follows is among other places, so is the whole beside the same first one
from_either : (o : Option ℕ) (few many : List ℕ) {j : ℕ} → Contains (cons_option o few) j → (Contains few j → Contains many j) → Contains (cons_option o many) j
from_either None few many w more = more w
from_either (Some z) few many {j} w more = by w.0 w.1 w.2
  where
    by : (k : ℕ) → k < length (z ∷ few) → get_or (z ∷ few) k j ≡ j → Contains (z ∷ many) j
    by zero within is = (0, omega arith, is)
    by (suc k) within is = later z many j (more (k, omega (arith, within), is))

module _ (ds : List Decl) where
  -- the declaration that a head names stands at this place
  pub record IsNamedPlace (h : Head) (place : ℕ) : Type 0 where
    pub name : ℕ
    pub is : h ≡ named name
    pub stands : IsPlaceOf ds 0 name place

  pub place_named-Some : (h : Head) (place : ℕ) → place_named ds h ≡ Some place → IsNamedPlace h place
  place_named-Some (named name) place found = record { name = name; is = refl; stands = place_from-Some 0 ds name place found }
  place_named-Some (parameter p) place found = absurd cc
  place_named-Some (built_in b) place found = absurd cc

  -- a step from a declaration leads to one that a term of it names
  pub record IsStep (ts : List Term) (place : ℕ) : Type 0 where
    pub term : Term
    pub among : Contains ts term
    pub named_place : IsNamedPlace (head_of term) place

  pub step_from : (ts : List Term) (place : ℕ) → Contains (places_of ds ts) place → IsStep ts place
  step_from ts place w =
      let one = filter_map-from (λ t. place_named ds (head_of t)) ts place w in
      record { term = one.element; among = one.among; named_place = place_named-Some (head_of one.element) place one.gives }

  module _ (terms : Decl → List Term) where
    pub targets_at : (i : ℕ) (x : Decl) → slice_get ds i ≡ Some x → targets (graph_of ds terms) i ≡ places_of ds (terms x)
    targets_at i x here = get_or_from_slice_get (graph_of ds terms) i (places_of ds (terms x)) [] (slice_get-map (λ (y : Decl). places_of ds (terms y)) ds i ∙ ap (option_map (λ (y : Decl). places_of ds (terms y))) here)

    pub record IsEdge (i j : ℕ) : Type 0 where
      pub declaration : Decl
      pub there : slice_get ds i ≡ Some declaration
      pub leads : Contains (places_of ds (terms declaration)) j

    pub edge_from : (i j : ℕ) → Contains (targets (graph_of ds terms) i) j → IsEdge i j
    edge_from i j w = elim (cases_lt i (length ds)) [
      | inl within ↦ at_declaration (slice_get ds i) refl within
      | inr past ↦ absurd (nothing (omega (arith, past, length-map ds (λ (y : Decl). places_of ds (terms y)))))
    ]
      where
        nothing : length (graph_of ds terms) ≤ i → ⊥
        nothing past = let v = subst (λ (xs : List ℕ). Contains xs j) (get_or_past (graph_of ds terms) i [] past) w in omega (arith, v.1)

        at_declaration : (o : Option Decl) → slice_get ds i ≡ o → i < length ds → IsEdge i j
        at_declaration None none within = absurd (some_there ds i within none)
          where
            some_there : (xs : List Decl) (k : ℕ) → k < length xs → slice_get xs k ≡ None → ⊥
            some_there [] k lt none = omega arith
            some_there (y ∷ ys) zero lt none = absurd cc
            some_there (y ∷ ys) (suc k) lt none = some_there ys k (omega arith) none
        at_declaration (Some x) here within = record { declaration = x; there = here; leads = subst (λ (xs : List ℕ). Contains xs j) (targets_at i x here) w }

    -- each step leads to a declaration
    pub IsClosed-graph_of : IsClosed (graph_of ds terms)
    IsClosed-graph_of i j w =
        let e = edge_from i j w in
        let s = step_from (terms e.declaration) j e.leads in
        let p = s.named_place.stands in
        omega (arith, p.is, p.within, length-map ds (λ (y : Decl). places_of ds (terms y)))

  places_of-append : (xs ys : List Term) → places_of ds (xs ++ ys) ≡ places_of ds xs ++ places_of ds ys
  places_of-append xs ys = filter_map-append (λ t. place_named ds (head_of t)) xs ys

  -- what the terms that pass a test lead to, the terms lead to
  filtered_among : (test : Term → Bool) (ts : List Term) (j : ℕ) → Contains (places_of ds (filter test ts)) j → Contains (places_of ds ts) j
  filtered_among test [] j w = w
  filtered_among test (t ∷ ts) j w = by (test t) w (filtered_among test ts j)
    where
      by : (b : Bool) → Contains (places_of ds (cond b (t ∷ filter test ts) (filter test ts))) j → (Contains (places_of ds (filter test ts)) j → Contains (places_of ds ts) j) → Contains (places_of ds (t ∷ ts)) j
      by true v more = from_either (place_named ds (head_of t)) (places_of ds (filter test ts)) (places_of ds ts) v more
      by false v more = beside (place_named ds (head_of t)) (places_of ds ts) (more v)

  -- what the terms lead to, those that pass a test lead to, where each term of that place passes it
  pub filtered_still : (test : Term → Bool) (ts : List Term) (j : ℕ) → ((t : Term) → place_named ds (head_of t) ≡ Some j → test t ≡ true) → Contains (places_of ds ts) j → Contains (places_of ds (filter test ts)) j
  filtered_still test [] j passes w = w
  filtered_still test (t ∷ ts) j passes w = by (place_named ds (head_of t)) refl w (filtered_still test ts j passes)
    where
      kept : Contains (places_of ds (filter test ts)) j → (b : Bool) → Contains (places_of ds (cond b (t ∷ filter test ts) (filter test ts))) j
      kept v true = beside (place_named ds (head_of t)) (places_of ds (filter test ts)) v
      kept v false = v

      by : (o : Option ℕ) → place_named ds (head_of t) ≡ o → Contains (cons_option o (places_of ds ts)) j → (Contains (places_of ds ts) j → Contains (places_of ds (filter test ts)) j) → Contains (places_of ds (cond (test t) (t ∷ filter test ts) (filter test ts))) j
      by None is v more = kept (more v) (test t)
      by (Some z) is v more = found z v.0 is v.1 v.2 more
        where
          found : (z k : ℕ) → place_named ds (head_of t) ≡ Some z → k < length (z ∷ places_of ds ts) → get_or (z ∷ places_of ds ts) k j ≡ j → (Contains (places_of ds ts) j → Contains (places_of ds (filter test ts)) j) → Contains (places_of ds (cond (test t) (t ∷ filter test ts) (filter test ts))) j
          found z zero is within here more =
              let passed = passes t (is ∙ ap Some here) in
              subst (λ (b : Bool). Contains (places_of ds (cond b (t ∷ filter test ts) (filter test ts))) j) (sym passed) (subst (λ (o : Option ℕ). Contains (cons_option o (places_of ds (filter test ts))) j) (sym (is ∙ ap Some here)) (0, omega arith, refl))
          found z (suc k) is within here more = kept (more (k, omega (arith, within), here)) (test t)

  -- what one follows from a declaration is among what it names above itself
  pub followed_above : (x : Decl) (j : ℕ) → Contains (places_of ds (followed ds x)) j → Contains (places_of ds (above x)) j
  followed_above x j w = subst (λ (xs : List ℕ). Contains xs j) (sym (places_of-append (base_terms x.base) (interface_terms x.interfaces))) (by x.is_interface w)
    where
      by : (b : Bool) → Contains (places_of ds (cond b (required ds x.interfaces) (base_class ds x.base))) j → Contains (places_of ds (base_terms x.base) ++ places_of ds (interface_terms x.interfaces)) j
      by true v = Contains-append_right (places_of ds (base_terms x.base)) (places_of ds (interface_terms x.interfaces)) j (filtered_among (λ t. is_interface (named_by ds (head_of t))) (interface_terms x.interfaces) j v)
      by false v = Contains-append_left (places_of ds (base_terms x.base)) (places_of ds (interface_terms x.interfaces)) j (filtered_among (λ t. is_class (named_by ds (head_of t))) (base_terms x.base) j v)

  -- what stands above a declaration is its base or an interface
  pub above_cases : (x : Decl) (j : ℕ) → Contains (places_of ds (above x)) j → Contains (places_of ds (base_terms x.base)) j ⊎ Contains (places_of ds (interface_terms x.interfaces)) j
  above_cases x j w = Contains-append_cases (places_of ds (base_terms x.base)) (places_of ds (interface_terms x.interfaces)) j (subst (λ (xs : List ℕ). Contains xs j) (places_of-append (base_terms x.base) (interface_terms x.interfaces)) w)
