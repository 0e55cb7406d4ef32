-- Levels of the graph upward are depths, and with depths no walk comes back.
use Rattle.std.proofs.Common.{◌≡◌, ℕ, ◌+◌, ◌<◌, ◌≤◌, zero, suc, max, List, [], ◌∷◌, length, map, get_or, Option, Some, None, refl, ap, ◌∙◌, arith, Contains}
use Rattle.std.specs.List.{cons_option}
use Rattle.std.proofs.lemmas.List.{length-map, get_or_past}
use Rattle.std.proofs.lemmas.Option.{slice_get_within}
use Rattle.vsd_terms.specs.Size.{greatest}
use Rattle.vsd_terms.specs.declared.term.Term.{Term}
use Rattle.vsd_ast.specs.declared.declarations.Decl.{Decl}
use Rattle.vsd_ast.specs.Hierarchy.{above, AreDepths, number_for}
use Rattle.vsd_ast.specs.Lookup.{Head, named, parameter, built_in, head_of, place_of}
use Rattle.vsd_graph.specs.Graph.{AreLevels, Walk, ReachesItself, targets}
use Rattle.vsd_lawful.specs.Index.{place_in}
use Rattle.vsd_lawful.proofs.IndexLemmas.{place_from-Some, place_of-None}
use Rattle.vsd_hierarchy.specs.Cycles.{followed, place_named, places_of, graph_of}
use Rattle.vsd_hierarchy.proofs.EdgeLemmas.{edge_from, targets_at, followed_above}

module _ (ds : List Decl) (levels : List ℕ) (count : length levels ≡ length ds) where
  abbrev level_of : Option ℕ → ℕ
  level_of None = 0
  level_of (Some j) = get_or levels j 0

  named_number : (name : ℕ) (o : Option ℕ) → place_in ds name ≡ o → number_for ds levels (named name) ≡ level_of o
  named_number name None missing = get_or_past levels (place_of ds name) 0 (omega (arith, count, place_of-None 0 ds name missing))
  named_number name (Some j) found = let p = place_from-Some 0 ds name j found in ap (λ k. get_or levels k 0) (omega (arith, p.is, p.lookup))

  number_is : (h : Head) → number_for ds levels h ≡ level_of (place_named ds h)
  number_is (named name) = named_number name (place_in ds name) refl
  number_is (parameter p) = refl
  number_is (built_in b) = refl

  -- the greatest number of the terms is that of the places that they name
  greatest_is : (ts : List Term) → greatest (map (λ j. get_or levels j 0) (places_of ds ts)) ≡ greatest (map (λ t. number_for ds levels (head_of t)) ts)
  greatest_is [] = refl
  greatest_is (t ∷ ts) =
      let rest = greatest_is ts in
      let here = number_is (head_of t) in
      by (place_named ds (head_of t)) here rest
    where
      by : (o : Option ℕ) → number_for ds levels (head_of t) ≡ level_of o → greatest (map (λ j. get_or levels j 0) (places_of ds ts)) ≡ greatest (map (λ t. number_for ds levels (head_of t)) ts) → greatest (map (λ j. get_or levels j 0) (cons_option o (places_of ds ts))) ≡ max (number_for ds levels (head_of t)) (greatest (map (λ t. number_for ds levels (head_of t)) ts))
      by None here rest = omega (arith, here, rest)
      by (Some j) here rest = omega (arith, here, rest)

pub AreDepths-levels : (ds : List Decl) (levels : List ℕ) → AreLevels (graph_of ds above) levels → AreDepths ds levels
AreDepths-levels ds levels are =
    let count = are.count ∙ length-map ds (λ (x : Decl). places_of ds (above x)) in
    record {
      count = count;
      each = λ i x here.
          are.each i (omega (arith, slice_get_within ds i x here, length-map ds (λ (x : Decl). places_of ds (above x)))) ∙ ap (λ ts. suc (greatest (map (λ j. get_or levels j 0) ts))) (targets_at ds above i x here) ∙ ap suc (greatest_is ds levels count (above x));
    }

among-greatest : (f : ℕ → ℕ) (ts : List ℕ) (j : ℕ) → Contains ts j → f j ≤ greatest (map f ts)
among-greatest f [] j w = absurd (omega (arith, w.1))
among-greatest f (t ∷ ts) j w = by w.0 w.1 w.2 (among-greatest f ts j)
  where
    by : (k : ℕ) → k < length (t ∷ ts) → get_or (t ∷ ts) k j ≡ j → (Contains ts j → f j ≤ greatest (map f ts)) → f j ≤ max (f t) (greatest (map f ts))
    by zero within is more = omega (arith, ap f is)
    by (suc k) within is more = omega (arith, more (k, omega (arith, within), is))

module _ (ds : List Decl) (depths : List ℕ) (are : AreDepths ds depths) where
  -- a step upward leads to a lower depth
  falls : (i j : ℕ) → Contains (targets (graph_of ds (followed ds)) i) j → get_or depths j 0 < get_or depths i 0
  falls i j w =
      let e = edge_from ds (followed ds) i j w in
      let up = followed_above ds e.declaration j e.leads in
      let below = among-greatest (λ k. get_or depths k 0) (places_of ds (above e.declaration)) j up in
      omega (arith, are.each i e.declaration e.there, greatest_is ds depths are.count (above e.declaration), below)

  walked : (k i j : ℕ) → Walk (graph_of ds (followed ds)) k i j → get_or depths j 0 + k ≤ get_or depths i 0
  walked zero i j walk = omega (arith, ap (λ n. get_or depths n 0) walk)
  walked (suc k) i j walk = omega (arith, falls i walk.0 walk.1, walked k walk.0 j walk.2)

  -- so no declaration reaches itself
  pub no_return : (i : ℕ) → ReachesItself (graph_of ds (followed ds)) i → ⊥
  no_return i r = omega (arith, walked (suc r.0) i i r.1)
