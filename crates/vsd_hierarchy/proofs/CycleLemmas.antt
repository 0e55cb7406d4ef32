-- Where bases and interfaces are of the right kinds, a walk upward that comes back is one by bases or by interfaces alone.
use Rattle.std.proofs.Common.{◌≡◌, ℕ, ◌<◌, zero, suc, Bool, true, false, List, [], ◌∷◌, length, get_or, Option, Some, None, IsSome, IsTrue, cond, not, ◌⊎◌, inl, inr, refl, sym, ap, ◌∙◌, subst, arith, Contains}
use Rattle.std.specs.List.{slice_get}
use Rattle.std.specs.Option.{IsSomeAnd}
use Rattle.vsd_least.specs.Least.{AtSome}
use Rattle.std.proofs.lemmas.Bool.{true≢false}
use Rattle.vsd_terms.specs.declared.term.Term.{Term}
use Rattle.vsd_ast.specs.declared.declarations.Decl.{Decl}
use Rattle.vsd_ast.specs.declared.declarations.Located.{Located}
use Rattle.vsd_ast.specs.Hierarchy.{above, base_terms}
use Rattle.vsd_ast.specs.Lookup.{Head, named, head_of, declared, is_value_type}
use Rattle.vsd_graph.specs.Graph.{Walk, ReachesItself, IsCyclic, targets}
use Rattle.vsd_hierarchy.specs.Cycles.{followed, interface_terms, named_by, is_interface, is_class, required, base_class, place_named, places_of, graph_of, ShowsCycle}
use Rattle.vsd_hierarchy.specs.Kinds.{HasBadBase, IsUnfit, IsNoInterface}
use Rattle.vsd_hierarchy.proofs.EdgeLemmas.{IsNamedPlace, edge_from, step_from, targets_at, above_cases, place_named-Some, filtered_still}

true_or_false : (b : Bool) → (b ≡ true) ⊎ (b ≡ false)
true_or_false true = inl refl
true_or_false false = inr refl

-- an interface's term is that of an interface that is named
pub record IsTermOf (interfaces : List Located) (t : Term) : Type 0 where
  pub interface : Located
  pub among : Contains interfaces interface
  pub is : interface.term ≡ t

pub interface_of : (interfaces : List Located) (t : Term) → Contains (interface_terms interfaces) t → IsTermOf interfaces t
interface_of [] t w = absurd (omega (arith, w.1))
interface_of (l ∷ ls) t w = by w.0 w.1 w.2 (interface_of ls t)
  where
    by : (k : ℕ) → k < length (l.term ∷ interface_terms ls) → get_or (l.term ∷ interface_terms ls) k t ≡ t → (Contains (interface_terms ls) t → IsTermOf ls t) → IsTermOf (l ∷ ls) t
    by zero within is more = record { interface = l; among = (0, omega arith, refl); is = is }
    by (suc k) within is more =
        let r = more (k, omega (arith, within), is) in
        record { interface = r.interface; among = (suc r.among.0, omega (arith, r.among.1), r.among.2); is = r.is }

base_of : (base : Option Located) (t : Term) → Contains (base_terms base) t → (b : Located) × (base ≡ Some b) × (b.term ≡ t)
base_of None t w = absurd (omega (arith, w.1))
base_of (Some b) t w = by w.0 w.1 w.2
  where
    by : (k : ℕ) → k < length (b.term ∷ []) → get_or (b.term ∷ []) k t ≡ t → (c : Located) × (Some b ≡ Some c) × (c.term ≡ t)
    by zero within is = (b, refl, is)
    by (suc k) within is = absurd (omega (arith, within))

module _ (ds : List Decl) (good_base : (i : ℕ) (x : Decl) → slice_get ds i ≡ Some x → ¬ HasBadBase ds x) (good_interfaces : (i : ℕ) (x : Decl) → slice_get ds i ≡ Some x → (l : Located) → Contains x.interfaces l → ¬ IsNoInterface ds (head_of l.term)) where
  abbrev is_interface_at : ℕ → Bool
  is_interface_at i = is_interface (slice_get ds i)

  -- the declaration that a head names, and the kind of what stands at its place
  names_kind : (h : Head) (j : ℕ) → IsNamedPlace ds h j → (y : Decl) × ((name : ℕ) × (h ≡ named name) × (declared ds name ≡ Some y)) × (is_interface_at j ≡ y.is_interface)
  names_kind h j p =
      let at = p.stands in
      let here : at.offset ≡ j = omega (arith, at.is) in
      (at.element, (p.name, p.is, at.first_one), ap is_interface (ap (slice_get ds) (sym here) ∙ at.there))

  -- a step to an interface, which from an interface is one by a required interface; or from class to class, by a base
  abbrev StepKind : ℕ → ℕ → Type 0
  StepKind i j =
      ((is_interface_at j ≡ true) × (is_interface_at i ≡ true → Contains (targets (graph_of ds (followed ds)) i) j)) ⊎ ((is_interface_at i ≡ false) × (is_interface_at j ≡ false) × Contains (targets (graph_of ds (followed ds)) i) j)

  in_followed : (i j : ℕ) (x : Decl) → slice_get ds i ≡ Some x → Contains (places_of ds (followed ds x)) j → Contains (targets (graph_of ds (followed ds)) i) j
  in_followed i j x here w = subst (λ (xs : List ℕ). Contains xs j) (sym (targets_at ds (followed ds) i x here)) w

  -- what a term names that leads to a place is of that place's kind
  named_kind : (t : Term) (j : ℕ) → place_named ds (head_of t) ≡ Some j → (y : Decl) × (named_by ds (head_of t) ≡ Some y) × (is_interface_at j ≡ y.is_interface)
  named_kind t j leads =
      let y = names_kind (head_of t) j (place_named-Some ds (head_of t) j leads) in
      (y.0, ap (named_by ds) y.1.1 ∙ y.1.2, y.2)

  interface_passes : (j : ℕ) → is_interface_at j ≡ true → (t : Term) → place_named ds (head_of t) ≡ Some j → is_interface (named_by ds (head_of t)) ≡ true
  interface_passes j is t leads = let y = named_kind t j leads in ap is_interface y.1 ∙ sym y.2 ∙ is

  class_passes : (j : ℕ) → is_interface_at j ≡ false → (t : Term) → place_named ds (head_of t) ≡ Some j → is_class (named_by ds (head_of t)) ≡ true
  class_passes j is t leads = let y = named_kind t j leads in ap is_class y.1 ∙ ap not (sym y.2 ∙ is)

  fit_base : (h : Head) (y : Decl) → ((name : ℕ) × (h ≡ named name) × (declared ds name ≡ Some y)) → ¬ IsUnfit ds h → y.is_interface ≡ false
  fit_base h y is fit = elim (true_or_false y.is_interface) [
    | inl interface ↦ absurd (fit (subst (IsUnfit ds) (sym is.1) (subst (λ (o : Option Decl). IsSomeAnd o (λ (b : Decl). (b.is_interface ≡ true) ⊎ ((b.sealed ≡ true) ⊎ IsTrue (is_value_type b)))) (sym is.2) (inl interface))))
    | inr class ↦ class
  ]

  is_one : (h : Head) (y : Decl) → ((name : ℕ) × (h ≡ named name) × (declared ds name ≡ Some y)) → ¬ IsNoInterface ds h → y.is_interface ≡ true
  is_one h y is one = elim (true_or_false y.is_interface) [
    | inl interface ↦ interface
    | inr class ↦ absurd (one (subst (IsNoInterface ds) (sym is.1) (subst (λ (o : Option Decl). IsSomeAnd o (λ (i : Decl). i.is_interface ≡ false)) (sym is.2) class)))
  ]

  step_kind : (i j : ℕ) → Contains (targets (graph_of ds above) i) j → StepKind i j
  step_kind i j w =
      let e = edge_from ds above i j w in
      let x = e.declaration in
      let kind : is_interface_at i ≡ x.is_interface = ap is_interface e.there in
      elim (above_cases ds x j e.leads) [
        | inl by_base ↦ inr (
            let s = step_from ds (base_terms x.base) j by_base in
            let b = base_of x.base s.term s.among in
            let class : x.is_interface ≡ false = elim (true_or_false x.is_interface) [
              | inl interface ↦ absurd (good_base i x e.there (inl (interface, subst IsSome (sym b.1) refl)))
              | inr class ↦ class
            ] in
            let y = names_kind (head_of s.term) j s.named_place in
            let fit : ¬ IsUnfit ds (head_of s.term) = λ unfit. good_base i x e.there (inr (subst (λ (o : Option Located). IsSomeAnd o (λ (c : Located). IsUnfit ds (head_of c.term))) (sym b.1) (subst (λ (t : Term). IsUnfit ds (head_of t)) (sym b.2) unfit))) in
            let to_class : is_interface_at j ≡ false = y.2 ∙ fit_base (head_of s.term) y.0 y.1 fit in
            let kept = filtered_still ds (λ t. is_class (named_by ds (head_of t))) (base_terms x.base) j (class_passes j to_class) by_base in
            (kind ∙ class, to_class, in_followed i j x e.there (subst (λ (c : Bool). Contains (places_of ds (cond c (required ds x.interfaces) (base_class ds x.base))) j) (sym class) kept)))
        | inr by_interface ↦ inl (
            let s = step_from ds (interface_terms x.interfaces) j by_interface in
            let l = interface_of x.interfaces s.term s.among in
            let y = names_kind (head_of s.term) j s.named_place in
            let one : ¬ IsNoInterface ds (head_of s.term) = λ none. good_interfaces i x e.there l.interface l.among (subst (λ (t : Term). IsNoInterface ds (head_of t)) (sym l.is) none) in
            let to_interface : is_interface_at j ≡ true = y.2 ∙ is_one (head_of s.term) y.0 y.1 one in
            let kept = filtered_still ds (λ t. is_interface (named_by ds (head_of t))) (interface_terms x.interfaces) j (interface_passes j to_interface) by_interface in
            (to_interface, λ interface. in_followed i j x e.there (subst (λ (c : Bool). Contains (places_of ds (cond c (required ds x.interfaces) (base_class ds x.base))) j) (sym (sym kind ∙ interface)) kept)))
      ]

  -- from an interface one comes to interfaces alone, by required interfaces
  from_interface : (k i j : ℕ) → is_interface_at i ≡ true → Walk (graph_of ds above) k i j → (is_interface_at j ≡ true) × Walk (graph_of ds (followed ds)) k i j
  from_interface zero i j is walk = (ap is_interface_at (sym walk) ∙ is, walk)
  from_interface (suc k) i j is walk = elim (step_kind i walk.0 walk.1) [
    | inl up ↦ (let rest = from_interface k walk.0 j up.0 walk.2 in (rest.0, (walk.0, up.1 is, rest.1)))
    | inr class ↦ absurd (true≢false (sym is ∙ class.0))
  ]

  -- from a class one comes to classes by bases alone
  from_class : (k i j : ℕ) → is_interface_at i ≡ false → is_interface_at j ≡ false → Walk (graph_of ds above) k i j → Walk (graph_of ds (followed ds)) k i j
  from_class zero i j is ends walk = walk
  from_class (suc k) i j is ends walk = elim (step_kind i walk.0 walk.1) [
    | inl up ↦ absurd (true≢false (sym (from_interface k walk.0 j up.0 walk.2).0 ∙ ends))
    | inr class ↦ (walk.0, class.2, from_class k walk.0 j class.1 ends walk.2)
  ]

  pub follows_back : (i : ℕ) → ReachesItself (graph_of ds above) i → ReachesItself (graph_of ds (followed ds)) i
  follows_back i r = elim (true_or_false (is_interface_at i)) [
    | inl interface ↦ (r.0, (from_interface (suc r.0) i i interface r.1).1)
    | inr class ↦ (r.0, from_class (suc r.0) i i class class r.1)
  ]

  -- so there is a declaration that shows a cycle
  pub cycle_shows : IsCyclic (graph_of ds above) → (n : ℕ) × AtSome ds (ShowsCycle ds) n
  cycle_shows c =
      let back = follows_back c.0 c.1 in
      let first = edge_from ds (followed ds) c.0 back.1.0 back.1.1 in
      (first.declaration.line, record { place = c.0; element = first.declaration; there = first.there; shows = (back, refl) })
