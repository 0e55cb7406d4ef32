-- What a class has is what stands in the list of its interfaces: ways of requirements, walked or listed.
use Rattle.std.proofs.Common.{◌≡◌, ℕ, zero, suc, ◌<◌, ◌≤◌, List, [], ◌∷◌, ◌++◌, map, get_or, refl, sym, ap, ◌∙◌, subst, Option, Some, None, ◌⊎◌, inl, inr, ◌↔◌, arith}
use Rattle.std.specs.List.{flat_map, slice_get}
use Rattle.vsd_terms.specs.declared.term.Term.{Term}
use Rattle.vsd_terms.specs.declared.term.Term.TheVariants.{Named}
use Rattle.vsd_terms.specs.Substitution.{subst_of}
use Rattle.vsd_terms.proofs.SubstitutionLemmas.{subst_of-Named}
use Rattle.vsd_ast.specs.Hierarchy.{IsInterface, number_for}
use Rattle.vsd_ast.specs.Lookup.{Head, head_of, place_of}
use Rattle.vsd_ast.specs.declared.declarations.Decl.{Decl}
use Rattle.vsd_ast.specs.declared.declarations.Located.{Located}
use Rattle.vsd_lift.specs.Chain.{arguments_of, envs_of}
use Rattle.vsd_lift.specs.Lift.{lift}
use Rattle.vsd_lift.specs.Settled.{IsSettled}
use Rattle.vsd_lift.proofs.Forms.{Form, form_of, is_named, is_param, is_builtin, arguments_of-Named}
use Rattle.vsd_lift.proofs.PlaceLemmas.{head_of-Builtin, head_of-Named, head_of-Param}
use Rattle.vsd_ways.specs.Found.{SomeOf}
use Rattle.vsd_ways.specs.Leads.{HasInterface, LeadsTo, Path, Requires}
use Rattle.vsd_ways.specs.Listed.{StandsIn, StandsListed, declaration_in, named_at, required_of, tree}
use Rattle.vsd_ways.proofs.SettledLemmas.{named_by}

-- ---- elements of lists that are put together

module _ {A : Type 0} (P : A → Type 0) where
  some-cons : (x : A) (xs : List A) → SomeOf P (x ∷ xs) ↔ (P x ⊎ SomeOf P xs)
  some-cons x xs = (λ w. split w.place w.element w.there w.has, λ e. elim e [ inl p ↦ record { place = 0; element = x; there = refl; has = p } | inr w ↦ record { place = suc w.place; element = w.element; there = w.there; has = w.has } ])
    where
      split : (i : ℕ) (y : A) → slice_get (x ∷ xs) i ≡ Some y → P y → P x ⊎ SomeOf P xs
      split zero y there p = let same : x ≡ y = cc in inl (subst P (sym same) p)
      split (suc i) y there p = inr (record { place = i; element = y; there = there; has = p })

  some-append : (xs ys : List A) → SomeOf P (xs ++ ys) ↔ (SomeOf P xs ⊎ SomeOf P ys)
  some-append [] ys = (λ w. inr w, λ e. elim e [ inl w ↦ absurd (let h = w.there in cc) | inr w ↦ w ])
  some-append (x ∷ xs) ys =
      let rest = some-append xs ys in
      let whole = some-cons x (xs ++ ys) in
      let part = some-cons x xs in (
        λ w. elim (whole.0 w) [ inl p ↦ inl (part.1 (inl p)) | inr v ↦ elim (rest.0 v) [ inl a ↦ inl (part.1 (inr a)) | inr b ↦ inr b ] ],
        λ e. elim e [ inl w ↦ elim (part.0 w) [ inl p ↦ whole.1 (inl p) | inr v ↦ whole.1 (inr (rest.1 (inl v))) ] | inr w ↦ whole.1 (inr (rest.1 (inr w))) ],
      )

some-flat_map : {A B : Type 0} (P : B → Type 0) (f : A → List B) (xs : List A) → SomeOf P (flat_map f xs) ↔ SomeOf (λ x. SomeOf P (f x)) xs
some-flat_map P f [] = (λ w. absurd (let h = w.there in cc), λ w. absurd (let h = w.there in cc))
some-flat_map P f (x ∷ xs) =
    let rest = some-flat_map P f xs in
    let both = some-append P (f x) (flat_map f xs) in
    let part = some-cons (λ y. SomeOf P (f y)) x xs in (
      λ w. elim (both.0 w) [ inl a ↦ part.1 (inl a) | inr b ↦ part.1 (inr (rest.0 b)) ],
      λ w. elim (part.0 w) [ inl a ↦ both.1 (inl a) | inr b ↦ both.1 (inr (rest.1 b)) ],
    )

pub some-map : {A B : Type 0} (P : B → Type 0) (f : A → B) (xs : List A) → SomeOf P (map f xs) ↔ SomeOf (λ x. P (f x)) xs
some-map P f [] = (λ w. absurd (let h = w.there in cc), λ w. absurd (let h = w.there in cc))
some-map P f (x ∷ xs) =
    let rest = some-map P f xs in
    let whole = some-cons P (f x) (map f xs) in
    let part = some-cons (λ y. P (f y)) x xs in (
      λ w. elim (whole.0 w) [ inl p ↦ part.1 (inl p) | inr v ↦ part.1 (inr (rest.0 v)) ],
      λ w. elim (part.0 w) [ inl p ↦ whole.1 (inl p) | inr v ↦ whole.1 (inr (rest.1 v)) ],
    )

some-same : {A : Type 0} (P Q : A → Type 0) (xs : List A) → ((i : ℕ) (x : A) → slice_get xs i ≡ Some x → P x ↔ Q x) → SomeOf P xs ↔ SomeOf Q xs
some-same P Q xs each = (
  λ w. record { place = w.place; element = w.element; there = w.there; has = (each w.place w.element w.there).0 w.has },
  λ w. record { place = w.place; element = w.element; there = w.there; has = (each w.place w.element w.there).1 w.has },
)

-- ---- requirements, listed

module _ (ds : List Decl) where
  required-Named : (name : ℕ) (args : List Term) → required_of ds (Named name args) ≡ named_at args (slice_get ds (place_of ds name))
  required-Named name args =
      ap (λ (h : Head). named_at (arguments_of (Named name args)) (declaration_in ds h)) (head_of-Named name args) ∙ ap (λ (l : List Term). named_at l (slice_get ds (place_of ds name))) (arguments_of-Named name args)

  -- what a type requires stands among what its declaration names at its arguments
  requires-listed : (u v : Term) → Requires ds u v ↔ StandsIn (required_of ds u) v
  requires-listed u v = (to, λ w. from (form_of u) w)
    where
      to : Requires ds u v → StandsIn (required_of ds u) v
      to r =
          let f : Located → Term = λ i. subst_of r.args i.term in
          let names : required_of ds u ≡ map f r.declaration.interfaces = ap (required_of ds) r.is ∙ required-Named r.name r.args ∙ ap (named_at r.args) r.declared in
          subst (λ (l : List Term). StandsIn l v) (sym names) ((some-map (λ (t : Term). t ≡ v) f r.declaration.interfaces).1 (record { place = r.required.place; element = r.required.element; there = r.required.there; has = sym r.required.has }))

      at : (name : ℕ) (args : List Term) → u ≡ Named name args → (o : Option Decl) → slice_get ds (place_of ds name) ≡ o → StandsIn (named_at args o) v → Requires ds u v
      at name args is None none w = absurd (let h = w.there in cc)
      at name args is (Some x) declared w =
          let some = (some-map (λ (t : Term). t ≡ v) (λ (i : Located). subst_of args i.term) x.interfaces).0 w in
          record { name = name; args = args; is = is; declaration = x; declared = declared; required = record { place = some.place; element = some.element; there = some.there; has = sym some.has } }

      from : Form u → StandsIn (required_of ds u) v → Requires ds u v
      from (is_named name args is) w =
          at name args is (slice_get ds (place_of ds name)) refl (subst (λ (l : List Term). StandsIn l v) (ap (required_of ds) is ∙ required-Named name args) w)
      from (is_param place is) w =
          let none : required_of ds u ≡ [] = ap (λ (h : Head). named_at (arguments_of u) (declaration_in ds h)) (ap head_of is ∙ head_of-Param place) in
          absurd (let h = (subst (λ (l : List Term). StandsIn l v) none w).there in cc)
      from (is_builtin b is) w =
          let none : required_of ds u ≡ [] = ap (λ (h : Head). named_at (arguments_of u) (declaration_in ds h)) (ap head_of is ∙ head_of-Builtin b) in
          absurd (let h = (subst (λ (l : List Term). StandsIn l v) none w).there in cc)

  abbrev Reaches : ℕ → Term → Term → Type 0
  Reaches height u v = (n : ℕ) × ((n < height) × Path ds n u v)

  tree-suc : (height : ℕ) (u : Term) → tree ds (suc height) u ≡ u ∷ flat_map (tree ds height) (required_of ds u)
  unfolding tree
  tree-suc height u = refl

  tree-zero : (u : Term) → tree ds 0 u ≡ []
  unfolding tree
  tree-zero u = refl

  -- one level more of the list, where the levels below are told
  tree-more : (height : ℕ) (u v : Term) → ((w : Term) → StandsIn (tree ds height w) v ↔ Reaches height w v) → StandsIn (tree ds (suc height) u) v ↔ Reaches (suc height) u v
  tree-more height u v lower = (to, λ r. by r.0 r.1.0 r.1.1)
    where
      step : StandsIn (tree ds (suc height) u) v ↔ ((u ≡ v) ⊎ SomeOf (λ (w : Term). StandsIn (tree ds height w) v) (required_of ds u))
      step =
          let first = some-cons (λ (t : Term). t ≡ v) u (flat_map (tree ds height) (required_of ds u)) in
          let rest = some-flat_map (λ (t : Term). t ≡ v) (tree ds height) (required_of ds u) in (
            λ w. elim (first.0 (subst (λ (l : List Term). StandsIn l v) (tree-suc height u) w)) [ inl is ↦ inl is | inr more ↦ inr (rest.0 more) ],
            λ e. subst (λ (l : List Term). StandsIn l v) (sym (tree-suc height u)) (first.1 (elim e [ inl is ↦ inl is | inr more ↦ inr (rest.1 more) ])),
          )

      to : StandsIn (tree ds (suc height) u) v → Reaches (suc height) u v
      to w =
          elim (step.0 w) [
            | inl is ↦ (0, (omega arith, is))
            | inr more ↦ (
                let r = (lower more.element).0 more.has in
                let requires = (requires-listed u more.element).1 (record { place = more.place; element = more.element; there = more.there; has = refl }) in
                (suc r.0, (omega (arith, r.1.0), (more.element, (requires, r.1.1))))
                )
          ]

      by : (n : ℕ) → n < suc height → Path ds n u v → StandsIn (tree ds (suc height) u) v
      by zero below path = step.1 (inl path)
      by (suc n) below path =
          let among = (requires-listed u path.0).0 path.1.0 in
          let there : StandsIn (tree ds height path.0) v = (lower path.0).1 (n, (omega arith, path.1.1)) in
          step.1 (inr (record { place = among.place; element = among.element; there = among.there; has = subst (λ (t : Term). StandsIn (tree ds height t) v) (sym among.has) there }))

  -- in the list down to a height stands what so many requirements lead to
  pub tree-reaches : (height : ℕ) (u v : Term) → StandsIn (tree ds height u) v ↔ Reaches height u v
  tree-reaches zero u v = (
    λ w. absurd (let h = (subst (λ (l : List Term). StandsIn l v) (tree-zero u) w).there in cc),
    λ r. absurd (omega (arith, r.1.0)),
  )
  tree-reaches (suc height) u v = tree-more height u v (λ w. tree-reaches height w v)

-- ---- requirements end

module _ (ds : List Decl) (places depths : List ℕ) (settled : IsSettled ds places depths) where
  -- an interface's head stays when arguments are put in
  same_head : (args : List Term) (t : Term) → IsInterface ds (head_of t) → head_of (subst_of args t) ≡ head_of t
  same_head args t interface = by (form_of t)
    where
      by : Form t → head_of (subst_of args t) ≡ head_of t
      by (is_named name inner is) = ap (λ (u : Term). head_of (subst_of args u)) is ∙ ap head_of (subst_of-Named args name inner) ∙ head_of-Named name (map (subst_of args) inner) ∙ sym (ap head_of is ∙ head_of-Named name inner)
      by (is_param place is) = absurd (subst (IsInterface ds) (ap head_of is ∙ head_of-Param place) interface)
      by (is_builtin b is) = absurd (subst (IsInterface ds) (ap head_of is ∙ head_of-Builtin b) interface)

  -- what an interface requires is less deep
  requires_lower : (u v : Term) → Requires ds u v → (number_for ds depths (head_of v) < number_for ds depths (head_of u)) × IsInterface ds (head_of v)
  requires_lower u v r =
      let by = named_by ds places depths (place_of ds r.name) r.declaration r.required.place r.required.element settled r.declared r.required.there in
      let head : head_of v ≡ head_of r.required.element.term = ap head_of r.required.has ∙ same_head r.args r.required.element.term by.interface in
      let own : number_for ds depths (head_of u) ≡ get_or depths (place_of ds r.name) 0 = ap (λ (h : Head). number_for ds depths h) (ap head_of r.is ∙ head_of-Named r.name r.args) in
      (omega (arith, by.lower, own, ap (λ (h : Head). number_for ds depths h) head), subst (IsInterface ds) (sym head) by.interface)

  -- a way of requirements has no more steps than the first is deep
  path-short : (n : ℕ) (u v : Term) → Path ds n u v → n ≤ number_for ds depths (head_of u)
  path-short zero u v path = omega arith
  path-short (suc n) u v path =
      let lower = (requires_lower u path.0 path.1.0).0 in
      let rest = path-short n path.0 v path.1.1 in
      omega arith

  -- below its depth a type's list is whole: what stands in it is what the type leads to
  pub leads-listed : (height : ℕ) (u v : Term) → number_for ds depths (head_of u) < height → StandsIn (tree ds height u) v ↔ LeadsTo ds u v
  leads-listed height u v deep =
      let exact = tree-reaches ds height u v in
      (λ w. let r = exact.0 w in (r.0, r.1.1), λ way. exact.1 (way.0, (omega (arith, path-short way.0 u v way.1), way.1)))

  -- a class has an interface where it stands in the list
  pub has-listed : (height : ℕ) (chain : List ℕ) (owner : Term) → ((h : Head) → number_for ds depths h < height) → HasInterface ds chain owner ↔ StandsListed ds height chain owner
  has-listed height chain owner deep = (
    λ w. record { level = w.level; number = w.number; stands = w.stands; class = w.class; declared = w.declared; listed = (at w.level w.class).1 w.named },
    λ w. record { level = w.level; number = w.number; stands = w.stands; class = w.class; declared = w.declared; named = (at w.level w.class).0 w.listed },
  )
    where
      at : (level : ℕ) (x : Decl) → StandsIn (flat_map (tree ds height) (map (λ (i : Located). lift (envs_of ds chain) level i.term) x.interfaces)) owner ↔ SomeOf (λ (i : Located). LeadsTo ds (lift (envs_of ds chain) level i.term) owner) x.interfaces
      at level x =
          let f : Located → Term = λ i. lift (envs_of ds chain) level i.term in
          let Q : Term → Type 0 = λ u. StandsIn (tree ds height u) owner in
          let flat = some-flat_map (λ (t : Term). t ≡ owner) (tree ds height) (map f x.interfaces) in
          let mapped = some-map Q f x.interfaces in
          let same = some-same (λ (i : Located). Q (f i)) (λ (i : Located). LeadsTo ds (f i) owner) x.interfaces (λ k i there. leads-listed height (f i) owner (deep (head_of (f i)))) in
          (λ w. same.0 (mapped.0 (flat.0 w)), λ w. flat.1 (mapped.1 (same.1 w)))
