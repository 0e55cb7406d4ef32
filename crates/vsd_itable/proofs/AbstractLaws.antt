-- What is selected in a class that isn't abstract isn't abstract.
use Rattle.std.proofs.Common.{◌≡◌, ℕ, zero, suc, ◌+◌, ◌<◌, ◌≤◌, ◌⊎◌, inl, inr, Bool, true, false, List, [], ◌∷◌, Option, Some, None, refl, sym, ap, ◌∙◌, subst, arith, length, not}
use Rattle.std.specs.Cmp.{first_so, second_so}
use Rattle.std.specs.List.{slice_get}
use Rattle.std.proofs.lemmas.Bool.{not-true}
use Rattle.std.proofs.lemmas.Option.{get_or_from_slice_get, slice_get-get_or, slice_get_within}
use Rattle.vsd_terms.specs.declared.term.Builtin.{Builtin as Kind}
use Rattle.vsd_terms.specs.declared.term.Builtin.TheVariants.{Object, String, ValueType}
use Rattle.vsd_terms.specs.declared.term.Term.{Term}
use Rattle.vsd_terms.specs.declared.term.Term.TheVariants.{Builtin}
use Rattle.vsd_ast.specs.declared.declarations.Decl.{Decl}
use Rattle.vsd_ast.specs.declared.declarations.Decls.{Decls}
use Rattle.vsd_ast.specs.declared.declarations.Method.{Method}
use Rattle.vsd_ast.specs.Hierarchy.{IsHierarchy}
use Rattle.vsd_ast.specs.Lookup.{Head, named, parameter, built_in, head_of, place_of}
use Rattle.vsd_lift.specs.Chain.{IsChain}
use Rattle.vsd_roots.specs.Bodies.{HasAbstract, IsBody as IsBodyIn}
use Rattle.vsd_roots.specs.Methods.{IsMethod}
use Rattle.vsd_roots.specs.Slots.{IsRoot}
use Rattle.vsd_roots.specs.declared.place.Place.{Place}
use Rattle.vsd_check.specs.Conditions.{AreLawful}
use Rattle.vsd_check.specs.declared.refusal.Cause.TheVariants.{AbstractInConcrete}
use Rattle.vsd_types.specs.Types.{base_of, base_of_head, builtin_base, declaration_of, declaration_of_head, object, place_of_head}
use Rattle.vsd_types.proofs.BaseLemmas.{head_of-Builtin}
use Rattle.vsd_types.proofs.Declared.{declared-place, place_of-within}
use Rattle.vsd_slots.specs.Implementation.{Found}
use Rattle.vsd_interfaces.specs.Lineage.{IsLineage, Level}
use Rattle.vsd_methods.specs.Methods.{methods_in}
use Rattle.vsd_slots.specs.Refusals.{is_concrete, is_concrete_class}
use Rattle.vsd_itable.specs.Bodies.{DeclaresNone, HasRoot, IsBody, IsLast, declared, inherited}
use Rattle.vsd_itable.specs.Selection.{IsBodyFor, IsSelection}
use Rattle.vsd_itable.proofs.BodyLaws.{place-declared, root-method}
use Rattle.vsd_itable.proofs.ChainLaws.{chain-is, from_place, places}

same_some : {A : Type 0} {x y : A} → Some x ≡ Some y → x ≡ y
same_some e = cc

none_some : {A : Type 0} {x : A} → None ≡ Some x → ⊥
none_some e = absurd cc

module _ (ds : List Decl) where
  place : Term → Option ℕ
  place t = place_of_head ds (head_of t)

  -- ---- nothing above a built-in type is declared

  builtin_place : (b : Kind) → place (Builtin b) ≡ None
  unfolding place
  builtin_place b = ap (place_of_head ds) (head_of-Builtin b)

  above_some : (k : Kind) (b : Term) → Some (Builtin k) ≡ Some b → place b ≡ None
  above_some k b is = ap place (sym (same_some is)) ∙ builtin_place k

  above_builtin : (k : Kind) (b : Term) → builtin_base k ≡ Some b → place b ≡ None
  above_builtin Object b is = absurd cc
  above_builtin String b is = above_some Object b is
  above_builtin ValueType b is = above_some Object b is
  above_builtin _ b is = above_some ValueType b is

  above_head : (args : List Term) (h : Head) (b : Term) → place_of_head ds h ≡ None → base_of_head ds args h ≡ Some b → place b ≡ None
  above_head args (named name) b none is = absurd cc
  above_head args (parameter p) b none is = absurd cc
  above_head args (built_in k) b none is = above_builtin k b is

  no_body : (root : Place) (t : Term) (body : Found) → place t ≡ None → IsBody ds root t body → ⊥
  unfolding place
  no_body root t body none (declared same last) = none_some (sym none ∙ last.rooted.declared)
  no_body root t body none (inherited b nothing is rest) = no_body root b body (above_head _ (head_of t) b none is) rest

  -- ---- the body of a slot stands in the chain of declarations, nearest of those with its root

  abbrev Nearest : List ℕ → Place → ℕ → ℕ → Type 0
  Nearest chain root level method = (l : ℕ) (r : Place) → slice_get chain l ≡ Some r.decl → IsRoot ds r root → (level < l) ⊎ ((level ≡ l) × (r.method ≤ method))

  record Holds (chain : List ℕ) (root : Place) (body : Found) : Type 0 where
    pub decl : ℕ
    pub placed : place body.class ≡ Some decl
    pub rooted : IsRoot ds (record { decl = decl; method = body.method }) root
    pub level : ℕ
    pub stands : slice_get chain level ≡ Some decl
    pub nearest : Nearest chain root level body.method

  has_root : (t : Term) (root r : Place) → place t ≡ Some r.decl → IsRoot ds r root → HasRoot ds root t r.method
  unfolding place
  has_root t root r at rooted = record { decl = r.decl; declared = at; rooted = rooted }

  lowest : (t : Term) (root : Place) (body : Found) (n : ℕ) (above : List ℕ) → place t ≡ Some n → IsLast ds root t body.method → Nearest (n ∷ above) root 0 body.method
  lowest t root body n above at last zero r stands rooted = inr (refl, last.last r.method (has_root t root r (at ∙ stands) rooted))
  lowest t root body n above at last (suc l) r stands rooted = inl (omega arith)

  further_nearest : (t : Term) (root : Place) (n : ℕ) (above : List ℕ) (level method : ℕ) → place t ≡ Some n → DeclaresNone ds root t → Nearest above root level method → Nearest (n ∷ above) root (suc level) method
  further_nearest t root n above level method at none rest zero r stands rooted = absurd (none r.method (has_root t root r (at ∙ stands) rooted))
  further_nearest t root n above level method at none rest (suc l) r stands rooted = elim (rest l r stands rooted) [
    | inl below ↦ inl (omega (arith, below))
    | inr same ↦ inr (ap suc same.0, same.1)
  ]

  declared_holds : (t : Term) (root : Place) (body : Found) (n : ℕ) (above : List ℕ) → place t ≡ Some n → body.class ≡ t → IsLast ds root t body.method → Holds (n ∷ above) root body
  unfolding place
  declared_holds t root body n above at same last =
      let one : last.rooted.decl ≡ n = same_some (sym last.rooted.declared ∙ at) in
      record {
        decl = n;
        placed = ap place same ∙ at;
        rooted = subst (λ k. IsRoot ds (record { decl = k; method = body.method }) root) one last.rooted.rooted;
        level = 0;
        stands = refl;
        nearest = lowest t root body n above at last;
      }

  inherited_holds : (t : Term) (root : Place) (body : Found) (n : ℕ) (above : List ℕ) → place t ≡ Some n → DeclaresNone ds root t → Holds above root body → Holds (n ∷ above) root body
  inherited_holds t root body n above at none rest = record {
    decl = rest.decl;
    placed = rest.placed;
    rooted = rest.rooted;
    level = suc rest.level;
    stands = rest.stands;
    nearest = further_nearest t root n above rest.level body.method at none rest.nearest;
  }

module _ (ds : List Decl) (depths : List ℕ) (h : IsHierarchy ds depths) where
  chain : List Level → List ℕ
  chain levels = places ds depths h levels

  body_holds : (root : Place) (t : Term) (body : Found) (levels : List Level) → IsLineage ds (Some t) levels → IsBody ds root t body → Holds ds (chain levels) root body
  unfolding place chain
  body_holds root t body [] up is = absurd up
  body_holds root t body (l ∷ above) up is = by (place ds t) refl is (λ b lineage rest. body_holds root b body above lineage rest)
    where
      at_level : place ds l.type ≡ place ds t
      at_level = ap (place ds) up.0

      stands : (n : ℕ) → place ds t ≡ Some n → chain (l ∷ above) ≡ n ∷ chain above
      stands n at = ap (λ o. from_place ds depths h o (places ds depths h above)) (at_level ∙ at)

      by : (o : Option ℕ) → place ds t ≡ o → IsBody ds root t body → ((b : Term) → IsLineage ds (Some b) above → IsBody ds root b body → Holds ds (chain above) root body)
          → Holds ds (chain (l ∷ above)) root body
      by None none is further = absurd (no_body ds root t body none is)
      by (Some n) at (declared same last) further = subst (λ c. Holds ds c root body) (sym (stands n at)) (declared_holds ds t root body n (chain above) at same last)
      by (Some n) at (inherited b none is rest) further =
          let lineage : IsLineage ds (Some b) above = subst (λ o. IsLineage ds o above) is up.2 in
          subst (λ c. Holds ds c root body) (sym (stands n at)) (inherited_holds ds t root body n (chain above) at none (further b lineage rest))

  -- ---- from an abstract body to a condition that lawful declarations don't show

  declared_method : (body : Found) (decl : ℕ) (root : Place) (x : Method) → place ds body.class ≡ Some decl → IsRoot ds (record { decl = decl; method = body.method }) root
      → slice_get (methods_in (declaration_of ds body.class)) body.method ≡ Some x → IsMethod ds (record { decl = decl; method = body.method }) x
  unfolding place
  declared_method body decl root x at rooted is =
      let found = root-method ds (record { decl = decl; method = body.method }) root rooted in
      let method = found.1 in
      let owner = method.owner in
      let within : decl < length ds = slice_get_within ds decl owner method.declared in
      let here : declaration_of ds body.class ≡ Some owner = place-declared ds (head_of body.class) decl owner at within ∙ ap Some (get_or_from_slice_get ds decl owner owner method.declared) in
      record {
        owner = owner;
        declared = method.declared;
        listed = subst (λ (o : Option Decl). slice_get (methods_in o) body.method ≡ Some x) here is;
      }

  -- the declaration of a type that has one, at its place
  standing : (t : Term) (x : Decl) → declaration_of ds t ≡ Some x → (n : ℕ) × (place ds t ≡ Some n) × (slice_get ds n ≡ Some x)
  unfolding place
  standing t x is = by (head_of t) is
    where
      by : (g : Head) → declaration_of_head ds g ≡ Some x → (n : ℕ) × (place_of_head ds g ≡ Some n) × (slice_get ds n ≡ Some x)
      by (named name) here =
          let within : place_of ds name < length ds = place_of-within ds name (rw here refl) in
          (place_of ds name, refl, slice_get-get_or ds (place_of ds name) x within ∙ sym (declared-place ds name x within) ∙ here)
      by (parameter p) here = absurd cc
      by (built_in b) here = absurd cc

  leaves : (t : Term) (root : Place) (body : Found) (x : Method) (levels : List Level) (n : ℕ) → place ds t ≡ Some n → IsLineage ds (Some t) levels → IsBody ds root t body
      → slice_get (methods_in (declaration_of ds body.class)) body.method ≡ Some x → x.is_abstract ≡ true → HasAbstract ds n
  unfolding place chain
  leaves t root body x levels n at up is here abstract =
      let holds = body_holds root t body levels up is in
      record {
        chain = chain levels;
        upward = chain-is ds depths h t levels n up at;
        level = holds.level;
        body = record { decl = holds.decl; method = body.method };
        leaves = record {
          root = root;
          is_body = record { stands = holds.stands; rooted = holds.rooted; nearest = holds.nearest };
          method = x;
          is_method = declared_method body holds.decl root x holds.placed holds.rooted here;
          abstract = abstract;
        };
      }

concrete_declared : (o : Option Decl) → is_concrete_class o ≡ true → (x : Decl) × (o ≡ Some x) × (x.is_interface ≡ false) × (x.is_abstract ≡ false)
concrete_declared None is = absurd cc
concrete_declared (Some x) is = (x, refl, not-true x.is_interface (first_so (not x.is_interface) (not x.is_abstract) is), not-true x.is_abstract (second_so (not x.is_interface) (not x.is_abstract) is))

module _ (d : Decls) (depths : List ℕ) (lawful : AreLawful d) (h : IsHierarchy d.list depths) where
  shown : (t : Term) (root : Place) (body : Found) (x : Method) (levels : List Level) → is_concrete d.list t ≡ true → IsLineage d.list (Some t) levels → IsBody d.list root t body
      → slice_get (methods_in (declaration_of d.list body.class)) body.method ≡ Some x → x.is_abstract ≡ true → ⊥
  shown t root body x levels concrete up is here abstract =
      let class = concrete_declared (declaration_of d.list t) concrete in
      let at = standing d.list depths h t class.0 class.1 in
      lawful AbstractInConcrete class.0.line
      (record { place = at.0; element = class.0; there = at.2; shows = ((class.2, class.3, leaves d.list depths h t root body x levels at.0 at.1 up is here abstract), refl) })

  not_abstract : (b : Bool) → (b ≡ true → ⊥) → b ≡ false
  not_abstract true never = absurd (never refl)
  not_abstract false never = refl

  selected : (t : Term) (method : Option Found) (f : Found) (x : Method) (levels : List Level) → is_concrete d.list t ≡ true → IsLineage d.list (Some t) levels → IsBodyFor d.list t method (Some f)
      → slice_get (methods_in (declaration_of d.list f.class)) f.method ≡ Some x → x.is_abstract ≡ false
  selected t None f x levels concrete up is here = absurd cc
  selected t (Some g) f x levels concrete up is here = not_abstract x.is_abstract (shown t is.root f x levels concrete up is.holds here)

  pub none-abstract : (t j : Term) (m : ℕ) (f : Found) (x : Method) → is_concrete d.list t ≡ true → IsSelection d.list t j m (Some f)
      → slice_get (methods_in (declaration_of d.list f.class)) f.method ≡ Some x → x.is_abstract ≡ false
  none-abstract t j m f x concrete is here = selected t is.method f x is.matches.all.levels concrete is.matches.all.lineage is.body here
