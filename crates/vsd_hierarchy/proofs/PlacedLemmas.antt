-- Declarations that show none of the conditions so far are a hierarchy, at the depths that were found.
use Rattle.std.proofs.Common.{◌≡◌, ℕ, ◌<◌, Bool, true, false, List, [], ◌∷◌, length, map, get_or, Option, Some, None, IsSome, IsTrue, IfSome, All, ◌⊎◌, inl, inr, refl, sym, ap, ◌∙◌, subst}
use Rattle.std.specs.List.{slice_get}
use Rattle.std.specs.Option.{IsSomeAnd}
use Rattle.std.proofs.lemmas.Bool.{false≢true, cases_order}
use Rattle.std.proofs.lemmas.List.Elements.{All-append, All-map, All-nil, All-cons}
use Rattle.std.proofs.lemmas.Option.{slice_get-get_or, slice_get_within, get_or_from_slice_get}
use Rattle.vsd_terms.specs.declared.term.Term.{Term}
use Rattle.vsd_terms.specs.declared.term.Builtin.{Builtin as Kind}
use Rattle.vsd_terms.specs.declared.term.Builtin.TheVariants.{Object, String, ValueType}
use Rattle.vsd_terms.specs.declared.term.Term.TheFolds.{fold-roll-Term}
use Rattle.vsd_terms.specs.declared.term.Term.TheOpen as layer
use Rattle.vsd_terms.specs.declared.term.Term.TheVariants.{Named, Param, Builtin, rolls-Named, rolls-Param, rolls-Builtin}
use Rattle.vsd_terms.proofs.Induction.{term_induction}
use Rattle.vsd_ast.specs.declared.declarations.Decl.{Decl}
use Rattle.vsd_ast.specs.declared.declarations.Decls.{Decls}
use Rattle.vsd_ast.specs.declared.declarations.Located.{Located}
use Rattle.vsd_ast.specs.Hierarchy.{above, base_terms, AreDepths, IsBase, IsInterface, IsPlaced, IsHierarchy}
use Rattle.vsd_ast.specs.Lookup.{Head, named, parameter, built_in, head_of, head_step, declared, is_lawful, takes, is_value_type}
use Rattle.vsd_ast.specs.WellFormed.{AreWellFormed, IsDeclaration, IsClassHead, IsClassWritten}
use Rattle.vsd_least.specs.Least.{AtSome}
use Rattle.vsd_lawful.specs.Twice.{ShowsTwice}
use Rattle.vsd_lawful.specs.Types.{Names, IsUnknown, IsMiscounted, ShowsUnknown, ShowsArity}
use Rattle.vsd_hierarchy.specs.Kinds.{HasBadBase, IsUnfit, IsNoInterface, ShowsBadBase, ShowsBadInterface}
use Rattle.vsd_hierarchy.proofs.HierarchyLemmas.{is_lawful_where, is_lawful-Named, both_parts}

head-Named : (name : ℕ) (args : List Term) → head_of (Named name args) ≡ named name
head-Named name args = ap head_of (sym (rolls-Named name args)) ∙ fold-roll-Term Head head_step (layer.Named name args)

head-Param : (place : ℕ) → head_of (Param place) ≡ parameter place
head-Param place = ap head_of (sym (rolls-Param place)) ∙ fold-roll-Term Head head_step (layer.Param place)

head-Builtin : (b : Kind) → head_of (Builtin b) ≡ built_in b
head-Builtin b = ap head_of (sym (rolls-Builtin b)) ∙ fold-roll-Term Head head_step (layer.Builtin b)

module _ (ds : List Decl) where
  takes_some : (o : Option Decl) (n : ℕ) → takes o n ≡ true → (x : Decl) × (o ≡ Some x)
  takes_some None n h = absurd (false≢true h)
  takes_some (Some x) n h = (x, refl)

  abbrev DeclaredHead : Term → Type 0
  DeclaredHead t = (name : ℕ) → head_of t ≡ named name → is_lawful ds t ≡ true → (x : Decl) × (declared ds name ≡ Some x)

  -- the declaration of a lawful term
  declared_head : (t : Term) → DeclaredHead t
  declared_head = term_induction DeclaredHead
      (λ n es name is lawful.
      let ts = map (λ e. e.0) es in
      let found = takes_some (declared ds n) (length ts) (both_parts _ _ (sym (is_lawful-Named ds n ts) ∙ lawful)).0 in
      let same : named n ≡ named name = sym (head-Named n ts) ∙ is in
      let e : n ≡ name = cc in
      (found.0, ap (declared ds) (sym e) ∙ found.1))
      (λ place name is lawful. let e : parameter place ≡ named name = sym (head-Param place) ∙ is in absurd cc)
      (λ b name is lawful. let e : built_in b ≡ named name = sym (head-Builtin b) ∙ is in absurd cc)

  fit_class : (y : Decl) → ¬ ((y.is_interface ≡ true) ⊎ ((y.sealed ≡ true) ⊎ IsTrue (is_value_type y))) → (y.is_interface ≡ false) × (y.sealed ≡ false) × (is_value_type y ≡ false)
  fit_class y fit = (not_true y.is_interface (λ h. fit (inl h)), not_true y.sealed (λ h. fit (inr (inl h))), not_true (is_value_type y) (λ h. fit (inr (inr h))))
    where
      not_true : (b : Bool) → ¬ (b ≡ true) → b ≡ false
      not_true true no_one = absurd (no_one refl)
      not_true false no_one = refl

  base_from : (h : Head) → IsClassHead h → ((name : ℕ) → h ≡ named name → (x : Decl) × (declared ds name ≡ Some x)) → ¬ IsUnfit ds h → IsBase ds h
  base_from (named name) class there fit = by (declared ds name) (there name refl).1 fit
    where
      by : (o : Option Decl) → o ≡ Some (there name refl).0 → ¬ IsSomeAnd o (λ (b : Decl). (b.is_interface ≡ true) ⊎ ((b.sealed ≡ true) ⊎ IsTrue (is_value_type b))) → IfSome o (λ (b : Decl). (b.is_interface ≡ false) × (b.sealed ≡ false) × (is_value_type b ≡ false))
      by None e f = absurd cc
      by (Some y) e f = fit_class y f
  base_from (parameter place) class there fit = absurd class
  base_from (built_in Object) class there fit = tt
  base_from (built_in ValueType) class there fit = tt
  base_from (built_in String) class there fit = absurd (fit tt)
  base_from (built_in b) class there fit = absurd class

  interface_from : (h : Head) → ((name : ℕ) → h ≡ named name → (x : Decl) × (declared ds name ≡ Some x)) → ¬ IsNoInterface ds h → IsInterface ds h
  interface_from (named name) there one = by (declared ds name) (there name refl).1 one
    where
      is_true : (b : Bool) → ¬ (b ≡ false) → b ≡ true
      is_true true no_one = refl
      is_true false no_one = absurd (no_one refl)

      by : (o : Option Decl) → o ≡ Some (there name refl).0 → ¬ IsSomeAnd o (λ (i : Decl). i.is_interface ≡ false) → IfSome o (λ (i : Decl). i.is_interface ≡ true)
      by None e f = absurd cc
      by (Some y) e f = is_true y.is_interface f
  interface_from (parameter place) there one = absurd (one tt)
  interface_from (built_in b) there one = absurd (one tt)

all_at : {A : Type 0} (P : A → Type 0) (xs : List A) → ((i : ℕ) (x : A) → slice_get xs i ≡ Some x → P x) → All P xs
all_at P xs each i d within = each i (get_or xs i d) (slice_get-get_or xs i d within)

at_all : {A : Type 0} (P : A → Type 0) (xs : List A) → All P xs → (i : ℕ) (x : A) → slice_get xs i ≡ Some x → P x
at_all P xs all i x here = subst P (get_or_from_slice_get xs i x x here) (all i x (slice_get_within xs i x here))

-- no line shows this of any declaration
abbrev pub NoneShows : List Decl → (ℕ → Decl → ℕ → Type 0) → Type 0
NoneShows ds Q = (n : ℕ) → AtSome ds Q n → ⊥

module _ (d : Decls) (well : AreWellFormed d) (twice : NoneShows d.list (ShowsTwice d.names d.list)) (unknown : NoneShows d.list (λ _. ShowsUnknown d.list)) (arity : NoneShows d.list (λ _. ShowsArity d.list)) (bad_base : NoneShows d.list (λ _. ShowsBadBase d.list)) (bad_interface : NoneShows d.list (λ _. ShowsBadInterface d.list)) where
  no_line : (Q : ℕ → Decl → ℕ → Type 0) → NoneShows d.list Q → (i : ℕ) (x : Decl) → slice_get d.list i ≡ Some x → (n : ℕ) → ¬ Q i x n
  no_line Q none i x here n q = none n (record { place = i; element = x; there = here; shows = q })

  pub good_base : (i : ℕ) (x : Decl) → slice_get d.list i ≡ Some x → ¬ HasBadBase d.list x
  good_base i x here bad = no_line (λ _. ShowsBadBase d.list) bad_base i x here x.line (bad, refl)

  pub good_interface : (i : ℕ) (x : Decl) → slice_get d.list i ≡ Some x → (k : ℕ) (l : Located) → slice_get x.interfaces k ≡ Some l → ¬ IsNoInterface d.list (head_of l.term)
  good_interface i x here k l there none = no_line (λ _. ShowsBadInterface d.list) bad_interface i x here l.line (record { place = k; element = l; there = there; shows = (none, refl) })

  base_lawful : (i : ℕ) (x : Decl) → slice_get d.list i ≡ Some x → (b : Located) → x.base ≡ Some b → is_lawful d.list b.term ≡ true
  base_lawful i x here b is = is_lawful_where d.list b.term
      (λ names. no_line (λ _. ShowsUnknown d.list) unknown i x here b.line (inl (at_base (IsUnknown d.list) names)))
      (λ names. no_line (λ _. ShowsArity d.list) arity i x here b.line (inl (at_base (IsMiscounted d.list) names)))
    where
      at_base : (P : ℕ × ℕ → Type 0) → Names P (b.term ∷ []) → IsSomeAnd x.base (λ (c : Located). Names P (c.term ∷ []) × (b.line ≡ c.line))
      at_base P names = subst (λ (o : Option Located). IsSomeAnd o (λ (c : Located). Names P (c.term ∷ []) × (b.line ≡ c.line))) (sym is) (names, refl)

  interface_lawful : (i : ℕ) (x : Decl) → slice_get d.list i ≡ Some x → (k : ℕ) (l : Located) → slice_get x.interfaces k ≡ Some l → is_lawful d.list l.term ≡ true
  interface_lawful i x here k l there = is_lawful_where d.list l.term
      (λ names. no_line (λ _. ShowsUnknown d.list) unknown i x here l.line (inr (inl (record { place = k; element = l; there = there; shows = (names, refl) }))))
      (λ names. no_line (λ _. ShowsArity d.list) arity i x here l.line (inr (inl (record { place = k; element = l; there = there; shows = (names, refl) }))))

  placed : (i : ℕ) (x : Decl) → slice_get d.list i ≡ Some x → IsPlaced d.list x
  placed i x here =
      let wx : IsDeclaration (length d.names) x = at_all (IsDeclaration (length d.names)) d.list well.each i x here in
      record {
        lawful = All-append (λ t. IsTrue (is_lawful d.list t)) (base_terms x.base) (map (λ (l : Located). l.term) x.interfaces) (bases x.base refl)
            (All-map (λ t. IsTrue (is_lawful d.list t)) (λ (l : Located). l.term) x.interfaces (all_at (λ (l : Located). IsTrue (is_lawful d.list l.term)) x.interfaces (interface_lawful i x here)));
        no_base = λ interface. none x.base refl interface;
        base = fit x.base refl wx.base;
        interfaces = all_at (λ (l : Located). IsInterface d.list (head_of l.term)) x.interfaces (λ k l there.
            interface_from d.list (head_of l.term) (λ name is. declared_head d.list l.term name is (interface_lawful i x here k l there)) (good_interface i x here k l there));
      }
    where
      bases : (o : Option Located) → x.base ≡ o → All (λ t. IsTrue (is_lawful d.list t)) (base_terms o)
      bases None is = All-nil (λ t. IsTrue (is_lawful d.list t))
      bases (Some b) is = All-cons (λ t. IsTrue (is_lawful d.list t)) b.term [] (base_lawful i x here b is) (All-nil (λ t. IsTrue (is_lawful d.list t)))

      none : (o : Option Located) → x.base ≡ o → x.is_interface ≡ true → x.base ≡ None
      none None is interface = is
      none (Some b) is interface = absurd (good_base i x here (inl (interface, subst IsSome (sym is) refl)))

      fit : (o : Option Located) → x.base ≡ o → IfSome o (λ (b : Located). IsClassWritten (length d.names) (length x.params) b.term) → IfSome o (λ (b : Located). IsBase d.list (head_of b.term))
      fit None is w = tt
      fit (Some b) is w = base_from d.list (head_of b.term) w.class (λ name e. declared_head d.list b.term name e (base_lawful i x here b is))
          (λ unfit. good_base i x here (inr (subst (λ (o : Option Located). IsSomeAnd o (λ (c : Located). IsUnfit d.list (head_of c.term))) (sym is) unfit)))

  apart : (i j : ℕ) (x y : Decl) → slice_get d.list i ≡ Some x → slice_get d.list j ≡ Some y → x.name ≡ y.name → i < j → ⊥
  apart i j x y here there same below =
      no_line (ShowsTwice d.names d.list) twice j y there y.line (inl (inl (record { earlier = i; before = below; other = x; there = here; alike = same }), refl))

  pub IsHierarchy-none : (depths : List ℕ) → AreDepths d.list depths → IsHierarchy d.list depths
  IsHierarchy-none depths are = record {
    distinct = λ i j x y here there same. elim (cases_order i j) [
      | inl e ↦ e
      | inr other ↦ elim other [
        | inl below ↦ absurd (apart i j x y here there same below)
        | inr above ↦ absurd (apart j i y x there here (sym same) above)
      ]
    ];
    each = all_at (IsPlaced d.list) d.list placed;
    deep = are;
  }
