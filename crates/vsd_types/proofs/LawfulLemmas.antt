-- What a lawful closed type leads to is again lawful and closed.
use Rattle.std.proofs.Common.{◌≡◌, ℕ, nat_eq, ◌+◌, ◌≤◌, Bool, true, false, cond, ◌&&◌, inl, inr, List, [], ◌∷◌, ◌++◌, length, map, max, Option, Some, None, All, IfSome, refl, sym, ap, ◌∙◌, subst, arith}
use Rattle.std.specs.List.{filter, slice_get}
use Rattle.std.specs.Cmp.{first_so, second_so}
use Rattle.std.specs.Option.{option_and_then, option_to_list}
use Rattle.std.proofs.lemmas.Bool.{cases_lt}
use Rattle.std.proofs.lemmas.List.{length-map, get_or_past}
use Rattle.std.proofs.lemmas.List.Elements.{All-nil, All-cons, All-head, All-tail, All-append, All-same, All-weaker}
use Rattle.vsd_terms.specs.Size.{greatest}
use Rattle.vsd_terms.specs.Substitution.{parameters_of, subst_of}
use Rattle.vsd_terms.specs.Text.{names_of, names_step}
use Rattle.vsd_terms.specs.declared.term.Builtin.{Builtin as Kind}
use Rattle.vsd_terms.specs.declared.term.Builtin.TheVariants.{Object, String, ValueType}
use Rattle.vsd_terms.specs.declared.term.Term.{Term}
use Rattle.vsd_terms.specs.declared.term.Term.TheFolds.{fold-roll-Term}
use Rattle.vsd_terms.specs.declared.term.Term.TheOpen as layer
use Rattle.vsd_terms.specs.declared.term.Term.TheVariants.{Named, Param, Builtin, rolls-Named, rolls-Param, rolls-Builtin}
use Rattle.vsd_terms.proofs.Induction.{term_induction}
use Rattle.vsd_terms.proofs.SubstitutionLaws.{get_or-greatest, parameters_of-subst_of}
use Rattle.vsd_terms.proofs.SubstitutionLemmas.{parameters_of-Named, parameters_of-Param, parameters_of-Builtin, subst_of-Named, subst_of-Param, subst_of-Builtin}
use Rattle.vsd_ast.specs.declared.declarations.Decl.{Decl}
use Rattle.vsd_ast.specs.declared.declarations.Located.{Located}
use Rattle.vsd_ast.specs.Hierarchy.{IsPlaced, base_terms}
use Rattle.vsd_ast.specs.Lookup.{declared, takes, is_lawful, lawful_step, all_true}
use Rattle.vsd_ast.specs.WellFormed.{IsDeclaration, IsClassWritten}
use Rattle.vsd_types.specs.Types.{IsClosedType, args_of, base_of, base_of_head, builtin_base, children, declaration_of_head, declared_base, declared_interfaces, named_of, object, written_base}
use Rattle.vsd_types.specs.Closing.{plain_types}
use Rattle.vsd_types.proofs.BaseLemmas.{head_of-Builtin, lawful-declared}
use Rattle.vsd_types.proofs.Declared.{All-front, All-back, args_of-Named, args_of-Builtin, declared-All, declared-name, declared-own, head_of-Named, is_lawful-Named, lawful-params, term_cases}

-- ---- lawful terms

module _ (ds : List Decl) where
  abbrev IsLawful : Term → Type 0
  IsLawful t = is_lawful ds t ≡ true

  is_lawful-Param : (place : ℕ) → IsLawful (Param place)
  is_lawful-Param place = ap (is_lawful ds) (sym (rolls-Param place)) ∙ fold-roll-Term Bool (lawful_step ds) (layer.Param place)

  is_lawful-Builtin : (b : Kind) → IsLawful (Builtin b)
  is_lawful-Builtin b = ap (is_lawful ds) (sym (rolls-Builtin b)) ∙ fold-roll-Term Bool (lawful_step ds) (layer.Builtin b)

  all_lawful : (ts : List Term) → all_true (map (is_lawful ds) ts) ≡ true → All IsLawful ts
  all_lawful [] h = All-nil IsLawful
  all_lawful (t ∷ ts) h =
      All-cons IsLawful t ts (first_so (is_lawful ds t) (all_true (map (is_lawful ds) ts)) h) (all_lawful ts (second_so (is_lawful ds t) (all_true (map (is_lawful ds) ts)) h))

  pub lawful-args : (name : ℕ) (args : List Term) → IsLawful (Named name args) → All IsLawful args
  lawful-args name args lawful =
      all_lawful args (second_so (takes (declared ds name) (length (map (is_lawful ds) args))) (all_true (map (is_lawful ds) args)) (sym (is_lawful-Named ds name args) ∙ lawful))

  both_true : {p q : Bool} → p ≡ true → q ≡ true → (p && q) ≡ true
  both_true h k = rw (h, k) refl

  -- ---- substitution

  abbrev StaysLawful : List Term → Term → Type 0
  StaysLawful args t = IsLawful t → IsLawful (subst_of args t)

  all_stay : (args : List Term) (es : List ((t : Term) × StaysLawful args t)) → all_true (map (is_lawful ds) (map (λ e. e.0) es)) ≡ true → all_true (map (is_lawful ds) (map (subst_of args) (map (λ e. e.0) es))) ≡ true
  all_stay args [] h = refl
  all_stay args (e ∷ es) h =
      both_true (e.1 (first_so (is_lawful ds e.0) (all_true (map (is_lawful ds) (map (λ e. e.0) es))) h)) (all_stay args es (second_so (is_lawful ds e.0) (all_true (map (is_lawful ds) (map (λ e. e.0) es))) h))

  pub lawful-subst : (args : List Term) → All IsLawful args → (t : Term) → StaysLawful args t
  lawful-subst args fit = term_induction (StaysLawful args)
      (λ name es lawful.
      let ts = map (λ e. e.0) es in
      let inner = map (subst_of args) ts in
      let n = length (map (is_lawful ds) ts) in
      let parts = sym (is_lawful-Named ds name ts) ∙ lawful in
      let taken = first_so (takes (declared ds name) n) (all_true (map (is_lawful ds) ts)) parts in
      let same : n ≡ length (map (is_lawful ds) inner) = omega (arith, length-map ts (is_lawful ds), length-map inner (is_lawful ds), length-map ts (subst_of args)) in
      let all = all_stay args es (second_so (takes (declared ds name) n) (all_true (map (is_lawful ds) ts)) parts) in
      ap (is_lawful ds) (subst_of-Named args name ts) ∙ is_lawful-Named ds name inner ∙ both_true (subst (λ k. takes (declared ds name) k ≡ true) same taken) all)
      (λ place lawful. ap (is_lawful ds) (subst_of-Param args place) ∙ elim (cases_lt place (length args)) [
        | inl within ↦ fit place (Param place) within
        | inr past ↦ ap (is_lawful ds) (get_or_past args place (Param place) past) ∙ is_lawful-Param place
      ])
      (λ b lawful. ap (is_lawful ds) (subst_of-Builtin args b) ∙ is_lawful-Builtin b)

  -- ---- names

  module _ (names : ℕ) (written : All (IsDeclaration names) ds) where
    abbrev IsNumbered : Term → Type 0
    IsNumbered t = IsLawful t → names_of t ≤ names

    all_numbered : (es : List ((t : Term) × IsNumbered t)) → all_true (map (is_lawful ds) (map (λ e. e.0) es)) ≡ true → greatest (map names_of (map (λ e. e.0) es)) ≤ names
    all_numbered [] h = omega arith
    all_numbered (e ∷ es) h =
        omega (arith, e.1 (first_so (is_lawful ds e.0) (all_true (map (is_lawful ds) (map (λ e. e.0) es))) h), all_numbered es (second_so (is_lawful ds e.0) (all_true (map (is_lawful ds) (map (λ e. e.0) es))) h))

    names_of-Named : (name : ℕ) (args : List Term) → names_of (Named name args) ≡ max (name + 1) (greatest (map names_of args))
    names_of-Named name args = ap names_of (sym (rolls-Named name args)) ∙ fold-roll-Term ℕ names_step (layer.Named name args)

    names_of-Param : (place : ℕ) → names_of (Param place) ≡ 0
    names_of-Param place = ap names_of (sym (rolls-Param place)) ∙ fold-roll-Term ℕ names_step (layer.Param place)

    names_of-Builtin : (b : Kind) → names_of (Builtin b) ≡ 0
    names_of-Builtin b = ap names_of (sym (rolls-Builtin b)) ∙ fold-roll-Term ℕ names_step (layer.Builtin b)

    pub lawful-named : (t : Term) → IsNumbered t
    lawful-named = term_induction IsNumbered
        (λ name es lawful.
        let ts = map (λ e. e.0) es in
        let found = lawful-declared ds name ts lawful in
        let here = declared-All (IsDeclaration names) ds name found.0 written found.1 in
        let same = declared-name ds name found.0 found.1 in
        let all = all_numbered es (second_so (takes (declared ds name) (length (map (is_lawful ds) ts))) (all_true (map (is_lawful ds) ts)) (sym (is_lawful-Named ds name ts) ∙ lawful)) in
        omega (arith, names_of-Named name ts, here.name, same, all))
        (λ place lawful. omega (arith, names_of-Param place))
        (λ b lawful. omega (arith, names_of-Builtin b))

  -- ---- what a type leads to

  closed-args : (name : ℕ) (args : List Term) → parameters_of (Named name args) ≡ 0 → All (λ t. parameters_of t ≡ 0) args
  closed-args name args closed = λ i d within. omega (arith, parameters_of-Named name args, get_or-greatest parameters_of args i d within)

  pub closed_type-Builtin : (b : Kind) → IsClosedType ds (Builtin b)
  closed_type-Builtin b = record { closed = parameters_of-Builtin b; lawful = is_lawful-Builtin b }

  pub closed_type-subst : (args : List Term) (t : Term) → All (IsClosedType ds) args → IsLawful t → parameters_of t ≤ length args → IsClosedType ds (subst_of args t)
  closed_type-subst args t fit lawful bound = record {
    closed = omega (arith, parameters_of-subst_of args t bound, none args fit);
    lawful = lawful-subst args (All-weaker (IsClosedType ds) IsLawful (λ x is. is.lawful) args fit) t lawful;
  }
    where
      none : (ts : List Term) → All (IsClosedType ds) ts → greatest (map parameters_of ts) ≡ 0
      none [] fit = refl
      none (x ∷ xs) fit =
          let first = All-head (IsClosedType ds) x xs fit in
          omega (arith, first.closed, none xs (All-tail (IsClosedType ds) x xs fit))

  closed_type-args : (name : ℕ) (args : List Term) → IsClosedType ds (Named name args) → All (IsClosedType ds) args
  closed_type-args name args is = λ i d within. record {
    closed = closed-args name args is.closed i d within;
    lawful = lawful-args name args is.lawful i d within;
  }

  module _ (names : ℕ) (written : All (IsDeclaration names) ds) (placed : All (IsPlaced ds) ds) where
    base_fits : (args : List Term) (x : Decl) → All (IsClosedType ds) args → length x.params ≡ length args → IfSome x.base (λ (b : Located). IsClassWritten names (length x.params) b.term) → All IsLawful (base_terms x.base) → IsClosedType ds (written_base args x.base)
    base_fits args x fit count bound lawful = by x.base bound lawful
      where
        by : (base : Option Located) → IfSome base (λ (b : Located). IsClassWritten names (length x.params) b.term) → All IsLawful (base_terms base) → IsClosedType ds (written_base args base)
        by None bound lawful = closed_type-Builtin Object
        by (Some b) bound lawful = closed_type-subst args b.term fit (All-head IsLawful b.term [] lawful) (omega (arith, bound.written.bound, count))

    declared_base-fits : (args : List Term) (x : Decl) → IsClosedType ds (written_base args x.base) → All (IsClosedType ds) (option_to_list (declared_base args x))
    declared_base-fits args x fit = by x.is_interface
      where
        by : (interface : Bool) → All (IsClosedType ds) (option_to_list (cond interface None (Some (written_base args x.base))))
        by true = All-nil (IsClosedType ds)
        by false = All-cons (IsClosedType ds) (written_base args x.base) [] fit (All-nil (IsClosedType ds))

    interfaces-fit : (args : List Term) (n : ℕ) (is : List Located) → All (IsClosedType ds) args → n ≡ length args → All (λ (i : Located). IsClassWritten names n i.term) is → All IsLawful (map (λ (i : Located). i.term) is) → All (IsClosedType ds) (map (λ (i : Located). subst_of args i.term) is)
    interfaces-fit args n [] fit count bound lawful = All-nil (IsClosedType ds)
    interfaces-fit args n (i ∷ is) fit count bound lawful =
        let P : Located → Type 0 = λ (i : Located). IsClassWritten names n i.term in
        let first = All-head P i is bound in
        All-cons (IsClosedType ds) (subst_of args i.term) (map (λ (i : Located). subst_of args i.term) is)
        (closed_type-subst args i.term fit (All-head IsLawful i.term (map (λ (i : Located). i.term) is) lawful) (omega (arith, first.written.bound, count)))
        (interfaces-fit args n is fit count (All-tail P i is bound) (All-tail IsLawful i.term (map (λ (i : Located). i.term) is) lawful))

    -- what a declared type leads to
    children-Named : (name : ℕ) (args : List Term) (x : Decl) → declared ds name ≡ Some x → children ds (Named name args) ≡ option_to_list (declared_base args x) ++ declared_interfaces args (Some x) ++ args
    children-Named name args x is =
        let t = Named name args in
        let head = head_of-Named name args in
        let given = args_of-Named name args in
        let base : base_of ds t ≡ declared_base (args_of t) x = ap (base_of_head ds (args_of t)) head ∙ ap (option_and_then (declared_base (args_of t))) is in
        let interfaces : named_of ds t ≡ declared_interfaces (args_of t) (Some x) = ap (λ h. declared_interfaces (args_of t) (declaration_of_head ds h)) head ∙ ap (declared_interfaces (args_of t)) is in
        ap (λ o. option_to_list o ++ named_of ds t ++ args_of t) base ∙ ap (λ l. option_to_list (declared_base (args_of t) x) ++ l ++ args_of t) interfaces ∙ ap (λ l. option_to_list (declared_base l x) ++ declared_interfaces l (Some x) ++ l) given

    abbrev ChildrenFit : Term → Type 0
    ChildrenFit t = IsClosedType ds t → All (IsClosedType ds) (children ds t)

    fit-Named : (name : ℕ) (args : List Term) → ChildrenFit (Named name args)
    fit-Named name args is =
        let found = lawful-declared ds name args is.lawful in
        let x = found.0 in
        let here = declared-All (IsDeclaration names) ds name x written found.1 in
        let place = declared-All (IsPlaced ds) ds name x placed found.1 in
        let count = lawful-params ds name args x is.lawful found.1 in
        let fit = closed_type-args name args is in
        let tops = base_terms x.base in
        let named_terms = map (λ (i : Located). i.term) x.interfaces in
        let base = declared_base-fits args x (base_fits args x fit count here.base (All-front IsLawful tops named_terms place.lawful)) in
        let interfaces = interfaces-fit args (length x.params) x.interfaces fit count here.interfaces (All-back IsLawful tops named_terms place.lawful) in
        All-same (IsClosedType ds) _ _ (children-Named name args x found.1) (All-append (IsClosedType ds) (option_to_list (declared_base args x) ++ declared_interfaces args (Some x)) args (All-append (IsClosedType ds) (option_to_list (declared_base args x)) (declared_interfaces args (Some x)) base interfaces) fit)

    builtin-fit : (b : Kind) → All (IsClosedType ds) (option_to_list (builtin_base b))
    builtin-fit Object = All-nil (IsClosedType ds)
    builtin-fit String = All-cons (IsClosedType ds) object [] (closed_type-Builtin Object) (All-nil (IsClosedType ds))
    builtin-fit ValueType = All-cons (IsClosedType ds) object [] (closed_type-Builtin Object) (All-nil (IsClosedType ds))
    builtin-fit _ = All-cons (IsClosedType ds) (Builtin ValueType) [] (closed_type-Builtin ValueType) (All-nil (IsClosedType ds))

    fit-Builtin : (b : Kind) → ChildrenFit (Builtin b)
    fit-Builtin b is =
        let t = Builtin b in
        let head = head_of-Builtin b in
        let base : base_of ds t ≡ builtin_base b = ap (base_of_head ds (args_of t)) head in
        let interfaces : named_of ds t ≡ [] = ap (λ h. declared_interfaces (args_of t) (declaration_of_head ds h)) head in
        let given : args_of t ≡ [] = args_of-Builtin b in
        let all : children ds t ≡ option_to_list (builtin_base b) ++ [] ++ [] = ap (λ o. option_to_list o ++ named_of ds t ++ args_of t) base ∙ ap (λ l. option_to_list (builtin_base b) ++ l ++ args_of t) interfaces ∙ ap (λ l. option_to_list (builtin_base b) ++ [] ++ l) given in
        All-same (IsClosedType ds) _ _ all (All-append (IsClosedType ds) (option_to_list (builtin_base b) ++ []) [] (All-append (IsClosedType ds) (option_to_list (builtin_base b)) [] (builtin-fit b) (All-nil (IsClosedType ds))) (All-nil (IsClosedType ds)))

    pub children-fit : (t : Term) → ChildrenFit t
    children-fit = term_cases ChildrenFit fit-Named (λ place is. absurd (omega (arith, parameters_of-Param place, is.closed))) fit-Builtin

    -- a declaration without parameters is a lawful closed type
    plain-lawful : (xs : List Decl) → All (λ (x : Decl). declared ds x.name ≡ Some x) xs → All (IsClosedType ds) (plain_types xs)
    plain-lawful [] found = All-nil (IsClosedType ds)
    plain-lawful (x ∷ xs) found =
        let P : Decl → Type 0 = λ (x : Decl). declared ds x.name ≡ Some x in
        let rest = plain-lawful xs (All-tail P x xs found) in
        let M : Bool → Type 0 = λ b. nat_eq (length x.params) 0 ≡ b → All (IsClosedType ds) (map (λ (x : Decl). Named x.name []) (cond b (x ∷ filter (λ (x : Decl). nat_eq (length x.params) 0) xs) (filter (λ (x : Decl). nat_eq (length x.params) 0) xs))) in
        let both : M (nat_eq (length x.params) 0) = elim (nat_eq (length x.params) 0) as M [
          | true ↦ (λ none. All-cons (IsClosedType ds) (Named x.name []) (plain_types xs) (record {
            closed = parameters_of-Named x.name [];
            lawful = is_lawful-Named ds x.name [] ∙ both_true (ap (λ d. takes d 0) (All-head P x xs found) ∙ none) refl;
          }) rest)
          | false ↦ (λ some. rest)
        ] in
        both refl

    -- each declaration is the one that its name means
    own : (distinct : (i j : ℕ) (x y : Decl) → slice_get ds i ≡ Some x → slice_get ds j ≡ Some y → x.name ≡ y.name → i ≡ j) → All (λ (x : Decl). declared ds x.name ≡ Some x) ds
    own distinct = λ i d within. declared-own ds distinct i d within

    pub plain-fit : (distinct : (i j : ℕ) (x y : Decl) → slice_get ds i ≡ Some x → slice_get ds j ≡ Some y → x.name ≡ y.name → i ≡ j) → All (IsClosedType ds) (plain_types ds)
    plain-fit distinct = plain-lawful ds (own distinct)
