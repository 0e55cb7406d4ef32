-- A settled matrix has each derivation's bit.
use Rattle.std.proofs.Common.{◌≡◌, ℕ, ◌<◌, inl, inr, List, ◌++◌, length, Contains, Option, Some, refl, sym, ap, ◌∙◌, subst, arith}
use Rattle.std.specs.Option.{option_to_list}
use Rattle.std.proofs.lemmas.List.Elements.{All-contains, Contains-append_left, Contains-append_right}
use Rattle.std.proofs.lemmas.Option.{slice_get-get_or, get_or_from_slice_get}
use Rattle.vsd_terms.specs.declared.term.Term.{Term}
use Rattle.vsd_ast.specs.declared.declarations.Sign.{Sign}
use Rattle.vsd_types.specs.ClosedList.{IsClosedUnder}
use Rattle.vsd_types.specs.Numbers.{IsDistinct}
use Rattle.vsd_types.specs.TypeList.{TypeList}
use Rattle.vsd_types.specs.Types.{args_of, base_of, children, named_of, object, type_at}
use Rattle.vsd_compat.specs.Compatibility.{AreReferences, AreSameInterface, IsCompatible, IsParameter, Varies, same, to_object, by_base, by_interface, by_variance, equal, covariant, contravariant}
use Rattle.vsd_compat.specs.Matrices.{Bits, IsSet}
use Rattle.vsd_compat.specs.Settling.{Directed, IsSettled, IsStarted, VariesIn}

module _ (c : TypeList) (b : Bits) (distinct : IsDistinct c.types) (closed : IsClosedUnder c.decls.list c.types) (started : IsStarted c b) (settled : (t : ℕ) → t < length c.types → IsSettled c b t) where
  same_number : (i j : ℕ) → i < length c.types → j < length c.types → type_at c.types i ≡ type_at c.types j → i ≡ j
  same_number i j i_in j_in e =
      distinct i j (type_at c.types j) (slice_get-get_or c.types i object i_in ∙ ap Some e) (slice_get-get_or c.types j object j_in)

  -- what a listed type leads to has a number
  child_number : (i : ℕ) → i < length c.types → (x : Term) → Contains (children c.decls.list (type_at c.types i)) x → (n : ℕ) × (n < length c.types) × (type_at c.types n ≡ x)
  child_number i i_in x has =
      let found = All-contains (Contains c.types) (children c.decls.list (type_at c.types i)) x (closed i object i_in) has in
      (found.0, found.1, get_or_from_slice_get c.types found.0 x object (slice_get-get_or c.types found.0 x found.1 ∙ ap Some found.2))

  base_number : (i : ℕ) → i < length c.types → (x : Term) → base_of c.decls.list (type_at c.types i) ≡ Some x → (n : ℕ) × (n < length c.types) × (type_at c.types n ≡ x)
  base_number i i_in x is =
      let t = type_at c.types i in
      let bases : List Term = option_to_list (base_of c.decls.list t) in
      let alone : Contains (option_to_list (Some x)) x = (0, omega arith, refl) in
      let has : Contains bases x = subst (λ (o : Option Term). Contains (option_to_list o) x) (sym is) alone in
      child_number i i_in x (Contains-append_left (bases ++ named_of c.decls.list t) (args_of t) x (Contains-append_left bases (named_of c.decls.list t) x has))

  interface_number : (i : ℕ) → i < length c.types → (x : Term) → Contains (named_of c.decls.list (type_at c.types i)) x → (n : ℕ) × (n < length c.types) × (type_at c.types n ≡ x)
  interface_number i i_in x has =
      let t = type_at c.types i in
      let bases : List Term = option_to_list (base_of c.decls.list t) in
      child_number i i_in x (Contains-append_left (bases ++ named_of c.decls.list t) (args_of t) x (Contains-append_right bases (named_of c.decls.list t) x has))

  mutual
    pub complete : {t u : Term} → IsCompatible c.decls.list t u → (i j : ℕ) → i < length c.types → j < length c.types → type_at c.types i ≡ t → type_at c.types j ≡ u → IsSet b i j
    complete (same e) i j i_in j_in is_t is_u =
        subst (IsSet b i) (same_number i j i_in j_in (is_t ∙ e ∙ sym is_u)) (started.own i i_in)
    complete (to_object e) i j i_in j_in is_t is_u = started.object i j i_in j_in (is_u ∙ e)
    complete (by_base x is rest) i j i_in j_in is_t is_u =
        let here : base_of c.decls.list (type_at c.types i) ≡ Some x = ap (base_of c.decls.list) is_t ∙ is in
        let n = base_number i i_in x here in
        (settled i i_in).base n.0 n.1 (here ∙ ap Some (sym n.2)) j j_in (complete rest n.0 j n.1 j_in n.2 is_u)
    complete (by_interface x has rest) i j i_in j_in is_t is_u =
        let here : Contains (named_of c.decls.list (type_at c.types i)) x = subst (λ (a : Term). Contains (named_of c.decls.list a) x) (sym is_t) has in
        let n = interface_number i i_in x here in
        (settled i i_in).interfaces n.0 n.1 (subst (Contains (named_of c.decls.list (type_at c.types i))) (sym n.2) here) j j_in (complete rest n.0 j n.1 j_in n.2 is_u)
    complete {t} {u} (by_variance generic at) i j i_in j_in is_t is_u =
        let first = subst (λ (a : Term). AreSameInterface c.decls.list a u) (sym is_t) generic in
        let both = subst (λ (a : Term). AreSameInterface c.decls.list (type_at c.types i) a) (sym is_u) first in
        (settled i i_in).variants j j_in both (λ place s x y x_in y_in p.
        let of_t = subst (λ (a : Term). IsParameter c.decls.list a (type_at c.types j) place s (type_at c.types x) (type_at c.types y)) is_t p in
        let of_u = subst (λ (a : Term). IsParameter c.decls.list t a place s (type_at c.types x) (type_at c.types y)) is_u of_t in
        complete_argument (at place s (type_at c.types x) (type_at c.types y) of_u) x y x_in y_in refl refl)

    complete_argument : {s : Sign} {x y : Term} → Varies c.decls.list s x y → (i j : ℕ) → i < length c.types → j < length c.types → type_at c.types i ≡ x → type_at c.types j ≡ y → VariesIn c b s i j
    complete_argument (equal e) i j i_in j_in is_x is_y = inl (same_number i j i_in j_in (is_x ∙ e ∙ sym is_y))
    complete_argument {s} {x} {y} (covariant sign references rest) i j i_in j_in is_x is_y =
        let first = subst (λ (a : Term). AreReferences c.decls.list a y) (sym is_x) references in
        let both = subst (λ (a : Term). AreReferences c.decls.list (type_at c.types i) a) (sym is_y) first in
        inr (both, subst (λ (z : Sign). Directed b z i j) (sym sign) (complete rest i j i_in j_in is_x is_y))
    complete_argument {s} {x} {y} (contravariant sign references rest) i j i_in j_in is_x is_y =
        let first = subst (λ (a : Term). AreReferences c.decls.list a y) (sym is_x) references in
        let both = subst (λ (a : Term). AreReferences c.decls.list (type_at c.types i) a) (sym is_y) first in
        inr (both, subst (λ (z : Sign). Directed b z i j) (sym sign) (complete rest j i j_in i_in is_y is_x))
