-- What setting bits by a rule keeps and gives.
use Rattle.std.proofs.Common.{◌≡◌, ℕ, nat_eq, ◌<◌, ◌↔◌, Bool, true, false, inl, inr, List, ◌++◌, length, get_or, Contains, Option, Some, None, refl, sym, ap, ◌∙◌, subst, arith}
use Rattle.std.specs.List.{slice_get}
use Rattle.std.specs.Option.{is_some, option_eq, option_to_list}
use Rattle.std.proofs.lemmas.Bool.{eq-eqb, eqb-true}
use Rattle.std.proofs.lemmas.List.{get_or-map}
use Rattle.std.proofs.lemmas.Option.{slice_get-get_or, slice_get_within, get_or_from_slice_get}
use Rattle.vsd_terms.specs.declared.term.Term.{Term}
use Rattle.vsd_ast.specs.declared.declarations.Decl.{Decl}
use Rattle.vsd_ast.specs.declared.declarations.Sign.{Sign}
use Rattle.vsd_ast.specs.declared.declarations.Sign.TheVariants.{Plus, Minus, Plain}
use Rattle.vsd_ast.specs.Lookup.{Head, named, parameter, built_in, head_of, declared, place_of}
use Rattle.std.proofs.lemmas.List.Elements.{All-contains, Contains-append_right}
use Rattle.vsd_types.specs.ClosedList.{IsClosedUnder}
use Rattle.vsd_types.specs.Numbers.{AreNumbers, IsDistinct}
use Rattle.vsd_types.specs.TypeList.{TypeList}
use Rattle.vsd_types.specs.Types.{args_of, base_of, children, named_of, object, type_at, declaration_of_head, is_declared_interface, is_interface_type, place_of_head}
use Rattle.vsd_types.proofs.Declared.{declared-name, declared-place, place_of-within}
use Rattle.vsd_types.proofs.NumberLemmas.{numbers-at, numbers-length}
use Rattle.vsd_compat.specs.Compatibility.{AreSameInterface, IsCompatible, IsParameter, Varies, by_variance, equal, covariant, contravariant}
use Rattle.vsd_compat.specs.Generics.{AreGenerics, IsOneInterface, generic_of, where_interface}
use Rattle.vsd_compat.specs.Matrices.{Bits, IsSet}
use Rattle.vsd_compat.specs.Moving.{Adds}
use Rattle.vsd_compat.specs.Settling.{AreVariantIn, IsSound, VariesIn}

-- ---- one interface

declared_some : (d : Option Decl) → is_declared_interface d ≡ true → (x : Decl) × (d ≡ Some x)
declared_some None h = absurd cc
declared_some (Some x) h = (x, refl)

pub same_some : {A : Type 0} {x y : A} → Some x ≡ Some y → x ≡ y
same_some e = cc

same_name : (ds : List Decl) (n m : ℕ) (x : Decl) → declared ds n ≡ Some x → place_of ds n ≡ place_of ds m → n ≡ m
same_name ds n m x found same =
    let within : place_of ds n < length ds = place_of-within ds n (rw found refl) in
    let other : place_of ds m < length ds = subst (λ p. p < length ds) same within in
    let first = declared-name ds n (get_or ds (place_of ds n) x) (declared-place ds n x within) in
    let second = declared-name ds m (get_or ds (place_of ds m) x) (declared-place ds m x other) in
    sym first ∙ ap (λ p. (get_or ds p x).name) same ∙ second

-- an interface's head is the only one of its declaration
pub same_head : (ds : List Decl) (h k : Head) → is_declared_interface (declaration_of_head ds h) ≡ true → place_of_head ds h ≡ place_of_head ds k → h ≡ k
same_head ds (named n) (named m) interface same =
    let found = declared_some (declared ds n) interface in
    ap named (same_name ds n m found.0 found.1 (same_some same))
same_head ds (named n) (parameter p) interface same = absurd cc
same_head ds (named n) (built_in b) interface same = absurd cc
same_head ds (parameter p) k interface same = absurd cc
same_head ds (built_in b) k interface same = absurd cc

pub option_same : (a b : Option ℕ) → option_eq nat_eq a b ≡ true → a ≡ b
option_same None None h = refl
option_same None (Some y) h = absurd cc
option_same (Some x) None h = absurd cc
option_same (Some x) (Some y) h = ap Some (eqb-true x y h)

pub option_itself : (a b : Option ℕ) → a ≡ b → option_eq nat_eq a b ≡ true
option_itself None None h = refl
option_itself None (Some y) h = absurd cc
option_itself (Some x) None h = absurd cc
option_itself (Some x) (Some y) h = eq-eqb x y (same_some h)

some_interface : (is : Bool) (place : Option ℕ) → is_some (where_interface is place) ≡ true → is ≡ true
some_interface true place h = refl
some_interface false place h = absurd cc

given_place : (is : Bool) (place : Option ℕ) → is ≡ true → where_interface is place ≡ place
given_place is place h = ap (λ b. where_interface b place) h

place_is_some : (ds : List Decl) (h : Head) → is_declared_interface (declaration_of_head ds h) ≡ true → is_some (place_of_head ds h) ≡ true
place_is_some ds (named name) interface = refl
place_is_some ds (parameter place) interface = absurd cc
place_is_some ds (built_in b) interface = absurd cc

generic_of_head : List Decl → Head → Option ℕ
generic_of_head ds h = where_interface (is_declared_interface (declaration_of_head ds h)) (place_of_head ds h)

module _ (ds : List Decl) (t u : Term) where
  same_generic : IsOneInterface (generic_of ds t) (generic_of ds u) → AreSameInterface ds t u
  same_generic one =
      let of_t = place_of_head ds (head_of t) in
      let of_u = place_of_head ds (head_of u) in
      let first : is_interface_type ds t ≡ true = some_interface (is_interface_type ds t) of_t one.some in
      let second : is_interface_type ds u ≡ true = some_interface (is_interface_type ds u) of_u (ap is_some (sym one.one) ∙ one.some) in
      record {
        interface = first;
        generic = same_head ds (head_of t) (head_of u) first (sym (given_place (is_interface_type ds t) of_t first) ∙ one.one ∙ given_place (is_interface_type ds u) of_u second);
      }

  one_generic : AreSameInterface ds t u → IsOneInterface (generic_of ds t) (generic_of ds u)
  unfolding generic_of_head
  one_generic same = record {
    some = ap is_some (given_place (is_interface_type ds t) (place_of_head ds (head_of t)) same.interface) ∙ place_is_some ds (head_of t) same.interface;
    one = ap (generic_of_head ds) same.generic;
  }

  -- two types are of one interface exactly where their places are one interface's
  pub one_interface : IsOneInterface (generic_of ds t) (generic_of ds u) ↔ AreSameInterface ds t u
  one_interface = (same_generic, one_generic)

-- what the list has for a type
generic_at : (c : TypeList) (generics : List (Option ℕ)) → AreGenerics c generics → (t : ℕ) → t < length c.types → get_or generics t None ≡ generic_of c.decls.list (type_at c.types t)
generic_at c generics are t within =
    ap (λ l. get_or l t None) are ∙ get_or-map (generic_of c.decls.list) c.types t object None within

-- whether two types are of one interface, by what the list has
pub listed_interface : (c : TypeList) (generics : List (Option ℕ)) → AreGenerics c generics → (t u : ℕ) → t < length c.types → u < length c.types → IsOneInterface (get_or generics t None) (get_or generics u None) ↔ AreSameInterface c.decls.list (type_at c.types t) (type_at c.types u)
listed_interface c generics are t u t_in u_in =
    let found = one_interface c.decls.list (type_at c.types t) (type_at c.types u) in
    let first = generic_at c generics are t t_in in
    let second = generic_at c generics are u u_in in (
      λ one. found.0 (rw (sym second) (rw (sym first) one)),
      λ same. rw second (rw first (found.1 same)),
    )

-- ---- numbers

module _ (c : TypeList) (distinct : IsDistinct c.types) where
  listed : (x : ℕ) → x < length c.types → slice_get c.types x ≡ Some (type_at c.types x)
  listed x within = slice_get-get_or c.types x object within

  -- a number of a type is the number of its place
  pub number_is : (x n : ℕ) → x < length c.types → slice_get c.types n ≡ Some (type_at c.types x) → n ≡ x
  number_is x n within here = distinct n x (type_at c.types x) here (listed x within)

  -- the number in a list of a type in the other
  pub number_at : (ns : List ℕ) (ts : List Term) → AreNumbers c.types ns ts → (place x : ℕ) → x < length c.types → slice_get ts place ≡ Some (type_at c.types x) → slice_get ns place ≡ Some x
  number_at ns ts are place x within here =
      let in_ts = slice_get_within ts place (type_at c.types x) here in
      let in_ns : place < length ns = omega (arith, in_ts, numbers-length c.types ns ts are) in
      let at = numbers-at c.types ns ts are place 0 (type_at c.types x) in_ns in
      let read : get_or ts place (type_at c.types x) ≡ type_at c.types x = get_or_from_slice_get ts place (type_at c.types x) (type_at c.types x) here in
      let same = number_is x (get_or ns place 0) within (at ∙ ap Some read) in
      slice_get-get_or ns place 0 in_ns ∙ ap Some same

  pub number_of_base : (r : Option ℕ) (o : Option Term) (x : ℕ) → x < length c.types → AreNumbers c.types (option_to_list r) (option_to_list o) → o ≡ Some (type_at c.types x) → r ≡ Some x
  number_of_base None None x within are is = absurd cc
  number_of_base None (Some t) x within are is = absurd cc
  number_of_base (Some n) None x within are is = absurd cc
  number_of_base (Some n) (Some t) x within are is =
      let same : t ≡ type_at c.types x = same_some is in
      let here : slice_get c.types n ≡ Some t = cc in
      ap Some (number_is x n within (here ∙ ap Some same))

  -- ---- a row takes on another

  module _ (b new : Bits) (t x : ℕ) (x_in : x < length c.types) (adds : Adds (length c.types) b new (λ i j. (i ≡ t) × IsSet b x j)) where
    pub absorb-sound : ((u : ℕ) → IsCompatible c.decls.list (type_at c.types x) (type_at c.types u) → IsCompatible c.decls.list (type_at c.types t) (type_at c.types u)) → IsSound c b → IsSound c new
    absorb-sound leads sound i j i_in j_in set =
        elim (adds.only i j i_in j_in set) [
          | inl old ↦ sound i j i_in j_in old
          | inr w ↦ subst (λ n. IsCompatible c.decls.list (type_at c.types n) (type_at c.types j)) (sym w.0) (leads j (sound x j x_in j_in w.1))
        ]

    -- where nothing changed, the row had it all
    pub absorbed : t < length c.types → new ≡ b → (u : ℕ) → u < length c.types → IsSet new x u → IsSet new t u
    absorbed t_in same u u_in set = adds.added t u t_in u_in (refl, subst (λ a. IsSet a x u) same set)

-- the type at the number of a base
pub base_is : (c : TypeList) (n : ℕ) (o : Option Term) → AreNumbers c.types (option_to_list (Some n)) (option_to_list o) → o ≡ Some (type_at c.types n)
base_is c n None are = absurd cc
base_is c n (Some t) are =
    let here : slice_get c.types n ≡ Some t = cc in
    ap Some (sym (get_or_from_slice_get c.types n t object here))

pub number_is_set : (c : TypeList) (b : Bits) → IsSound c b → (t u : ℕ) → t < length c.types → u < length c.types → IsCompatible c.decls.list (type_at c.types t) (type_at c.types u) → (new : Bits) → Adds (length c.types) b new (λ i j. (i ≡ t) × (j ≡ u)) → IsSound c new
number_is_set c b sound t u t_in u_in right new adds i j i_in j_in set =
    elim (adds.only i j i_in j_in set) [
      | inl old ↦ sound i j i_in j_in old
      | inr w ↦ subst (λ n. IsCompatible c.decls.list (type_at c.types n) (type_at c.types j)) (sym w.0) (subst (λ n. IsCompatible c.decls.list (type_at c.types t) (type_at c.types n)) (sym w.1) right)
    ]

-- what the bits let differ, differs as the rule lets it
varies-right : (c : TypeList) (b : Bits) → IsSound c b → (s : Sign) (x y : ℕ) → x < length c.types → y < length c.types → VariesIn c b s x y → Varies c.decls.list s (type_at c.types x) (type_at c.types y)
varies-right c b sound s x y x_in y_in (inl same) = equal (ap (type_at c.types) same)
varies-right c b sound Plus x y x_in y_in (inr w) = covariant refl w.0 (sound x y x_in y_in w.1)
varies-right c b sound Minus x y x_in y_in (inr w) = contravariant refl w.0 (sound y x y_in x_in w.1)
varies-right c b sound Plain x y x_in y_in (inr w) = absurd w.1

-- an argument of a listed type has a number
module _ (c : TypeList) (closed : IsClosedUnder c.decls.list c.types) (t : ℕ) (t_in : t < length c.types) where
  pub argument_number : (place : ℕ) (x : Term) → slice_get (args_of (type_at c.types t)) place ≡ Some x → (n : ℕ) × (n < length c.types) × (type_at c.types n ≡ x)
  argument_number place x here =
      let ds = c.decls.list in
      let args = args_of (type_at c.types t) in
      let front = option_to_list (base_of ds (type_at c.types t)) ++ named_of ds (type_at c.types t) in
      let given : Contains args x = (place, slice_get_within args place x here, get_or_from_slice_get args place x x here) in
      let found = All-contains (Contains c.types) (children ds (type_at c.types t)) x (closed t object t_in) (Contains-append_right front args x given) in
      (found.0, found.1, get_or_from_slice_get c.types found.0 x object (slice_get-get_or c.types found.0 x found.1 ∙ ap Some found.2))

pub variant-right : (c : TypeList) (b : Bits) → IsClosedUnder c.decls.list c.types → IsSound c b → (t u : ℕ) → t < length c.types → u < length c.types → AreSameInterface c.decls.list (type_at c.types t) (type_at c.types u) → AreVariantIn c b t u → IsCompatible c.decls.list (type_at c.types t) (type_at c.types u)
variant-right c b closed sound t u t_in u_in same variant = by_variance same (λ place s x y p.
    let n = argument_number c closed t t_in place x p.first in
    let m = argument_number c closed u u_in place y p.second in
    let here = subst (λ z. IsParameter c.decls.list (type_at c.types t) (type_at c.types u) place s z y) (sym n.2) p in
    let there = subst (λ z. IsParameter c.decls.list (type_at c.types t) (type_at c.types u) place s (type_at c.types n.0) z) (sym m.2) here in
    let v = varies-right c b sound s n.0 m.0 n.1 m.1 (variant place s n.0 m.0 n.1 m.1 there) in
    subst (λ z. Varies c.decls.list s x z) m.2 (subst (λ z. Varies c.decls.list s z (type_at c.types m.0)) n.2 v))
