-- Ranks fall from a type to its base and to what it names.
use Rattle.std.proofs.Common.{◌≡◌, ℕ, ◌+◌, ◌<◌, ◌≤◌, Bool, true, false, if◌then◌else◌, List, [], ◌∷◌, length, map, get_or, All, Option, Some, None, IfSome, refl, sym, ap, ◌∙◌, subst, arith}
use Rattle.std.specs.List.{slice_get}
use Rattle.std.specs.Option.{option_and_then}
use Rattle.std.proofs.lemmas.List.Elements.{All-nil, All-cons, All-head, All-tail}
use Rattle.std.proofs.lemmas.Option.{slice_get-get_or}
use Rattle.vsd_terms.specs.declared.term.Builtin.{Builtin as Kind}
use Rattle.vsd_terms.specs.declared.term.Builtin.TheVariants.{Object, String, ValueType, Bool as Boolean, Char, Int8, Int16, Int32, Int64, Uint8, Uint16, Uint32, Uint64, Float32, Float64}
use Rattle.vsd_terms.specs.declared.term.Term.{Term}
use Rattle.vsd_terms.specs.declared.term.Term.TheFolds.{fold-roll-Term}
use Rattle.vsd_terms.specs.declared.term.Term.TheOpen as layer
use Rattle.vsd_terms.specs.declared.term.Term.TheVariants.{Param, Builtin, rolls-Param}
use Rattle.vsd_terms.specs.Substitution.{subst_of}
use Rattle.vsd_terms.proofs.SubstitutionLaws.{get_or-greatest}
use Rattle.vsd_terms.proofs.SubstitutionLemmas.{subst_of-Named, subst_of-Builtin}
use Rattle.vsd_ast.specs.declared.declarations.Decl.{Decl}
use Rattle.vsd_ast.specs.declared.declarations.Located.{Located}
use Rattle.vsd_ast.specs.Hierarchy.{IsBase, IsHierarchy, IsInterface, IsPlaced, above, base_terms, number_for}
use Rattle.vsd_ast.specs.Lookup.{Head, named, parameter, built_in, head_of, head_step, declared, place_of}
use Rattle.vsd_types.specs.Types.{args_of, base_of, base_of_head, builtin_base, declaration_of_head, declared_base, declared_interfaces, named_of, object, written_base}
use Rattle.vsd_types.proofs.BaseLemmas.{head_of-Builtin}
use Rattle.vsd_types.proofs.Declared.{All-back, All-front, declared-All, declared-place, place_of-within, head_of-Named, term_cases}
use Rattle.vsd_interfaces.specs.Ranks.{builtin_rank, head_rank, rank_of}

head_of-Param : (place : ℕ) → head_of (Param place) ≡ parameter place
head_of-Param place = ap head_of (sym (rolls-Param place)) ∙ fold-roll-Term Head head_step (layer.Param place)

-- arguments leave a term's head as it is, but where it is a parameter
pub head-subst : (args : List Term) (t : Term) → ((place : ℕ) → head_of t ≡ parameter place → ⊥) → head_of (subst_of args t) ≡ head_of t
head-subst args = term_cases (λ t. ((place : ℕ) → head_of t ≡ parameter place → ⊥) → head_of (subst_of args t) ≡ head_of t)
    (λ name inner free. ap head_of (subst_of-Named args name inner) ∙ head_of-Named name (map (subst_of args) inner) ∙ sym (head_of-Named name inner))
    (λ place free. absurd (free place (head_of-Param place)))
    (λ b free. ap head_of (subst_of-Builtin args b))

interface_no_parameter : (ds : List Decl) (h : Head) → IsInterface ds h → (place : ℕ) → h ≡ parameter place → ⊥
interface_no_parameter ds (named name) is place e = absurd cc
interface_no_parameter ds (parameter p) is place e = is
interface_no_parameter ds (built_in b) is place e = is

base_no_parameter : (ds : List Decl) (h : Head) → IsBase ds h → (place : ℕ) → h ≡ parameter place → ⊥
base_no_parameter ds (named name) is place e = absurd cc
base_no_parameter ds (parameter p) is place e = is
base_no_parameter ds (built_in b) is place e = absurd cc

All-map : {A B : Type 0} (P : B → Type 0) (f : A → B) (xs : List A) → All (λ x. P (f x)) xs → All P (map f xs)
All-map P f [] all = All-nil P
All-map P f (x ∷ xs) all = All-cons P (f x) (map f xs) (All-head (λ x. P (f x)) x xs all) (All-map P f xs (All-tail (λ x. P (f x)) x xs all))

All-unmap : {A B : Type 0} (P : B → Type 0) (f : A → B) (xs : List A) → All P (map f xs) → All (λ x. P (f x)) xs
All-unmap P f [] all = All-nil (λ x. P (f x))
All-unmap P f (x ∷ xs) all = All-cons (λ x. P (f x)) x xs (All-head P (f x) (map f xs) all) (All-unmap P f xs (All-tail P (f x) (map f xs) all))

All-both : {A : Type 0} (P Q R : A → Type 0) (xs : List A) → ((x : A) → P x → Q x → R x) → All P xs → All Q xs → All R xs
All-both P Q R xs f ps qs = λ k d within. f (get_or xs k d) (ps k d within) (qs k d within)

module _ (ds : List Decl) (depths : List ℕ) (h : IsHierarchy ds depths) where
  abbrev depth_in : Term → ℕ
  depth_in t = number_for ds depths (head_of t)

  -- what a declaration names right above itself is less deep
  above_lower : (name : ℕ) (x : Decl) → declared ds name ≡ Some x → All (λ t. depth_in t < get_or depths (place_of ds name) 0) (above x)
  above_lower name x is =
      let within : place_of ds name < length ds = place_of-within ds name (rw is refl) in
      let here : slice_get ds (place_of ds name) ≡ Some x = slice_get-get_or ds (place_of ds name) x within ∙ sym (declared-place ds name x within) ∙ is in
      let deep = h.deep.each (place_of ds name) x here in
      λ k d inside. let most = get_or-greatest depth_in (above x) k d inside in omega (arith, deep, most)

  -- the rank of a head is above the built-in ones, or it is built in
  rank_bound : (g : Head) → ((place : ℕ) → g ≡ parameter place → ⊥) → head_rank ds depths g ≤ number_for ds depths g + 2
  rank_bound (named name) free = omega arith
  rank_bound (parameter place) free = absurd (free place refl)
  rank_bound (built_in Object) free = omega arith
  rank_bound (built_in String) free = omega arith
  rank_bound (built_in ValueType) free = omega arith
  rank_bound (built_in Boolean) free = omega arith
  rank_bound (built_in Char) free = omega arith
  rank_bound (built_in Int8) free = omega arith
  rank_bound (built_in Int16) free = omega arith
  rank_bound (built_in Int32) free = omega arith
  rank_bound (built_in Int64) free = omega arith
  rank_bound (built_in Uint8) free = omega arith
  rank_bound (built_in Uint16) free = omega arith
  rank_bound (built_in Uint32) free = omega arith
  rank_bound (built_in Uint64) free = omega arith
  rank_bound (built_in Float32) free = omega arith
  rank_bound (built_in Float64) free = omega arith

  -- a term above, at arguments, has a lower rank
  falls : (args : List Term) (t : Term) (n : ℕ) → ((place : ℕ) → head_of t ≡ parameter place → ⊥) → depth_in t < n → rank_of ds depths (subst_of args t) < n + 2
  falls args t n free lower =
      let same : rank_of ds depths (subst_of args t) ≡ rank_of ds depths t = ap (head_rank ds depths) (head-subst args t free) in
      let bound = rank_bound (head_of t) free in
      omega (arith, same, bound, lower)

  named_falls : (args : List Term) (g : Head) → All (λ i. rank_of ds depths i < head_rank ds depths g) (declared_interfaces args (declaration_of_head ds g))
  named_falls args (named name) = by (declared ds name) refl
    where
      by : (o : Option Decl) → declared ds name ≡ o → All (λ i. rank_of ds depths i < get_or depths (place_of ds name) 0 + 2) (declared_interfaces args o)
      by None is = All-nil (λ i. rank_of ds depths i < get_or depths (place_of ds name) 0 + 2)
      by (Some x) is =
          let n = get_or depths (place_of ds name) 0 in
          let placed : IsPlaced ds x = declared-All (IsPlaced ds) ds name x h.each is in
          let lower = All-unmap (λ t. depth_in t < n) (λ (i : Located). i.term) x.interfaces (All-back (λ t. depth_in t < n) (base_terms x.base) (map (λ (i : Located). i.term) x.interfaces) (above_lower name x is)) in
          All-map (λ i. rank_of ds depths i < n + 2) (λ (i : Located). subst_of args i.term) x.interfaces (All-both (λ (i : Located). depth_in i.term < n) (λ (i : Located). IsInterface ds (head_of i.term)) (λ (i : Located). rank_of ds depths (subst_of args i.term) < n + 2) x.interfaces (λ i low interface. falls args i.term n (interface_no_parameter ds (head_of i.term) interface) low) lower placed.interfaces)
  named_falls args (parameter place) = All-nil (λ i. rank_of ds depths i < 0)
  named_falls args (built_in b) = All-nil (λ i. rank_of ds depths i < builtin_rank b)

  -- the interfaces that a type names have lower ranks
  pub named-falls : (t : Term) → All (λ i. rank_of ds depths i < rank_of ds depths t) (named_of ds t)
  named-falls t = named_falls (args_of t) (head_of t)

  object_rank : rank_of ds depths object ≡ 0
  object_rank = ap (head_rank ds depths) (head_of-Builtin Object)

  value_rank : rank_of ds depths (Builtin ValueType) ≡ 1
  value_rank = ap (head_rank ds depths) (head_of-Builtin ValueType)

  builtin_falls : (k : Kind) (b : Term) → builtin_base k ≡ Some b → rank_of ds depths b < builtin_rank k
  builtin_falls Object b is = absurd cc
  builtin_falls String b is = let e : object ≡ b = cc in omega (arith, ap (rank_of ds depths) e, object_rank)
  builtin_falls ValueType b is = let e : object ≡ b = cc in omega (arith, ap (rank_of ds depths) e, object_rank)
  builtin_falls Boolean b is = let e : Builtin ValueType ≡ b = cc in omega (arith, ap (rank_of ds depths) e, value_rank)
  builtin_falls Char b is = let e : Builtin ValueType ≡ b = cc in omega (arith, ap (rank_of ds depths) e, value_rank)
  builtin_falls Int8 b is = let e : Builtin ValueType ≡ b = cc in omega (arith, ap (rank_of ds depths) e, value_rank)
  builtin_falls Int16 b is = let e : Builtin ValueType ≡ b = cc in omega (arith, ap (rank_of ds depths) e, value_rank)
  builtin_falls Int32 b is = let e : Builtin ValueType ≡ b = cc in omega (arith, ap (rank_of ds depths) e, value_rank)
  builtin_falls Int64 b is = let e : Builtin ValueType ≡ b = cc in omega (arith, ap (rank_of ds depths) e, value_rank)
  builtin_falls Uint8 b is = let e : Builtin ValueType ≡ b = cc in omega (arith, ap (rank_of ds depths) e, value_rank)
  builtin_falls Uint16 b is = let e : Builtin ValueType ≡ b = cc in omega (arith, ap (rank_of ds depths) e, value_rank)
  builtin_falls Uint32 b is = let e : Builtin ValueType ≡ b = cc in omega (arith, ap (rank_of ds depths) e, value_rank)
  builtin_falls Uint64 b is = let e : Builtin ValueType ≡ b = cc in omega (arith, ap (rank_of ds depths) e, value_rank)
  builtin_falls Float32 b is = let e : Builtin ValueType ≡ b = cc in omega (arith, ap (rank_of ds depths) e, value_rank)
  builtin_falls Float64 b is = let e : Builtin ValueType ≡ b = cc in omega (arith, ap (rank_of ds depths) e, value_rank)

  written_falls : (args : List Term) (n : ℕ) (o : Option Located) → IfSome o (λ (b : Located). IsBase ds (head_of b.term)) → All (λ t. depth_in t < n) (base_terms o) → rank_of ds depths (written_base args o) < n + 2
  written_falls args n None placed lower = omega (arith, object_rank)
  written_falls args n (Some b) placed lower = falls args b.term n (base_no_parameter ds (head_of b.term) placed) (All-head (λ t. depth_in t < n) b.term [] lower)

  declared_falls : (args : List Term) (n : ℕ) (x : Decl) (b : Term) → declared_base args x ≡ Some b → rank_of ds depths (written_base args x.base) < n → rank_of ds depths b < n
  declared_falls args n x b is lower =
      let M : Bool → Type 0 = λ k. (if k then None else Some (written_base args x.base)) ≡ Some b → rank_of ds depths b < n in
      let both : M x.is_interface = elim x.is_interface as M [ true ↦ (λ e. absurd cc) | false ↦ (λ e. let same : written_base args x.base ≡ b = cc in subst (λ t. rank_of ds depths t < n) same lower) ] in
      both is

  base_falls : (args : List Term) (g : Head) (b : Term) → base_of_head ds args g ≡ Some b → rank_of ds depths b < head_rank ds depths g
  base_falls args (named name) b whole = by (declared ds name) refl whole
    where
      by : (o : Option Decl) → declared ds name ≡ o → option_and_then (declared_base args) o ≡ Some b → rank_of ds depths b < get_or depths (place_of ds name) 0 + 2
      by None is e = absurd cc
      by (Some x) is e =
          let n = get_or depths (place_of ds name) 0 in
          let placed : IsPlaced ds x = declared-All (IsPlaced ds) ds name x h.each is in
          declared_falls args (n + 2) x b e (written_falls args n x.base placed.base (All-front (λ t. depth_in t < n) (base_terms x.base) (map (λ (i : Located). i.term) x.interfaces) (above_lower name x is)))
  base_falls args (parameter place) b is = absurd cc
  base_falls args (built_in k) b is = builtin_falls k b is

  -- the base of a type has a lower rank
  pub base-falls : (t b : Term) → base_of ds t ≡ Some b → rank_of ds depths b < rank_of ds depths t
  base-falls t b is = base_falls (args_of t) (head_of t) b is
