-- The declaration that a name means.
use Rattle.std.proofs.Common.{◌≡◌, ◌++◌, ℕ, ◌+◌, ◌<◌, zero, suc, Bool, true, false, cond, List, [], ◌∷◌, length, get_or, Option, Some, None, IsSome, nat_eq, refl, sym, ap, ◌∙◌, subst, arith, add-one, All, IfSome, map, ◌&&◌, ◌≤◌}
use Rattle.std.specs.Cmp.{first_so}
use Rattle.std.specs.List.{slice_get}
use Rattle.std.specs.Option.{is_some}
use Rattle.std.proofs.lemmas.List.Elements.{All-nil, All-cons, All-head, All-tail}
use Rattle.std.proofs.lemmas.Option.{slice_get-get_or}
use Rattle.vsd_terms.specs.declared.term.Term.TheViews.{out-roll-Term}
use Rattle.std.proofs.lemmas.Bool.{eq-eqb, eqb-true}
use Rattle.std.proofs.lemmas.List.{length-map}
use Rattle.vsd_terms.specs.Substitution.{parameters_of, subst_of}
use Rattle.vsd_terms.specs.declared.term.Term.{Term}
use Rattle.vsd_terms.specs.declared.term.Term.TheFolds.{fold-roll-Term}
use Rattle.vsd_terms.specs.declared.term.Term.TheOpen as layer
use Rattle.vsd_terms.specs.declared.term.Term.TheVariants.{Named, Param, Builtin, rolls-Named, rolls-Builtin}
use Rattle.vsd_terms.specs.declared.term.Builtin.{Builtin as Kind}
use Rattle.vsd_terms.proofs.Induction.{term_induction}
use Rattle.vsd_types.specs.Types.{args_of, arguments_in, named_of, declaration_of, declaration_of_head, declared_interfaces}
use Rattle.vsd_ast.specs.Lookup.{Head, named, head_of, head_step, declared, place_of, is_lawful, lawful_step, takes, all_true}
use Rattle.vsd_ast.specs.WellFormed.{IsClassWritten}
use Rattle.vsd_ast.specs.declared.declarations.Located.{Located}
use Rattle.vsd_ast.specs.declared.declarations.Decl.{Decl}

same_some : {A : Type 0} {x y : A} → Some x ≡ Some y → x ≡ y
same_some e = cc

pub place_of-within : (ds : List Decl) (name : ℕ) → IsSome (declared ds name) → place_of ds name < length ds
unfolding declared place_of
place_of-within [] name some = absurd cc
place_of-within (x ∷ xs) name some =
    let M : Bool → Type 0 = λ b. IsSome (cond b (Some x) (declared xs name)) → cond b 0 (place_of xs name + 1) < suc (length xs) in
    let both : M (nat_eq x.name name) = elim (nat_eq x.name name) as M [ true ↦ (λ h. omega arith) | false ↦ (λ h. let rest = place_of-within xs name h in omega arith) ] in
    both some

pub declared-place : (ds : List Decl) (name : ℕ) (d : Decl) → place_of ds name < length ds → declared ds name ≡ Some (get_or ds (place_of ds name) d)
unfolding declared place_of
declared-place [] name d within = absurd (omega arith)
declared-place (x ∷ xs) name d within =
    let M : Bool → Type 0 = λ b. cond b 0 (place_of xs name + 1) < suc (length xs) → cond b (Some x) (declared xs name) ≡ Some (get_or (x ∷ xs) (cond b 0 (place_of xs name + 1)) d) in
    let both : M (nat_eq x.name name) = elim (nat_eq x.name name) as M [ true ↦ (λ h. refl) | false ↦ (λ h. let rest : place_of xs name < length xs = omega arith in rw add-one (declared-place xs name d rest)) ] in
    both within

-- what holds of each declaration holds of the one that a name means
pub declared-All : (P : Decl → Type 0) (ds : List Decl) (name : ℕ) (x : Decl) → All P ds → declared ds name ≡ Some x → P x
declared-All P ds name x all is =
    let within : place_of ds name < length ds = place_of-within ds name (rw is refl) in
    let same : get_or ds (place_of ds name) x ≡ x = same_some (sym (declared-place ds name x within) ∙ is) in
    subst P same (all (place_of ds name) x within)

pub declared-name : (ds : List Decl) (name : ℕ) (x : Decl) → declared ds name ≡ Some x → x.name ≡ name
unfolding declared
declared-name [] name x is = absurd cc
declared-name (y ∷ ys) name x is =
    let M : Bool → Type 0 = λ b. nat_eq y.name name ≡ b → cond b (Some y) (declared ys name) ≡ Some x → x.name ≡ name in
    let both : M (nat_eq y.name name) = elim (nat_eq y.name name) as M [ true ↦ (λ same e. let k : y ≡ x = same_some e in ap (λ (d : Decl). d.name) (sym k) ∙ eqb-true y.name name same) | false ↦ (λ other e. declared-name ys name x e) ] in
    both refl is

present : (ds : List Decl) (i : ℕ) (d : Decl) → i < length ds → IsSome (declared ds (get_or ds i d).name)
unfolding declared
present [] i d within = absurd (omega arith)
present (y ∷ ys) zero d within = ap (λ b. is_some (cond b (Some y) (declared ys y.name))) (eq-eqb y.name y.name refl)
present (y ∷ ys) (suc i) d within =
    let n = (get_or ys i d).name in
    let M : Bool → Type 0 = λ b. IsSome (cond b (Some y) (declared ys n)) in
    elim (nat_eq y.name n) as M [ true ↦ refl | false ↦ present ys i d (omega arith) ]

-- where no two declarations have one name, each is the one that its name means
pub declared-own : (ds : List Decl) → ((i j : ℕ) (x y : Decl) → slice_get ds i ≡ Some x → slice_get ds j ≡ Some y → x.name ≡ y.name → i ≡ j) → (i : ℕ) (d : Decl) → i < length ds → declared ds (get_or ds i d).name ≡ Some (get_or ds i d)
declared-own ds distinct i d within =
    let x = get_or ds i d in
    let some = present ds i d within in
    let place = place_of-within ds x.name some in
    let first = declared-place ds x.name d place in
    let same = declared-name ds x.name (get_or ds (place_of ds x.name) d) first in
    let at = distinct (place_of ds x.name) i (get_or ds (place_of ds x.name) d) x (slice_get-get_or ds (place_of ds x.name) d place) (slice_get-get_or ds i d within) same in
    first ∙ ap (λ k. Some (get_or ds k d)) at

-- ---- what a lawful type's name and arguments are

pub is_lawful-Named : (ds : List Decl) (name : ℕ) (args : List Term) → is_lawful ds (Named name args) ≡ (takes (declared ds name) (length (map (is_lawful ds) args)) && all_true (map (is_lawful ds) args))
is_lawful-Named ds name args = ap (is_lawful ds) (sym (rolls-Named name args)) ∙ fold-roll-Term Bool (lawful_step ds) (layer.Named name args)

pub takes-params : (d : Option Decl) (x : Decl) (n : ℕ) → takes d n ≡ true → d ≡ Some x → length x.params ≡ n
takes-params d x n taken is =
    let at : takes (Some x) n ≡ true = subst (λ (o : Option Decl). takes o n ≡ true) is taken in
    eqb-true (length x.params) n at

pub lawful-params : (ds : List Decl) (name : ℕ) (args : List Term) (x : Decl) → is_lawful ds (Named name args) ≡ true → declared ds name ≡ Some x → length x.params ≡ length args
lawful-params ds name args x lawful is =
    let n = length (map (is_lawful ds) args) in
    takes-params (declared ds name) x n (first_so (takes (declared ds name) n) (all_true (map (is_lawful ds) args)) (sym (is_lawful-Named ds name args) ∙ lawful)) is ∙ length-map args (is_lawful ds)

-- ---- terms written in a declaration fit its arguments

pub written_base-fits : (names n k : ℕ) (base : Option Located) → IfSome base (λ (b : Located). IsClassWritten names n b.term) → n ≡ k → IfSome base (λ (b : Located). parameters_of b.term ≤ k)
written_base-fits names n k None written e = written
written_base-fits names n k (Some b) written e = omega (arith, written.written.bound)

pub written-fits : (names n k : ℕ) (is : List Located) → All (λ (i : Located). IsClassWritten names n i.term) is → n ≡ k → All (λ (i : Located). parameters_of i.term ≤ k) is
written-fits names n k is written e = λ i d within. let w = written i d within in omega (arith, w.written.bound)

-- ---- parts of a list

pub All-front : {A : Type 0} (P : A → Type 0) (xs ys : List A) → All P (xs ++ ys) → All P xs
All-front P [] ys all = All-nil P
All-front P (x ∷ xs) ys all = All-cons P x xs (All-head P x (xs ++ ys) all) (All-front P xs ys (All-tail P x (xs ++ ys) all))

pub All-back : {A : Type 0} (P : A → Type 0) (xs ys : List A) → All P (xs ++ ys) → All P ys
All-back P [] ys all = all
All-back P (x ∷ xs) ys all = All-back P xs ys (All-tail P x (xs ++ ys) all)

-- ---- what a declared type names

pub args_of-Named : (name : ℕ) (args : List Term) → args_of (Named name args) ≡ args
args_of-Named name args = ap args_of (sym (rolls-Named name args)) ∙ ap arguments_in (out-roll-Term (layer.Named name args))

pub args_of-Builtin : (b : Kind) → args_of (Builtin b) ≡ []
args_of-Builtin b = ap args_of (sym (rolls-Builtin b)) ∙ ap arguments_in (out-roll-Term (layer.Builtin b))

pub head_of-Named : (name : ℕ) (args : List Term) → head_of (Named name args) ≡ named name
head_of-Named name args = ap head_of (sym (rolls-Named name args)) ∙ fold-roll-Term Head head_step (layer.Named name args)

pub length-named_of : (ds : List Decl) (t : Term) (name : ℕ) (args : List Term) (x : Decl) → t ≡ Named name args → declared ds name ≡ Some x → length (named_of ds t) ≡ length x.interfaces
length-named_of ds t name args x shape is =
    let head : head_of t ≡ named name = ap head_of shape ∙ head_of-Named name args in
    let at : declaration_of ds t ≡ Some x = ap (declaration_of_head ds) head ∙ is in
    ap (λ d. length (declared_interfaces (args_of t) d)) at ∙ length-map x.interfaces (λ (i : Located). subst_of (args_of t) i.term)

-- ---- a type by its form

pub term_cases : (P : Term → Type 0) → ((name : ℕ) (args : List Term) → P (Named name args)) → ((place : ℕ) → P (Param place)) → ((b : Kind) → P (Builtin b)) → (t : Term) → P t
term_cases P of_named of_param of_builtin = term_induction P (λ name es. of_named name (map (λ e. e.0) es)) of_param of_builtin
