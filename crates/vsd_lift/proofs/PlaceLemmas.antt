-- Declarations found by their names.
use Rattle.std.proofs.Common.{◌≡◌, ℕ, suc, ◌+◌, ◌<◌, Bool, true, false, ◌&&◌, IsTrue, cond, nat_eq, List, [], ◌∷◌, length, map, max, get_or, set, drop, refl, sym, ap, ◌∙◌, subst, Option, Some, None, All, arith, eqb-true, eq-eqb, drop-cons, get_or-set_same, get_or-set_other, add-one}
use Rattle.std.specs.List.{slice_get}
use Rattle.std.proofs.lemmas.Bool.{and_parts, false≢true}
use Rattle.std.proofs.lemmas.List.{drop_all, length-map}
use Rattle.std.proofs.lemmas.List.Elements.{All-get_or}
use Rattle.std.proofs.lemmas.Option.{get_or_from_slice_get, slice_get_within}
use Rattle.vsd_terms.specs.declared.term.Term.{Term}
use Rattle.vsd_terms.specs.declared.term.Term.TheFolds.{fold-roll-Term}
use Rattle.vsd_terms.specs.declared.term.Term.TheOpen as layer
use Rattle.vsd_terms.specs.declared.term.Term.TheVariants.{Named, Param, Builtin, rolls-Named, rolls-Param, rolls-Builtin}
use Rattle.vsd_terms.specs.declared.term.Builtin.{Builtin as Kind}
use Rattle.vsd_terms.specs.Size.{greatest}
use Rattle.vsd_terms.specs.Text.{names_of, names_step}
use Rattle.vsd_ast.specs.declared.declarations.Decl.{Decl}
use Rattle.vsd_ast.specs.Lookup.{Head, named, parameter, built_in, declared, place_of, takes, is_lawful, lawful_step, all_true, head_of, head_step}

-- what holds of each element holds of the one at a place
pub All-at : {A : Type 0} (P : A → Type 0) (xs : List A) (i : ℕ) (x : A) → slice_get xs i ≡ Some x → All P xs → P x
All-at P xs i x here all = subst P (get_or_from_slice_get xs i x x here) (All-get_or P xs i x (slice_get_within xs i x here) all)

-- the first declaration of a name is at the name's place
pub place_of-declared : (ds : List Decl) (name : ℕ) (x : Decl) → declared ds name ≡ Some x → slice_get ds (place_of ds name) ≡ Some x
unfolding declared place_of
place_of-declared [] name x found = absurd cc
place_of-declared (y ∷ ds) name x found = by (nat_eq y.name name) refl (place_of-declared ds name x)
  where
    by : (same : Bool) → nat_eq y.name name ≡ same → (declared ds name ≡ Some x → slice_get ds (place_of ds name) ≡ Some x) → slice_get (y ∷ ds) (place_of (y ∷ ds) name) ≡ Some x
    by true e later =
        let here : place_of (y ∷ ds) name ≡ 0 = ap (λ b. cond b 0 (place_of ds name + 1)) e in
        let this : declared (y ∷ ds) name ≡ Some y = ap (λ b. cond b (Some y) (declared ds name)) e in
        ap (slice_get (y ∷ ds)) here ∙ sym this ∙ found
    by false e later =
        let here : place_of (y ∷ ds) name ≡ suc (place_of ds name) = ap (λ b. cond b 0 (place_of ds name + 1)) e ∙ omega arith in
        let this : declared (y ∷ ds) name ≡ declared ds name = ap (λ b. cond b (Some y) (declared ds name)) e in
        ap (slice_get (y ∷ ds)) here ∙ later (sym this ∙ found)

pub taken : (o : Option Decl) (count : ℕ) → IsTrue (takes o count) → (x : Decl) × (o ≡ Some x) × (length x.params ≡ count)
taken None count there = absurd (false≢true there)
taken (Some x) count there = (x, refl, eqb-true (length x.params) count there)

is_lawful-Named : (ds : List Decl) (name : ℕ) (args : List Term) → is_lawful ds (Named name args) ≡ (takes (declared ds name) (length (map (is_lawful ds) args)) && all_true (map (is_lawful ds) args))
is_lawful-Named ds name args = ap (is_lawful ds) (sym (rolls-Named name args)) ∙ fold-roll-Term Bool (lawful_step ds) (layer.Named name args)

pub head_of-Named : (name : ℕ) (args : List Term) → head_of (Named name args) ≡ named name
head_of-Named name args = ap head_of (sym (rolls-Named name args)) ∙ fold-roll-Term Head head_step (layer.Named name args)

pub head_of-Param : (place : ℕ) → head_of (Param place) ≡ parameter place
head_of-Param place = ap head_of (sym (rolls-Param place)) ∙ fold-roll-Term Head head_step (layer.Param place)

pub head_of-Builtin : (b : Kind) → head_of (Builtin b) ≡ built_in b
head_of-Builtin b = ap head_of (sym (rolls-Builtin b)) ∙ fold-roll-Term Head head_step (layer.Builtin b)

pub names_of-Named : (name : ℕ) (args : List Term) → names_of (Named name args) ≡ max (name + 1) (greatest (map names_of args))
names_of-Named name args = ap names_of (sym (rolls-Named name args)) ∙ fold-roll-Term ℕ names_step (layer.Named name args)

-- a lawful named type is declared, with as many parameters as it has arguments
pub lawful-declared : (ds : List Decl) (name : ℕ) (args : List Term) → IsTrue (is_lawful ds (Named name args)) → (x : Decl) × (slice_get ds (place_of ds name) ≡ Some x) × (length x.params ≡ length args)
lawful-declared ds name args lawful =
    let both = sym (is_lawful-Named ds name args) ∙ lawful in
    let there = taken (declared ds name) (length (map (is_lawful ds) args)) (and_parts _ _ both).0 in
    (there.0, place_of-declared ds name there.0 there.1, there.2 ∙ length-map args (is_lawful ds))

-- ---- the table of places, from the last declaration to the first

pub places_end : (ds : List Decl) (name : ℕ) → length ds ≡ length ds + place_of (drop (length ds) ds) name
unfolding place_of
places_end ds name = let none = drop_all (length ds) ds (omega arith) in let e : place_of (drop (length ds) ds) name ≡ 0 = ap (λ l. place_of l name) none in omega arith

pub places_step : (ds : List Decl) (i : ℕ) (x : Decl) (made : List ℕ) → i < length ds → x ≡ get_or ds i x → x.name < length made → ((name : ℕ) → name < length made → get_or made name 0 ≡ (i + 1) + place_of (drop (i + 1) ds) name) → (name : ℕ) → name < length made → get_or (set made x.name i) name 0 ≡ i + place_of (drop i ds) name
unfolding place_of
places_step ds i x made within here room before name inside = by (nat_eq x.name name) refl
  where
    opened : place_of (drop i ds) name ≡ cond (nat_eq x.name name) 0 (place_of (drop (i + 1) ds) name + 1)
    opened =
        let cons : drop i ds ≡ x ∷ drop (i + 1) ds = drop-cons ds i x within ∙ ap (λ (y : Decl). y ∷ drop (suc i) ds) (sym here) ∙ ap (λ (n : ℕ). x ∷ drop n ds) (sym (add-one i)) in
        ap (λ l. place_of l name) cons

    by : (same : Bool) → nat_eq x.name name ≡ same → get_or (set made x.name i) name 0 ≡ i + place_of (drop i ds) name
    by true e =
        let is : x.name ≡ name = eqb-true x.name name e in
        let zero_ : place_of (drop i ds) name ≡ 0 = opened ∙ ap (λ b. cond b 0 (place_of (drop (i + 1) ds) name + 1)) e in
        ap (λ n. get_or (set made n i) name 0) is ∙ get_or-set_same made name i 0 inside ∙ omega arith
    by false e =
        let differ : name ≡ x.name → ⊥ = λ is. false≢true (sym e ∙ eq-eqb x.name name (sym is)) in
        let more : place_of (drop i ds) name ≡ place_of (drop (i + 1) ds) name + 1 = opened ∙ ap (λ b. cond b 0 (place_of (drop (i + 1) ds) name + 1)) e in
        get_or-set_other made x.name name i 0 differ ∙ before name inside ∙ omega arith
