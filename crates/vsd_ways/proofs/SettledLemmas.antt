-- What settled declarations tell of the interfaces that they name.
use Rattle.std.proofs.Common.{◌≡◌, ℕ, suc, ◌+◌, ◌<◌, ◌≤◌, List, [], ◌∷◌, ◌++◌, length, map, get_or, refl, sym, ap, ◌∙◌, subst, Option, Some, None, IfSome, IsTrue, Bool, true, false, cond, nat_eq, arith}
use Rattle.std.specs.List.{slice_get}
use Rattle.std.specs.Option.{option_map}
use Rattle.std.proofs.lemmas.Option.{slice_get-map, slice_get_within, get_or_from_slice_get}
use Rattle.vsd_terms.specs.declared.term.Term.{Term}
use Rattle.vsd_terms.specs.declared.term.Term.TheVariants.{Named}
use Rattle.vsd_terms.specs.Substitution.{parameters_of}
use Rattle.vsd_terms.specs.Text.{names_of}
use Rattle.vsd_terms.proofs.SubstitutionLaws.{get_or-greatest}
use Rattle.vsd_ast.specs.declared.declarations.Decl.{Decl}
use Rattle.vsd_ast.specs.declared.declarations.Located.{Located}
use Rattle.vsd_ast.specs.Hierarchy.{IsInterface, IsPlaced, above, base_terms, number_for}
use Rattle.vsd_ast.specs.Lookup.{Head, head_of, named, declared, is_lawful, place_of}
use Rattle.vsd_ast.specs.WellFormed.{IsClassWritten, IsDeclaration}
use Rattle.vsd_lift.specs.Settled.{IsSettled}
use Rattle.vsd_lift.proofs.PlaceLemmas.{All-at, head_of-Named, names_of-Named, lawful-declared}

-- the declaration of a name is the one at its place
pub declared-place : (ds : List Decl) (name : ℕ) → declared ds name ≡ slice_get ds (place_of ds name)
unfolding declared place_of
declared-place [] name = refl
declared-place (y ∷ ds) name = by (nat_eq y.name name) refl (declared-place ds name)
  where
    by : (same : Bool) → nat_eq y.name name ≡ same → declared ds name ≡ slice_get ds (place_of ds name) → declared (y ∷ ds) name ≡ slice_get (y ∷ ds) (place_of (y ∷ ds) name)
    by true e rest = ap (λ b. cond b (Some y) (declared ds name)) e ∙ sym (ap (slice_get (y ∷ ds)) (ap (λ b. cond b 0 (place_of ds name + 1)) e))
    by false e rest =
        let later : place_of (y ∷ ds) name ≡ suc (place_of ds name) = ap (λ b. cond b 0 (place_of ds name + 1)) e ∙ omega arith in
        ap (λ b. cond b (Some y) (declared ds name)) e ∙ rest ∙ sym (ap (slice_get (y ∷ ds)) later)

-- the declaration that a named type is of
pub record Target (ds : List Decl) (places : List ℕ) (name : ℕ) (args : List Term) : Type 0 where
  pub within : name < length places
  pub place : get_or places name 0 ≡ place_of ds name
  pub declaration : Decl
  pub declared_at : slice_get ds (place_of ds name) ≡ Some declaration
  pub long : length args ≡ length declaration.params

pub target : (ds : List Decl) (places depths : List ℕ) (t : Term) (name : ℕ) (args : List Term) → IsSettled ds places depths → t ≡ Named name args → names_of t ≤ length places → IsTrue (is_lawful ds t) → Target ds places name args
target ds places depths t name args settled is few lawful =
    let there = lawful-declared ds name args (subst (λ (u : Term). IsTrue (is_lawful ds u)) is lawful) in
    let within : name < length places = omega (arith, ap names_of is, names_of-Named name args) in
    record {
      within = within;
      place = settled.numbered name within;
      declaration = there.0;
      declared_at = there.1;
      long = sym there.2;
    }

-- an interface that a declaration names stands right above it
in_above : (x : Decl) (i : ℕ) (t : Located) → slice_get x.interfaces i ≡ Some t → (k : ℕ) × (slice_get (above x) k ≡ Some t.term)
in_above x i t here = by x.base
  where
    mapped : slice_get (map (λ (l : Located). l.term) x.interfaces) i ≡ Some t.term
    mapped = slice_get-map (λ (l : Located). l.term) x.interfaces i ∙ ap (option_map (λ (l : Located). l.term)) here

    by : (o : Option Located) → (k : ℕ) × (slice_get (base_terms o ++ map (λ (l : Located). l.term) x.interfaces) k ≡ Some t.term)
    by None = (i, mapped)
    by (Some b) = (suc i, mapped)

pub record IsNamedBy (ds : List Decl) (places depths : List ℕ) (n : ℕ) (x : Decl) (t : Term) : Type 0 where
  pub bound : parameters_of t ≤ length x.params
  pub names : names_of t ≤ length places
  pub lawful : IsTrue (is_lawful ds t)
  pub interface : IsInterface ds (head_of t)
  pub lower : number_for ds depths (head_of t) < get_or depths n 0

pub named_by : (ds : List Decl) (places depths : List ℕ) (n : ℕ) (x : Decl) (i : ℕ) (t : Located) → IsSettled ds places depths → slice_get ds n ≡ Some x → slice_get x.interfaces i ≡ Some t → IsNamedBy ds places depths n x t.term
named_by ds places depths n x i t settled here there =
    let written : IsDeclaration (length places) x = All-at (IsDeclaration (length places)) ds n x here settled.each in
    let placed : IsPlaced ds x = All-at (IsPlaced ds) ds n x here settled.hierarchy.each in
    let one : IsClassWritten (length places) (length x.params) t.term = All-at (λ (l : Located). IsClassWritten (length places) (length x.params) l.term) x.interfaces i t there written.interfaces in
    let up = in_above x i t there in
    let most = get_or-greatest (λ (u : Term). number_for ds depths (head_of u)) (above x) up.0 t.term (slice_get_within (above x) up.0 t.term up.1) in
    let read : get_or (above x) up.0 t.term ≡ t.term = get_or_from_slice_get (above x) up.0 t.term t.term up.1 in
    record {
      bound = one.written.bound;
      names = one.written.named;
      lawful = All-at (λ (u : Term). IsTrue (is_lawful ds u)) (above x) up.0 t.term up.1 placed.lawful;
      interface = All-at (λ (l : Located). IsInterface ds (head_of l.term)) x.interfaces i t there placed.interfaces;
      lower = omega (arith, most, settled.hierarchy.deep.each n x here, ap (λ (u : Term). number_for ds depths (head_of u)) read);
    }

-- the declaration that a named interface is of is an interface
pub interface_at : (ds : List Decl) (name : ℕ) (args : List Term) (t : Term) (x : Decl) → t ≡ Named name args → slice_get ds (place_of ds name) ≡ Some x → IsInterface ds (head_of t) → x.is_interface ≡ true
interface_at ds name args t x is here interface =
    let head : head_of t ≡ named name = ap head_of is ∙ head_of-Named name args in
    let found : declared ds name ≡ Some x = declared-place ds name ∙ here in
    let at_name : IsInterface ds (named name) = subst (IsInterface ds) head interface in
    subst (λ (o : Option Decl). IfSome o (λ (i : Decl). i.is_interface ≡ true)) found at_name

pub number_at : (ds : List Decl) (depths : List ℕ) (name : ℕ) (args : List Term) (t : Term) → t ≡ Named name args → number_for ds depths (head_of t) ≡ get_or depths (place_of ds name) 0
number_at ds depths name args t is = ap (λ (h : Head). number_for ds depths h) (ap head_of is ∙ head_of-Named name args)
