-- One step from an interface to those that it requires.
use Rattle.std.proofs.Common.{◌≡◌, ℕ, zero, suc, ◌+◌, List, [], ◌∷◌, length, refl, sym, ap, ◌∙◌, subst, Some, ◌⊎◌, inl, inr, ◌↔◌, Bool, true, false, cond, nat_eq, arith, eqb-true, eq-eqb}
use Rattle.std.specs.List.{slice_get}
use Rattle.vsd_terms.specs.declared.term.Term.{Term}
use Rattle.vsd_terms.specs.declared.term.Term.TheVariants.{Named}
use Rattle.vsd_terms.specs.Substitution.{subst_of}
use Rattle.vsd_ast.specs.declared.declarations.Decl.{Decl}
use Rattle.vsd_ast.specs.declared.declarations.Located.{Located}
use Rattle.vsd_ast.specs.Hierarchy.{IsHierarchy}
use Rattle.vsd_ast.specs.Lookup.{place_of}
use Rattle.vsd_lift.proofs.Forms.{Named-name, Named-arguments}
use Rattle.vsd_ways.specs.Found.{SomeOf}
use Rattle.vsd_ways.specs.Known.{MeetsFor, Way}
use Rattle.vsd_ways.specs.Leads.{LeadsTo, Path, Requires}
use Rattle.vsd_ways.specs.Ways.{IsWays}

-- the declaration at the place of a name has the name
pub place_of-name : (ds : List Decl) (name : ℕ) (x : Decl) → slice_get ds (place_of ds name) ≡ Some x → x.name ≡ name
unfolding place_of
place_of-name [] name x here = absurd cc
place_of-name (y ∷ ds) name x here = by (nat_eq y.name name) refl (place_of-name ds name x)
  where
    by : (same : Bool) → nat_eq y.name name ≡ same → (slice_get ds (place_of ds name) ≡ Some x → x.name ≡ name) → x.name ≡ name
    by true e later_on =
        let first : place_of (y ∷ ds) name ≡ 0 = ap (λ b. cond b 0 (place_of ds name + 1)) e in
        let is : y ≡ x = let both = sym (ap (slice_get (y ∷ ds)) first) ∙ here in cc in
        sym (ap (λ (d : Decl). d.name) is) ∙ eqb-true y.name name e
    by false e later_on =
        let later : place_of (y ∷ ds) name ≡ suc (place_of ds name) = ap (λ b. cond b 0 (place_of ds name + 1)) e ∙ omega arith in
        later_on (sym (ap (slice_get (y ∷ ds)) later) ∙ here)

-- a declaration's name is declared
named_there : (ds : List Decl) (i : ℕ) (x : Decl) → slice_get ds i ≡ Some x → (y : Decl) × (slice_get ds (place_of ds x.name) ≡ Some y)
unfolding place_of
named_there [] i x here = absurd cc
named_there (y ∷ ds) zero x here = (y, ap (slice_get (y ∷ ds)) (ap (λ b. cond b 0 (place_of ds x.name + 1)) (eq-eqb y.name x.name (ap (λ (d : Decl). d.name) (let is : y ≡ x = cc in is)))))
named_there (y ∷ ds) (suc j) x here = by (nat_eq y.name x.name) refl (named_there ds j x here)
  where
    by : (same : Bool) → nat_eq y.name x.name ≡ same → (z : Decl) × (slice_get ds (place_of ds x.name) ≡ Some z) → (z : Decl) × (slice_get (y ∷ ds) (place_of (y ∷ ds) x.name) ≡ Some z)
    by true e found = (y, ap (slice_get (y ∷ ds)) (ap (λ b. cond b 0 (place_of ds x.name + 1)) e))
    by false e found =
        let later : place_of (y ∷ ds) x.name ≡ suc (place_of ds x.name) = ap (λ b. cond b 0 (place_of ds x.name + 1)) e ∙ omega arith in
        (found.0, ap (slice_get (y ∷ ds)) later ∙ found.1)

-- a declaration is at the place of its name
pub place_of-own : (ds : List Decl) (depths : List ℕ) (i : ℕ) (x : Decl) → IsHierarchy ds depths → slice_get ds i ≡ Some x → slice_get ds (place_of ds x.name) ≡ Some x
place_of-own ds depths i x lawful here =
    let found = named_there ds i x here in
    let same : place_of ds x.name ≡ i = lawful.distinct (place_of ds x.name) i found.0 x found.1 here (place_of-name ds x.name found.0 found.1) in
    ap (slice_get ds) same ∙ here

-- a type leads to the owner where it is the owner, or where an interface that its declaration names leads to it
pub leads-step : (ds : List Decl) (owner : Term) (name : ℕ) (args : List Term) (x : Decl) → slice_get ds (place_of ds name) ≡ Some x → LeadsTo ds (Named name args) owner ↔ ((Named name args ≡ owner) ⊎ SomeOf (λ (i : Located). LeadsTo ds (subst_of args i.term) owner) x.interfaces)
leads-step ds owner name args x declared = (λ way. by way.0 way.1, back)
  where
    by : (n : ℕ) → Path ds n (Named name args) owner → (Named name args ≡ owner) ⊎ SomeOf (λ (i : Located). LeadsTo ds (subst_of args i.term) owner) x.interfaces
    by zero is = inl is
    by (suc n) path =
        let r : Requires ds (Named name args) path.0 = path.1.0 in
        let names : name ≡ r.name = Named-name name r.name args r.args r.is in
        let same_args : args ≡ r.args = Named-arguments name r.name args r.args r.is in
        let same : r.declaration ≡ x = let both = sym r.declared ∙ ap (λ (k : ℕ). slice_get ds (place_of ds k)) (sym names) ∙ declared in cc in
        let up : path.0 ≡ subst_of args r.required.element.term = r.required.has ∙ ap (λ (l : List Term). subst_of l r.required.element.term) (sym same_args) in
        inr (record {
          place = r.required.place;
          element = r.required.element;
          there = ap (λ (d : Decl). slice_get d.interfaces r.required.place) (sym same) ∙ r.required.there;
          has = (n, subst (λ (u : Term). Path ds n u owner) up path.1.1);
        })

    back : (Named name args ≡ owner) ⊎ SomeOf (λ (i : Located). LeadsTo ds (subst_of args i.term) owner) x.interfaces → LeadsTo ds (Named name args) owner
    back (inl is) = (0, is)
    back (inr s) = (
      suc s.has.0,
      (
        subst_of args s.element.term,
        (
          record {
            name = name;
            args = args;
            is = refl;
            declaration = x;
            declared = declared;
            required = record { place = s.place; element = s.element; there = s.there; has = refl };
          },
          s.has.1,
        ),
      ),
    )

-- what the ways of an interface tell of a type of its name
pub leads-named : (ds : List Decl) (owners : List Term) (o : ℕ) (owner : Term) (name : ℕ) (args : List Term) (x : Decl) (ways : List Way) → slice_get owners o ≡ Some owner → slice_get ds (place_of ds name) ≡ Some x → IsWays ds owners x ways → length args ≡ length x.params → MeetsFor ways o args ↔ LeadsTo ds (Named name args) owner
leads-named ds owners o owner name args x ways asked declared are long =
    subst (λ (k : ℕ). MeetsFor ways o args ↔ LeadsTo ds (Named k args) owner) (place_of-name ds name x declared) (are.exact o owner asked args long)
