-- An override means one method of its owner at most, and one implementing method.
use Rattle.std.proofs.Common.{◌≡◌, ℕ, ◌≤◌, List, length, get_or, Option, Some, None, MatchOption, IsTrue, true, inl, inr, refl, sym, ap, ◌∙◌, subst}
use Rattle.std.specs.Option.{IsSomeAnd}
use Rattle.std.specs.List.{slice_get}
use Rattle.std.proofs.lemmas.Bool.{cases_order}
use Rattle.std.proofs.lemmas.Option.{get_or_from_slice_get}
use Rattle.vsd_terms.specs.declared.term.Term.{Term}
use Rattle.vsd_terms.specs.declared.term.Term.TheVariants as term
use Rattle.vsd_terms.specs.Text.{names_of}
use Rattle.vsd_ast.specs.Lookup.{is_lawful, place_of}
use Rattle.vsd_ast.specs.WellFormed.{IsDeclaration}
use Rattle.vsd_ast.specs.declared.declarations.Decl.{Decl}
use Rattle.vsd_ast.specs.declared.declarations.Implementer.{Implementer}
use Rattle.vsd_ast.specs.declared.declarations.Implementer.TheVariants.{Own, Named}
use Rattle.vsd_ast.specs.declared.declarations.Method.{Method}
use Rattle.vsd_ast.specs.declared.declarations.Override.{Override}
use Rattle.vsd_ast.specs.declared.declarations.Signature.{Signature}
use Rattle.vsd_lift.specs.Settled.{IsSettled}
use Rattle.vsd_lift.proofs.Forms.{Named-name, Named-arguments}
use Rattle.vsd_lift.proofs.PlaceLemmas.{All-at}
use Rattle.vsd_ways.proofs.SettledLemmas.{target}
use Rattle.vsd_overrides.specs.Implements.{Agrees, IsBody, Means}
use Rattle.vsd_overrides.specs.Matched.{IsFirstWith, IsMeant, IsNamed}
use Rattle.vsd_overrides.specs.declared.target.Target.{Target}

module _ {A : Type 0} (P : A → Type 0) (xs : List A) where
  pub first_place : (i j : ℕ) (x y : A) → IsFirstWith P xs i x → IsFirstWith P xs j y → i ≡ j
  first_place i j x y a b =
      elim (cases_order i j) [
        | inl same ↦ same
        | inr other ↦ elim other [
          | inl lt ↦ absurd (b.first (record { place = i; before = lt; element = x; there = a.there; has = a.has }))
          | inr gt ↦ absurd (a.first (record { place = j; before = gt; element = y; there = b.there; has = b.has }))
        ]
      ]

  pub first_element : (i j : ℕ) (x y : A) → IsFirstWith P xs i x → IsFirstWith P xs j y → x ≡ y
  first_element i j x y a b =
      let both = sym a.there ∙ ap (slice_get xs) (first_place i j x y a b) ∙ b.there in cc

-- one method implements
pub body_only : (x : Decl) (b : Implementer) (i j : ℕ) (m n : Method) → IsBody x b i m → IsBody x b j n → m ≡ n
body_only x (Own own) i j m n a b =
    let both = sym a.1 ∙ ap (slice_get x.methods) (a.0 ∙ sym b.0) ∙ b.1 in cc
body_only x (Named owner name signature) i j m n a b =
    first_element (IsNamed name signature) x.methods i j m n a.1 b.1

-- one method of the owner's interface is meant
pub agrees_slot : (x : Decl) (o : Override) (args : List Term) (interface : Decl) (t u : Target) → Agrees x o args interface t → Agrees x o args interface u → t.slot ≡ u.slot
agrees_slot x o args interface t u a b =
    let same : a.implementing ≡ b.implementing = body_only x o.body t.body u.body a.implementing b.implementing a.body b.body in
    let P : Signature → Type 0 = λ s. IsFirstWith (IsMeant o args s) interface.methods t.slot a.implemented in
    first_place (IsMeant o args b.implementing.signature) interface.methods t.slot u.slot a.implemented b.implemented
    (subst P (ap (λ (m : Method). m.signature) same) a.slot) b.slot

pub means_slot : (ds : List Decl) (x : Decl) (o : Override) (t u : Target) → Means ds x o t → Means ds x o u → t.slot ≡ u.slot
means_slot ds x o t u a b =
    let owners : term.Named a.name a.args ≡ term.Named b.name b.args = sym a.owner ∙ b.owner in
    let names : a.name ≡ b.name = Named-name a.name b.name a.args b.args owners in
    let same_args : a.args ≡ b.args = Named-arguments a.name b.name a.args b.args owners in
    let interfaces : a.interface ≡ b.interface = let both = sym a.declared ∙ ap (λ (n : ℕ). slice_get ds (place_of ds n)) names ∙ b.declared in cc in
    let P : List Term → Decl → Type 0 = λ args i. Agrees x o args i t in
    agrees_slot x o b.args b.interface t u (subst (λ (i : Decl). P b.args i) interfaces (subst (λ (l : List Term). P l a.interface) same_args a.methods)) b.methods

-- the implementing method is one of the declaration's
pub body_there : (x : Decl) (b : Implementer) (place : ℕ) (m : Method) → IsBody x b place m → slice_get x.methods place ≡ Some m
body_there x (Own own) place m is = is.1
body_there x (Named owner name signature) place m is = is.1.there

-- what an override says is of the declaration of its owner
pub means_agrees : (ds : List Decl) (x : Decl) (o : Override) (t : Target) (name : ℕ) (args : List Term) (interface : Decl) → o.owner ≡ term.Named name args → slice_get ds (place_of ds name) ≡ Some interface → Means ds x o t → Agrees x o args interface t × (interface.is_interface ≡ true)
means_agrees ds x o t name args interface owner declared m =
    let owners : term.Named m.name m.args ≡ term.Named name args = sym m.owner ∙ owner in
    let names : m.name ≡ name = Named-name m.name name m.args args owners in
    let same_args : m.args ≡ args = Named-arguments m.name name m.args args owners in
    let interfaces : m.interface ≡ interface = let both = sym m.declared ∙ ap (λ (n : ℕ). slice_get ds (place_of ds n)) names ∙ declared in cc in
    let P : List Term → Decl → Type 0 = λ l i. Agrees x o l i t in
    (subst (λ (i : Decl). P args i) interfaces (subst (λ (l : List Term). P l m.interface) same_args m.methods), ap (λ (i : Decl). i.is_interface) (sym interfaces) ∙ m.kind)

-- the declaration that the code reads for an owner
pub record IsRead (ds : List Decl) (places : List ℕ) (name : ℕ) (args : List Term) (x : Decl) : Type 0 where
  pub place : get_or places name 0 ≡ place_of ds name
  pub declared : slice_get ds (place_of ds name) ≡ Some x
  pub written : IsDeclaration (length places) x
  pub long : length args ≡ length x.params

pub read_owner : (ds : List Decl) (places depths : List ℕ) (owner : Term) (name : ℕ) (args : List Term) (d : Decl) → IsSettled ds places depths → owner ≡ term.Named name args → names_of owner ≤ length places → IsTrue (is_lawful ds owner) → IsRead ds places name args (get_or ds (get_or places name 0) d)
read_owner ds places depths owner name args d settled is few lawful =
    let w = target ds places depths owner name args settled is few lawful in
    let read : get_or ds (get_or places name 0) d ≡ w.declaration = ap (λ (n : ℕ). get_or ds n d) w.place ∙ get_or_from_slice_get ds (place_of ds name) w.declaration d w.declared_at in
    subst (IsRead ds places name args) (sym read) (record { place = w.place; declared = w.declared_at; written = All-at (IsDeclaration (length places)) ds (place_of ds name) w.declaration w.declared_at settled.each; long = w.long })

-- an answer that is there where another is
pub match_map : {A : Type 0} (N M : Type 0) (P Q : A → Type 0) (r : Option A) → (N → M) → ((a : A) → P a → Q a) → MatchOption r N P → MatchOption r M Q
match_map N M P Q None none some w = none w
match_map N M P Q (Some a) none some w = some a w

-- the entry at a place
pub entry_at : {A : Type 0} (P : A → Type 0) (xs : List A) (i : ℕ) (d : A) → IsSomeAnd (slice_get xs i) P → P (get_or xs i d)
entry_at {A = A} P xs i d w = by (slice_get xs i) refl w
  where
    by : (o : Option A) → slice_get xs i ≡ o → IsSomeAnd o P → P (get_or xs i d)
    by None e w = absurd w
    by (Some x) e w = subst P (sym (get_or_from_slice_get xs i x d e)) w
