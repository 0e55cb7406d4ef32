-- The declaration of a closed type, and what overrides give, by numbers.
use Rattle.std.proofs.Common.{◌≡◌, ℕ, ◌<◌, Bool, true, false, ◌&&◌, nat_eq, if◌then◌else◌, List, length, map, get_or, All, Option, Some, None, Contains, refl, sym, ap, ◌∙◌, subst, arith}
use Rattle.std.specs.List.{position_from, slice_get}
use Rattle.std.specs.Option.{option_eq}
use Rattle.std.proofs.lemmas.List.{length-map}
use Rattle.std.proofs.lemmas.List.Elements.{Contains-get_or}
use Rattle.std.proofs.lemmas.Option.{slice_get_within}
use Rattle.vsd_terms.specs.declared.term.Term.{Term}
use Rattle.vsd_terms.specs.declared.term.Term.TheVariants.{Named}
use Rattle.vsd_terms.specs.Equality.{term_eq, term_eq-Decides}
use Rattle.vsd_terms.specs.Substitution.{subst_of}
use Rattle.vsd_terms.proofs.SubstitutionLemmas.{subst_of-Named}
use Rattle.vsd_ast.specs.declared.declarations.Decl.{Decl}
use Rattle.vsd_ast.specs.declared.declarations.Override.{Override}
use Rattle.vsd_ast.specs.Lookup.{named, head_of, is_lawful, place_of}
use Rattle.vsd_ast.specs.WellFormed.{IsDeclaration}
use Rattle.vsd_types.specs.Numbers.{IsDistinct}
use Rattle.vsd_types.specs.TypeList.{TypeList}
use Rattle.vsd_types.specs.Types.{IsClosedType, args_of, declaration_of, declaration_of_head, object, place_of_head, type_at}
use Rattle.vsd_types.proofs.Declared.{args_of-Named, declared-All, declared-place, head_of-Named, lawful-params}
use Rattle.vsd_methods.specs.Arguments.{IsDeclared}
use Rattle.vsd_methods.specs.Givens.{IsGiven, IsGivenFor}
use Rattle.vsd_methods.specs.Methods.{given_by, given_method, gives, is_meant, methods_in, slot_of}
use Rattle.vsd_methods.specs.declared.overriding.Given.{Given}
use Rattle.vsd_interfaces.proofs.NumberLaws.{number-type, same_test}

pub declared-is : (c : TypeList) (t : Term) (name : ℕ) (args : List Term) (x : Decl) (place : ℕ) → t ≡ Named name args → Some place ≡ place_of_head c.decls.list (head_of t) → place < length c.decls.list → x ≡ get_or c.decls.list place x → IsClosedType c.decls.list t → All (IsDeclaration (length c.decls.names)) c.decls.list → IsDeclared c t x args
declared-is c t name args x place shape is within read closed written =
    let ds = c.decls.list in
    let head : head_of t ≡ named name = ap head_of shape ∙ head_of-Named name args in
    let at : place ≡ place_of ds name = let e = is ∙ ap (place_of_head ds) head in cc in
    let inside : place_of ds name < length ds = omega (arith, at, within) in
    let found = declared-place ds name x inside ∙ ap Some (ap (λ k. get_or ds k x) (sym at) ∙ sym read) in
    record {
      declaration = ap (declaration_of_head ds) head ∙ found;
      arguments = ap args_of shape ∙ args_of-Named name args;
      long = sym (lawful-params ds name args x (ap (is_lawful ds) (sym shape) ∙ closed.lawful) found);
      written = declared-All (IsDeclaration (length c.decls.names)) ds name x written found;
    }

-- an override of an interface that isn't listed gives nothing for one that is
pub gives-unlisted : (ds : List Decl) (types : List Term) (t : Term) (o : Override) (i m : ℕ) → i < length types → (Contains types (subst_of (args_of t) o.owner) → ⊥) → gives ds (type_at types i) m t o ≡ None
gives-unlisted ds types t o i m within unlisted =
    let owner = subst_of (args_of t) o.owner in
    let slot = option_eq nat_eq (slot_of ds (methods_in (declaration_of ds t)) o) (Some m) in
    let found = given_by (methods_in (declaration_of ds t)) o.body in
    let M : Bool → Type 0 = λ b. term_eq owner (type_at types i) ≡ b → (if b && slot then found else None) ≡ None in
    let both : M (term_eq owner (type_at types i)) = elim (term_eq owner (type_at types i)) as M [
      | true ↦ (λ is. absurd (unlisted (subst (Contains types) (sym ((term_eq-Decides owner (type_at types i)).0 is)) (Contains-get_or types i object within))))
      | false ↦ (λ is. refl)
    ] in
    both refl

-- the interface of an override, at the arguments of the class, with its arguments
module _ (types : List Term) (args : List Term) (o : Override) (name : ℕ) (inner : List Term) (n : ℕ) (shape : o.owner ≡ Named name inner) (here : slice_get types n ≡ Some (subst_of args o.owner)) where
  owner_type : type_at types n ≡ Named name (map (subst_of args) inner)
  owner_type = number-type types n (subst_of args o.owner) here ∙ ap (subst_of args) shape ∙ subst_of-Named args name inner

  pub owner-long : length inner ≡ length (args_of (type_at types n))
  owner-long = sym (ap (λ t. length (args_of t)) owner_type ∙ ap length (args_of-Named name (map (subst_of args) inner)) ∙ length-map inner (subst_of args))

  owner_declaration : (ds : List Decl) → declaration_of ds o.owner ≡ declaration_of ds (type_at types n)
  owner_declaration ds = ap (declaration_of_head ds) (ap head_of shape ∙ head_of-Named name inner ∙ sym (ap head_of owner_type ∙ head_of-Named name (map (subst_of args) inner)))

  pub gives-listed : (ds : List Decl) (t : Term) (given : Option Given) → IsDistinct types → args_of t ≡ args → IsGivenFor ds (type_at types n) (methods_in (declaration_of ds t)) o inner n given → IsGiven ds types t o given
  gives-listed ds t given distinct are meant i m within =
      let methods = methods_in (declaration_of ds t) in
      let inside = slice_get_within types n (subst_of args o.owner) here in
      let test : term_eq (subst_of (args_of t) o.owner) (type_at types i) ≡ nat_eq n i = ap (λ a. term_eq (subst_of a o.owner) (type_at types i)) are ∙ ap (λ u. term_eq u (type_at types i)) (sym (number-type types n (subst_of args o.owner) here)) ∙ sym (same_test types distinct n i inside within) in
      let owner_args : args_of o.owner ≡ inner = ap args_of shape ∙ args_of-Named name inner in
      let slot : slot_of ds methods o ≡ position_from (is_meant o inner (given_method methods o.body)) 0 (methods_in (declaration_of ds (type_at types n))) = ap (λ a. position_from (is_meant o a (given_method methods o.body)) 0 (methods_in (declaration_of ds o.owner))) owner_args ∙ ap (λ d. position_from (is_meant o inner (given_method methods o.body)) 0 (methods_in d)) (owner_declaration ds) in
      ap (λ b. if b && option_eq nat_eq (slot_of ds methods o) (Some m) then given_by methods o.body else None) test
      ∙ ap (λ s. if nat_eq n i && option_eq nat_eq s (Some m) then given_by methods o.body else None) slot
      ∙ sym (meant i m)
