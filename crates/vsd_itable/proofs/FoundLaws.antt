-- What implements a method of an interface is declared by the type or one above it.
use Rattle.std.proofs.Common.{◌≡◌, ℕ, ◌+◌, ◌<◌, ◌≤◌, ◌&&◌, Bool, true, false, if◌then◌else◌, IfSome, All, List, [], ◌∷◌, length, Option, Some, None, refl, sym, ap, ◌∙◌, subst, arith}
use Rattle.std.specs.List.{position_from, slice_get}
use Rattle.std.specs.Option.{option_eq, option_map, option_or}
use Rattle.std.specs.Prelude.{nat_eq, bytes_eq}
use Rattle.std.proofs.lemmas.List.Elements.{All-head, All-tail}
use Rattle.vsd_terms.specs.declared.term.Term.{Term}
use Rattle.vsd_terms.specs.Equality.{term_eq}
use Rattle.vsd_terms.specs.Substitution.{subst_of}
use Rattle.vsd_ast.specs.declared.declarations.Decl.{Decl}
use Rattle.vsd_ast.specs.declared.declarations.Implementer.{Implementer}
use Rattle.vsd_ast.specs.declared.declarations.Implementer.TheVariants.{Own, Named}
use Rattle.vsd_ast.specs.declared.declarations.Method.{Method}
use Rattle.vsd_ast.specs.declared.declarations.Override.{Override}
use Rattle.vsd_ast.specs.Lookup.{Head, named, parameter, built_in, head_of, declared}
use Rattle.vsd_ast.specs.WellFormed.{IsDeclaration, IsImplementer, IsOverride}
use Rattle.vsd_types.specs.Types.{args_of, declaration_of, declaration_of_head}
use Rattle.vsd_types.proofs.Declared.{declared-All}
use Rattle.vsd_slots.specs.Implementation.{Found, by_name, by_override, found_in, has, implementation, nearest, where_has}
use Rattle.vsd_interfaces.specs.Lineage.{Level}
use Rattle.vsd_methods.specs.Methods.{first_given, given_by, gives, methods_in, naming, offering, offers_at, overrides_in, overriding, same_signature, slot_of}
use Rattle.vsd_slots.specs.Refusals.{method_count}
use Rattle.vsd_methods.proofs.SearchLaws.{position-inside}

same_some : {A : Type 0} {x y : A} → Some x ≡ Some y → x ≡ y
same_some e = cc

module _ (ds : List Decl) (names : ℕ) (well : All (IsDeclaration names) ds) where
  -- the method is one of those of its class
  abbrev IsCounted : Option Found → Type 0
  IsCounted o = (f : Found) → o ≡ Some f → f.method < method_count ds f.class

  abbrev IsInside : Term → Option ℕ → Type 0
  IsInside t o = (p : ℕ) → o ≡ Some p → p < method_count ds t

  found-counted : (t : Term) (place : Option ℕ) → IsInside t place → IsCounted (found_in t place)
  found-counted t None inside f is = absurd cc
  found-counted t (Some p) inside f is =
      let same : record { class = t; method = p } ≡ f = cc in
      subst (λ (g : Found). g.method < method_count ds g.class) same (inside p refl)

  or-counted : (a b : Option Found) → IsCounted a → IsCounted b → IsCounted (option_or a b)
  or-counted None b of_a of_b f is = of_b f is
  or-counted (Some x) b of_a of_b f is = of_a f is

  if-counted : (b : Bool) (o : Option Found) → IsCounted o → IsCounted (if b then o else None)
  if-counted true o of f is = of f is
  if-counted false o of f is = absurd cc

  position-counted : {A : Type 0} (test : A → Bool) (xs : List A) (o : Option ℕ) (p : ℕ) → o ≡ position_from test 0 xs → o ≡ Some p → p < length xs
  position-counted test xs o p is at = subst (λ (q : Option ℕ). IfSome q (λ k. k < length xs)) at (position-inside test xs o is)

  naming-inside : (i t : Term) (m : ℕ) → IsInside t (naming ds i m t)
  naming-inside i t m = by (slice_get (methods_in (declaration_of ds i)) m)
    where
      by : (o : Option Method) → IsInside t (offering ds i t o)
      by None p is = absurd cc
      by (Some x) p is = position-counted (offers_at (args_of i) x (args_of t)) (methods_in (declaration_of ds t)) (offering ds i t (Some x)) p refl is

  given-inside : (methods : List Method) (params names : ℕ) (body : Implementer) (p : ℕ) → IsImplementer names params (length methods) body → given_by methods body ≡ Some p → p < length methods
  given-inside methods params names (Own place) p written is = let same : place ≡ p = same_some is in subst (λ k. k < length methods) same written
  given-inside methods params names (Named owner name signature) p written is =
      position-counted (λ (q : Method). bytes_eq q.name name && same_signature q.signature signature) methods (given_by methods (Named owner name signature)) p refl is

  if-some : {A : Type 0} (b : Bool) (o : Option A) (x : A) → (if b then o else None) ≡ Some x → o ≡ Some x
  if-some true o x is = is
  if-some false o x is = absurd cc

  gives-inside : (i t : Term) (m : ℕ) (x : Decl) (o : Override) (p : ℕ) → declaration_of ds t ≡ Some x → IsOverride names (length x.params) (length x.methods) o → gives ds i m t o ≡ Some p → p < length x.methods
  gives-inside i t m x o p at written is =
      let methods = methods_in (declaration_of ds t) in
      let given : given_by methods o.body ≡ Some p = if-some (term_eq (subst_of (args_of t) o.owner) i && option_eq nat_eq (slot_of ds methods o) (Some m)) (given_by methods o.body) p is in
      given-inside x.methods (length x.params) names o.body p written.body (ap (λ (d : Option Decl). given_by (methods_in d) o.body) (sym at) ∙ given)

  first-inside : (i t : Term) (m : ℕ) (x : Decl) (p : ℕ) → declaration_of ds t ≡ Some x → (os : List Override) → All (IsOverride names (length x.params) (length x.methods)) os → first_given (gives ds i m t) os ≡ Some p → p < length x.methods
  first-inside i t m x p at [] all is = absurd cc
  first-inside i t m x p at (o ∷ os) all is =
      by (gives ds i m t o) refl is (first-inside i t m x p at os (All-tail (IsOverride names (length x.params) (length x.methods)) o os all))
    where
      by : (g : Option ℕ) → gives ds i m t o ≡ g → option_or g (first_given (gives ds i m t) os) ≡ Some p → (first_given (gives ds i m t) os ≡ Some p → p < length x.methods) → p < length x.methods
      by None one e rest = rest e
      by (Some q) one e rest = gives-inside i t m x o p at (All-head (IsOverride names (length x.params) (length x.methods)) o os all) (one ∙ e)

  -- a declared type's declaration is well formed
  declared-well : (h : Head) (x : Decl) → declaration_of_head ds h ≡ Some x → IsDeclaration names x
  declared-well (named name) x is = declared-All (IsDeclaration names) ds name x well is
  declared-well (parameter p) x is = absurd cc
  declared-well (built_in b) x is = absurd cc

  overriding-inside : (i t : Term) (m : ℕ) → IsInside t (overriding ds i m t)
  overriding-inside i t m p is = by (declaration_of ds t) refl
    where
      by : (o : Option Decl) → declaration_of ds t ≡ o → p < length (methods_in o)
      by None at = absurd (let e = ap (λ (d : Option Decl). first_given (gives ds i m t) (overrides_in d)) (sym at) ∙ is in cc)
      by (Some x) at =
          let e = ap (λ (d : Option Decl). first_given (gives ds i m t) (overrides_in d)) (sym at) ∙ is in
          first-inside i t m x p at x.overrides (declared-well (head_of t) x at).overrides e

  nearest-counted : (i : Term) (m : ℕ) (levels : List Level) → IsCounted (nearest ds i m levels)
  nearest-counted i m [] f is = absurd cc
  nearest-counted i m (l ∷ above) f is = or-counted (by_name ds i m l) (nearest ds i m above) (found-counted l.type (naming ds i m l.type) (naming-inside i l.type m)) (nearest-counted i m above) f is

  -- what implements a method is one of the methods of its class
  pub implementation-counted : (i : Term) (m : ℕ) (levels : List Level) → (f : Found) → implementation ds i m levels ≡ Some f → f.method < method_count ds f.class
  implementation-counted i m [] f is = absurd cc
  implementation-counted i m (l ∷ above) f is =
      let named = where_has ds i m l (by_name ds i m l) in
      let far = where_has ds i m l (nearest ds i m above) in
      or-counted (by_override ds i m l) (option_or named (option_or (implementation ds i m above) far)) (found-counted l.type (overriding ds i m l.type) (overriding-inside i l.type m))
      (or-counted named (option_or (implementation ds i m above) far) (if-counted (has l i) (by_name ds i m l) (found-counted l.type (naming ds i m l.type) (naming-inside i l.type m)))
      (or-counted (implementation ds i m above) far (implementation-counted i m above) (if-counted (has l i) (nearest ds i m above) (nearest-counted i m above)))) f is
