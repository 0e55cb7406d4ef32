-- Which types have no base: `object` and the interfaces.
use Rattle.std.proofs.Common.{◌≡◌, ℕ, Bool, true, false, ◌⊎◌, inl, inr, List, length, map, Option, Some, None, IsTrue, if◌then◌else◌, refl, sym, ap, ◌∙◌, arith, ◌↔◌}
use Rattle.std.specs.Cmp.{first_so}
use Rattle.std.specs.Option.{option_and_then, option_to_list}
use Rattle.vsd_terms.specs.declared.term.Builtin.{Builtin as Kind}
use Rattle.vsd_terms.specs.declared.term.Builtin.TheVariants.{Object}
use Rattle.vsd_terms.specs.declared.term.Term.{Term}
use Rattle.vsd_terms.specs.declared.term.Term.TheFolds.{fold-roll-Term}
use Rattle.vsd_terms.specs.declared.term.Term.TheOpen as layer
use Rattle.vsd_terms.specs.declared.term.Term.TheVariants.{Named, Builtin, rolls-Builtin}
use Rattle.vsd_terms.proofs.SubstitutionLemmas.{parameters_of-Param}
use Rattle.vsd_ast.specs.declared.declarations.Decl.{Decl}
use Rattle.vsd_ast.specs.Lookup.{Head, named, built_in, head_of, head_step, declared, takes, is_lawful, all_true}
use Rattle.vsd_types.specs.Types.{IsClosedType, args_of, base_of, base_of_head, builtin_base, declaration_of_head, declared_base, is_declared_interface, is_interface_type, object, written_base}
use Rattle.vsd_types.proofs.Declared.{head_of-Named, is_lawful-Named, term_cases}

pub head_of-Builtin : (b : Kind) → head_of (Builtin b) ≡ built_in b
head_of-Builtin b = ap head_of (sym (rolls-Builtin b)) ∙ fold-roll-Term Head head_step (layer.Builtin b)

-- a declaration that takes arguments is there
taken : (d : Option Decl) (n : ℕ) → takes d n ≡ true → (x : Decl) × (d ≡ Some x)
taken None n is = absurd cc
taken (Some x) n is = (x, refl)

pub lawful-declared : (ds : List Decl) (name : ℕ) (args : List Term) → is_lawful ds (Named name args) ≡ true → (x : Decl) × (declared ds name ≡ Some x)
lawful-declared ds name args lawful =
    let n = length (map (is_lawful ds) args) in
    taken (declared ds name) n (first_so (takes (declared ds name) n) (all_true (map (is_lawful ds) args)) (sym (is_lawful-Named ds name args) ∙ lawful))

object_alone : (b : Kind) → builtin_base b ≡ None → b ≡ Object
object_alone Object none = refl
object_alone _ none = absurd cc

abbrev NoBase : List Decl → Term → Type 0
NoBase ds t = IsClosedType ds t → (base_of ds t ≡ None) ↔ ((t ≡ object) ⊎ IsTrue (is_interface_type ds t))

declared-no_base : (args : List Term) (x : Decl) → (declared_base args x ≡ None) ↔ (x.is_interface ≡ true)
declared-no_base args x = by x.is_interface
  where
    by : (b : Bool) → ((if b then None else Some (written_base args x.base)) ≡ None) ↔ (b ≡ true)
    by true = (λ _. refl, λ _. refl)
    by false = (λ e. absurd cc, λ e. absurd cc)

no_base-Named : (ds : List Decl) (name : ℕ) (args : List Term) → NoBase ds (Named name args)
no_base-Named ds name args is =
    let t = Named name args in
    let found = lawful-declared ds name args is.lawful in
    let head = head_of-Named name args in
    let base : base_of ds t ≡ declared_base (args_of t) found.0 = ap (base_of_head ds (args_of t)) head ∙ ap (option_and_then (declared_base (args_of t))) found.1 in
    let interface : is_interface_type ds t ≡ found.0.is_interface = ap (λ h. is_declared_interface (declaration_of_head ds h)) head ∙ ap is_declared_interface found.1 in
    let both = declared-no_base (args_of t) found.0 in (
      λ none. inr (interface ∙ both.0 (sym base ∙ none)),
      λ which. elim which [
        | inl same ↦ let e : named name ≡ built_in Object = sym head ∙ ap head_of same ∙ head_of-Builtin Object in absurd cc
        | inr of ↦ base ∙ both.1 (sym interface ∙ of)
      ],
    )

no_base-Builtin : (ds : List Decl) (b : Kind) → NoBase ds (Builtin b)
no_base-Builtin ds b is =
    let t = Builtin b in
    let head = head_of-Builtin b in
    let base : base_of ds t ≡ builtin_base b = ap (base_of_head ds (args_of t)) head in
    let interface : is_interface_type ds t ≡ false = ap (λ h. is_declared_interface (declaration_of_head ds h)) head in (
      λ none. inl (ap Builtin (object_alone b (sym base ∙ none))),
      λ which. elim which [
        | inl same ↦ let e : built_in b ≡ built_in Object = sym head ∙ ap head_of same ∙ head_of-Builtin Object in let k : b ≡ Object = cc in base ∙ ap builtin_base k
        | inr of ↦ absurd cc
      ],
    )

pub no_base : (ds : List Decl) (t : Term) → NoBase ds t
no_base ds = term_cases (NoBase ds) (no_base-Named ds) (λ place is. absurd (omega (arith, parameters_of-Param place, is.closed))) (no_base-Builtin ds)

-- what a count of bases says
pub count-None : (o : Option Term) (n : ℕ) → n ≡ length (option_to_list o) → n ≡ 0 → o ≡ None
count-None None n count none = refl
count-None (Some x) n count none = absurd (omega (arith, count, none))

pub count-Some : (o : Option Term) (n : ℕ) → n ≡ length (option_to_list o) → ¬ (n ≡ 0) → (x : Term) × (o ≡ Some x)
count-Some None n count some = absurd (some count)
count-Some (Some x) n count some = (x, refl)
