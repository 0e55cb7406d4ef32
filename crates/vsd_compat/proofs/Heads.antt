-- What a type's declaration says of it: whether it has a base, is a reference type, and how many arguments it has.
use Rattle.std.proofs.Common.{◌≡◌, ℕ, Bool, true, false, not, List, [], length, Option, Some, None, IfSome, All, Contains, refl, sym, ap, ◌∙◌, subst, arith}
use Rattle.std.specs.Option.{option_and_then}
use Rattle.std.proofs.lemmas.Bool.{false≢true}
use Rattle.std.proofs.lemmas.List.Elements.{All-contains, All-nil, All-map, All-same}
use Rattle.vsd_terms.specs.Substitution.{subst_of}
use Rattle.vsd_terms.specs.declared.term.Builtin.{Builtin as Kind}
use Rattle.vsd_terms.specs.declared.term.Builtin.TheVariants.{Object, String, ValueType}
use Rattle.vsd_terms.specs.declared.term.Term.{Term}
use Rattle.vsd_terms.specs.declared.term.Term.TheFolds.{fold-roll-Term}
use Rattle.vsd_terms.specs.declared.term.Term.TheOpen as layer
use Rattle.vsd_terms.specs.declared.term.Term.TheViews.{out-roll-Term}
use Rattle.vsd_terms.specs.declared.term.Term.TheVariants.{Named, Param, Builtin, rolls-Param}
use Rattle.vsd_ast.specs.Lookup.{Head, named, parameter, built_in, declared, head_of, head_step, is_lawful, value_base}
use Rattle.vsd_ast.specs.declared.declarations.Decl.{Decl}
use Rattle.vsd_ast.specs.declared.declarations.Located.{Located}
use Rattle.vsd_types.specs.Types.{args_of, arguments_in, base_of, base_of_head, builtin_base, declaration_of, declaration_of_head, declared_base, declared_interfaces, is_declared_interface, is_declared_reference, is_interface_type, is_reference_head, is_reference_type, named_of, object, written_base}
use Rattle.vsd_types.proofs.BaseLemmas.{head_of-Builtin}
use Rattle.vsd_types.proofs.Declared.{args_of-Builtin, args_of-Named, head_of-Named, lawful-params, term_cases}
use Rattle.vsd_types.proofs.LawfulLemmas.{closed_type-Builtin, lawful-args, lawful-subst}
use Rattle.vsd_compat.specs.Compatibility.{AreReferences, AreSameInterface}
use Rattle.vsd_compat.proofs.Orderly.{AreOrderly, IsOrderly}

head_of-Param : (place : ℕ) → head_of (Param place) ≡ parameter place
head_of-Param place = ap head_of (sym (rolls-Param place)) ∙ fold-roll-Term Head head_step (layer.Param place)

args_of-Param : (place : ℕ) → args_of (Param place) ≡ []
args_of-Param place = ap args_of (sym (rolls-Param place)) ∙ ap arguments_in (out-roll-Term (layer.Param place))

module _ (ds : List Decl) where
  abbrev pub IsLawful : Term → Type 0
  IsLawful t = is_lawful ds t ≡ true

  -- ---- the declaration of an interface

  pub interface_declaration : (t : Term) → is_interface_type ds t ≡ true → (x : Decl) × (declaration_of ds t ≡ Some x) × (x.is_interface ≡ true)
  interface_declaration t interface = by (declaration_of ds t) refl interface
    where
      by : (o : Option Decl) → declaration_of ds t ≡ o → is_declared_interface o ≡ true → (x : Decl) × (declaration_of ds t ≡ Some x) × (x.is_interface ≡ true)
      by None is interface = absurd (false≢true interface)
      by (Some x) is interface = (x, is, interface)

  pub named_head : (h : Head) (x : Decl) → declaration_of_head ds h ≡ Some x → (name : ℕ) × (h ≡ named name) × (declared ds name ≡ Some x)
  named_head (named name) x is = (name, refl, is)
  named_head (parameter place) x is = absurd cc
  named_head (built_in b) x is = absurd cc

  pub interface-no_base : (t : Term) → is_interface_type ds t ≡ true → base_of ds t ≡ None
  interface-no_base t interface =
      let found = interface_declaration t interface in
      let head = named_head (head_of t) found.0 found.1 in
      ap (base_of_head ds (args_of t)) head.1 ∙ ap (option_and_then (declared_base (args_of t))) head.2 ∙ none found.0 found.2
    where
      none : (x : Decl) → x.is_interface ≡ true → declared_base (args_of t) x ≡ None
      none x is = rw is refl

  interface-reference : AreOrderly ds → (t : Term) → is_interface_type ds t ≡ true → is_reference_type ds t ≡ true
  interface-reference orderly t interface =
      let found = interface_declaration t interface in
      let head = named_head (head_of t) found.0 found.1 in
      let no_base = (orderly head.0 found.0 head.2).no_base found.2 in
      ap (is_reference_head ds) head.1 ∙ reference (declared ds head.0) found.0 head.2 no_base
    where
      reference : (o : Option Decl) (x : Decl) → o ≡ Some x → x.base ≡ None → is_declared_reference o ≡ true
      reference o x is none = ap is_declared_reference is ∙ ap (λ (b : Option Located). not (value_base b)) none

  -- either comes first
  pub turned_interface : (a b : Term) → AreSameInterface ds a b → AreSameInterface ds b a
  turned_interface a b same = record {
    interface = ap (λ h. is_declared_interface (declaration_of_head ds h)) (sym same.generic) ∙ same.interface;
    generic = sym same.generic;
  }

  pub same_interface-references : AreOrderly ds → (a b : Term) → AreSameInterface ds a b → AreReferences ds a b
  same_interface-references orderly a b same = record {
    first = interface-reference orderly a same.interface;
    second = interface-reference orderly b (turned_interface a b same).interface;
  }

  -- ---- `object`

  pub object-no_base : (b : Term) → base_of ds object ≡ Some b → ⊥
  object-no_base b is = let none : base_of ds object ≡ None = ap (base_of_head ds (args_of object)) (head_of-Builtin Object) in absurd cc

  pub object-names_nothing : (i : Term) → Contains (named_of ds object) i → ⊥
  object-names_nothing i has =
      let none : named_of ds object ≡ [] = ap (λ h. declared_interfaces (args_of object) (declaration_of_head ds h)) (head_of-Builtin Object) in
      let there = subst (λ l. Contains l i) none has in
      absurd (omega (arith, there.1))

  pub object-no_interface : is_interface_type ds object ≡ true → ⊥
  object-no_interface interface = false≢true (sym (ap (λ h. is_declared_interface (declaration_of_head ds h)) (head_of-Builtin Object)) ∙ interface)

  -- ---- the arguments of a lawful type

  abbrev Counts : Term → Type 0
  Counts t = (x : Decl) → IsLawful t → declaration_of ds t ≡ Some x → length (args_of t) ≡ length x.params

  -- it has as many as its declaration has parameters
  pub lawful-count : (t : Term) → Counts t
  lawful-count = term_cases Counts
      (λ name args x lawful is.
      let declared_as : declared ds name ≡ Some x = sym (ap (declaration_of_head ds) (head_of-Named name args)) ∙ is in
      ap length (args_of-Named name args) ∙ sym (lawful-params ds name args x lawful declared_as))
      (λ place x lawful is. let none : declaration_of ds (Param place) ≡ None = ap (declaration_of_head ds) (head_of-Param place) in absurd cc)
      (λ b x lawful is. let none : declaration_of ds (Builtin b) ≡ None = ap (declaration_of_head ds) (head_of-Builtin b) in absurd cc)

  abbrev HasLawfulArguments : Term → Type 0
  HasLawfulArguments t = IsLawful t → All IsLawful (args_of t)

  -- they are lawful
  pub lawful-arguments : (t : Term) → HasLawfulArguments t
  lawful-arguments = term_cases HasLawfulArguments
      (λ name args lawful. All-same IsLawful (args_of (Named name args)) args (args_of-Named name args) (lawful-args ds name args lawful))
      (λ place lawful. All-same IsLawful (args_of (Param place)) [] (args_of-Param place) (All-nil IsLawful))
      (λ b lawful. All-same IsLawful (args_of (Builtin b)) [] (args_of-Builtin b) (All-nil IsLawful))

  -- ---- what a lawful type leads to is lawful

  module _ (orderly : AreOrderly ds) where
    base-lawful : (args : List Term) → All IsLawful args → (h : Head) (b : Term) → base_of_head ds args h ≡ Some b → IsLawful b
    base-lawful args fit (named name) b is = by (declared ds name) refl is
      where
        written : (x : Decl) (o : Option Located) → IfSome o (λ (l : Located). IsLawful l.term) → IsLawful (written_base args o)
        written x None lawful = (closed_type-Builtin ds Object).lawful
        written x (Some l) lawful = lawful-subst ds args fit l.term lawful

        chosen : (x : Decl) (interface : Bool) → IsOrderly ds x → x.is_interface ≡ interface → declared_base args x ≡ Some b → IsLawful b
        chosen x true good is_one at = absurd cc
        chosen x false good is_one at =
            let here : declared_base args x ≡ Some (written_base args x.base) = rw is_one refl in
            let same : written_base args x.base ≡ b = cc in
            subst IsLawful same (written x x.base good.base)

        by : (o : Option Decl) → declared ds name ≡ o → option_and_then (declared_base args) o ≡ Some b → IsLawful b
        by None found at = absurd cc
        by (Some x) found at = chosen x x.is_interface (orderly name x found) refl at
    base-lawful args fit (parameter place) b is = absurd cc
    base-lawful args fit (built_in k) b is = by k is
      where
        by : (k : Kind) → builtin_base k ≡ Some b → IsLawful b
        by Object at = absurd cc
        by String at = let same : object ≡ b = cc in subst IsLawful same (closed_type-Builtin ds Object).lawful
        by ValueType at = let same : object ≡ b = cc in subst IsLawful same (closed_type-Builtin ds Object).lawful
        by _ at = let same : Builtin ValueType ≡ b = cc in subst IsLawful same (closed_type-Builtin ds ValueType).lawful

    pub lawful-base : (t b : Term) → IsLawful t → base_of ds t ≡ Some b → IsLawful b
    lawful-base t b lawful is = base-lawful (args_of t) (lawful-arguments t lawful) (head_of t) b is

    interfaces-lawful : (args : List Term) → All IsLawful args → (h : Head) → All IsLawful (declared_interfaces args (declaration_of_head ds h))
    interfaces-lawful args fit (named name) = by (declared ds name) refl
      where
        by : (o : Option Decl) → declared ds name ≡ o → All IsLawful (declared_interfaces args o)
        by None found = All-nil IsLawful
        by (Some x) found = All-map IsLawful (λ (l : Located). subst_of args l.term) x.interfaces (λ k e within. lawful-subst ds args fit _ ((orderly name x found).interfaces k e within))
    interfaces-lawful args fit (parameter place) = All-nil IsLawful
    interfaces-lawful args fit (built_in k) = All-nil IsLawful

    pub lawful-interface : (t i : Term) → IsLawful t → Contains (named_of ds t) i → IsLawful i
    lawful-interface t i lawful has = All-contains IsLawful (named_of ds t) i (interfaces-lawful (args_of t) (lawful-arguments t lawful) (head_of t)) has
