-- The parts of declarations are well formed: parameters, signatures, overrides, methods.
use Rattle.std.proofs.Common.{◌≡◌, ℕ, ◌-◌, ◌<◌, ◌≤◌, Bool, true, false, cond, ltb, ◌&&◌, List, [], ◌∷◌, ◌++◌, length, position, Option, Some, None, All, IfSome, refl, arith}
use Rattle.std.specs.Str.{bytes_eq}
use Rattle.std.proofs.lemmas.Bool.{ltb-true}
use Rattle.std.proofs.lemmas.List.{length_push}
use Rattle.std.proofs.lemmas.List.Elements.{All-nil, All-push}
use Rattle.std.proofs.lemmas.List.Quantifiers.{position-Some}
use Rattle.vsd_terms.specs.declared.term.Term.{Term}
use Rattle.vsd_ast.specs.declared.declarations.Implementer.{Implementer}
use Rattle.vsd_ast.specs.declared.declarations.Implementer.TheVariants as implementer
use Rattle.vsd_ast.specs.declared.declarations.Override.{Override}
use Rattle.vsd_ast.specs.declared.declarations.Param.{Param}
use Rattle.vsd_ast.specs.declared.declarations.Sign.{Sign}
use Rattle.vsd_ast.specs.declared.declarations.Sign.TheVariants as sign
use Rattle.vsd_ast.specs.WellFormed.{IsName, IsWritten, IsClassWritten, IsSignature, IsImplementer, IsOverride}
use Rattle.vsd_grammar.specs.declared.keyword.Keyword.TheVariants as key
use Rattle.vsd_grammar.specs.declared.token_class.TokenClass.{TokenClass}
use Rattle.vsd_grammar.specs.declared.token_class.TokenClass.TheVariants as class
use Rattle.vsd_grammar.specs.Input.{same_class}
use Rattle.vsd_grammar.specs.Grammar.{G, bind}
use Rattle.vsd_grammar.specs.Productions.{expect, eat, is_name, is_digit}
use Rattle.vsd_grammar.specs.Skipping.{skip}
use Rattle.vsd_grammar.specs.Laws.{any_cause}
use Rattle.vsd_grammar.proofs.Behaving.{causes_expect, causes_eat, causes_skip}
use Rattle.vsd_type_syntax.specs.Types.{written, written_rest, less}
use Rattle.vsd_decl_syntax.specs.declared.arguments.Marks.{Marks}
use Rattle.vsd_decl_syntax.specs.declared.arguments.Marks.TheVariants as marks
use Rattle.vsd_decl_syntax.specs.declared.overrides.Target.{Target}
use Rattle.vsd_decl_syntax.specs.declared.overrides.MethodRef.{MethodRef}
use Rattle.vsd_decl_syntax.specs.Parameters as parameters
use Rattle.vsd_decl_syntax.specs.Parameters.{rules_of}
use Rattle.vsd_decl_syntax.specs.Signatures as signatures
use Rattle.vsd_decl_syntax.specs.Overrides as overrides
use Rattle.vsd_decls.proofs.Quiet.{quiet, IsQuiet}
use Rattle.vsd_decls.proofs.WrittenTerms.{NumbersWell, written_forms, rest_forms_written}
use Rattle.vsd_decls.proofs.ClassHeads.{written_classes}
use Rattle.vsd_decls.proofs.Yields.{Yields, yields_nothing, yields_ret, yields_then, yields_quiet, yields_list, yields_name, number_given, scan_quiet}

pub expect_quiet : (wanted : TokenClass) → IsQuiet (Unit {0}) (expect wanted)
expect_quiet wanted = causes_expect any_cause quiet refl wanted

eat_quiet : (wanted : TokenClass) → IsQuiet Bool (eat wanted)
eat_quiet wanted = causes_eat any_cause quiet refl wanted

pub skip_quiet : (stops : TokenClass → Bool) → IsQuiet ℕ (skip stops)
skip_quiet stops = causes_skip any_cause quiet refl stops

-- ---- what `!` names

-- how many parameters a term may name: those of an override's owner, or those of the class in hand
abbrev pub bound : Bool → List Param → ℕ
bound true ps = 8
bound false ps = length ps

some_is : (m n : ℕ) → ◌≡◌ {A = Option ℕ} (Some m) (Some n) → m ≡ n
some_is m n e = cc

both : (a b : Bool) → (a && b) ≡ true → b ≡ true
both true b e = e
both false b e = absurd cc

digit_within : (most : ℕ) (bytes : List ℕ) (n : ℕ) → parameters.digit_below most bytes ≡ Some n → n < most
digit_within most [] n e = absurd cc
digit_within most (b ∷ []) n e = go (is_digit b && ltb (b - 48) most) refl e
  where
    go : (t : Bool) → (is_digit b && ltb (b - 48) most) ≡ t → cond {A = Option ℕ} t (Some (b - 48)) None ≡ Some n → n < most
    go true f g = let lt = ltb-true (b - 48) most (both (is_digit b) (ltb (b - 48) most) f) in let same = some_is (b - 48) n g in omega (arith, lt, same)
    go false f g = absurd cc
digit_within most (b ∷ c ∷ bs) n e = absurd cc

named_within : (ps : List Param) (bytes : List ℕ) (n : ℕ) (b : Bool) → cond {A = Option ℕ} b (position (λ p. bytes_eq p.name bytes) ps) None ≡ Some n → n < length ps
named_within ps bytes n false e = absurd cc
named_within ps bytes n true e = let at = position-Some (λ (p : Param). bytes_eq p.name bytes) ps n (record { name = []; sign = sign.Plain }) e in at.0

own_within : (ps : List Param) (q : TokenClass) (bytes : List ℕ) (n : ℕ) → parameters.own_parameter ps q bytes ≡ Some n → n < length ps
own_within ps class.Number bytes n e = digit_within (length ps) bytes n e
own_within ps class.End bytes n e = named_within ps bytes n false e
own_within ps (class.Word k) bytes n e = named_within ps bytes n true e
own_within ps (class.Directive k) bytes n e = named_within ps bytes n false e
own_within ps class.Quoted bytes n e = named_within ps bytes n true e
own_within ps class.Text bytes n e = named_within ps bytes n false e
own_within ps (class.Symbol b) bytes n e = named_within ps bytes n false e
own_within ps class.Colons bytes n e = named_within ps bytes n false e
own_within ps class.Percents bytes n e = named_within ps bytes n false e

owner_within : (q : TokenClass) (bytes : List ℕ) (n : ℕ) → parameters.owner_parameter q bytes ≡ Some n → n < 8
owner_within class.Number bytes n e = digit_within 8 bytes n e
owner_within _ bytes n e = absurd cc

numbers_well : (of_owner : Bool) (ps : List Param) → NumbersWell (bound of_owner ps) (rules_of of_owner ps)
numbers_well true ps = record { number = number_given; place = owner_within }
numbers_well false ps = record { number = number_given; place = own_within ps }

-- ---- call forms

no_vararg_quiet : IsQuiet (Unit {0}) signatures.no_vararg
unfolding signatures.no_vararg
no_vararg_quiet = (tt, λ h. go (same_class (signatures.word key.Vararg) h.class))
  where
    go : (b : Bool) → IsQuiet (Unit {0}) (signatures.not_vararg b)
    go true = refl
    go false = tt

instance_quiet : IsQuiet (Unit {0}) signatures.instance
unfolding signatures.instance
instance_quiet = (eat_quiet (signatures.word key.Instance), λ _. no_vararg_quiet)

pub call_form_quiet : IsQuiet (Unit {0}) signatures.call_form
unfolding signatures.call_form
call_form_quiet = (eat_quiet (signatures.word key.Instance), λ _. (eat_quiet (signatures.word key.Default), λ _. no_vararg_quiet))

module _ (most : ℕ) where
  -- ---- types

  written_yields : (of_owner : Bool) (ps : List Param) (only_named : Bool) → Yields most Term (written (rules_of of_owner ps) only_named) (IsWritten most (bound of_owner ps))
  written_yields of_owner ps only_named = record {
    reads = λ i x j d few.
        let r = written_forms most (bound of_owner ps) (rules_of of_owner ps) (numbers_well of_owner ps) only_named i x j d few in
        (r.0, record { named = r.1; bound = r.2; levels = r.3; nodes = r.4 });
  }

  rest_yields : (of_owner : Bool) (ps : List Param) → Yields most Term (written_rest (rules_of of_owner ps)) (IsWritten most (bound of_owner ps))
  rest_yields of_owner ps = record {
    reads = λ i x j d few.
        let r = rest_forms_written most (bound of_owner ps) (rules_of of_owner ps) (numbers_well of_owner ps) i x j d few in
        (r.0, record { named = r.1; bound = r.2; levels = r.3; nodes = r.4 });
  }

  pub class_yields : (ps : List Param) → Yields most Term (written (rules_of false ps) true) (IsClassWritten most (length ps))
  class_yields ps = record {
    reads = λ i x j d few.
        let r = (written_yields false ps true).reads i x j d few in
        (r.0, record { class = (written_classes (rules_of false ps)).gives i x j d; written = r.1 });
  }

  -- ---- parameters

  param_name_yields : (s : Sign) → Yields most Param (parameters.param_name s) (λ p. IsName p.name)
  unfolding parameters.param_name
  param_name_yields s = yields_quiet tt (λ h. go (parameters.is_constraint h.class))
    where
      go : (b : Bool) → Yields most Param (parameters.unconstrained s b) (λ p. IsName p.name)
      go true = yields_nothing (λ i x j d. d)
      go false = yields_then yields_name (λ bytes. yields_ret (λ n. n))

  param_yields : Yields most Param parameters.param (λ p. IsName p.name)
  unfolding parameters.param
  param_yields = yields_quiet tt (λ h. go (parameters.sign_of h.class))
    where
      go : (s : Option Sign) → Yields most Param (parameters.signed s) (λ p. IsName p.name)
      go None = param_name_yields sign.Plain
      go (Some s) = yields_quiet refl (λ _. param_name_yields s)

  pub params_yield : Yields most (List Param) parameters.params (λ ps. (length ps ≤ 8) × All (λ (p : Param). IsName p.name) ps)
  unfolding parameters.params parameters.param_list
  params_yield = yields_quiet tt (λ h. go (same_class less h.class))
    where
      go : (b : Bool) → Yields most (List Param) (parameters.params_by b) (λ ps. (length ps ≤ 8) × All (λ (p : Param). IsName p.name) ps)
      go false = yields_ret (omega arith, All-nil (λ (p : Param). IsName p.name))
      go true = yields_quiet refl (λ _. yields_then (yields_list param_yields) (λ ps. yields_quiet (expect_quiet _) (λ _. yields_ret (λ h. h))))

  -- ---- signatures

  module _ (of_owner : Bool) (ps : List Param) where
    pub result_yields : Yields most (Option Term) (signatures.result_type (rules_of of_owner ps)) (λ r. IfSome r (IsWritten most (bound of_owner ps)))
    unfolding signatures.result_type
    result_yields = yields_quiet tt (λ h. go (same_class (signatures.word key.Void) h.class))
      where
        go : (b : Bool) → Yields most (Option Term) (signatures.result_by (rules_of of_owner ps) b) (λ r. IfSome r (IsWritten most (bound of_owner ps)))
        go true = yields_quiet refl (λ _. yields_ret tt)
        go false = yields_then (written_yields of_owner ps false) (λ t. yields_ret (λ w. w))

    argument_start_yields : Yields most Term (signatures.argument_start (rules_of of_owner ps)) (IsWritten most (bound of_owner ps))
    unfolding signatures.argument_start
    argument_start_yields = yields_quiet tt (λ h. go (same_class signatures.ellipsis h.class))
      where
        go : (b : Bool) → Yields most Term (signatures.not_ellipsis (rules_of of_owner ps) b) (IsWritten most (bound of_owner ps))
        go true = yields_nothing (λ i x j d. d)
        go false = written_yields of_owner ps false

    argument_type_yields : (s : Marks) → Yields most Term (signatures.argument_type (rules_of of_owner ps) s) (IsWritten most (bound of_owner ps))
    argument_type_yields marks.Between = argument_start_yields
    argument_type_yields marks.Opened = rest_yields of_owner ps
    argument_type_yields marks.Marked = yields_nothing (λ i x j d. d)

    then_name_yields : (t : Term) → Yields most Term (signatures.then_name t) (λ x. IsWritten most (bound of_owner ps) t → IsWritten most (bound of_owner ps) x)
    unfolding signatures.then_name
    then_name_yields t = yields_quiet tt (λ h. go (is_name h.class))
      where
        go : (b : Bool) → Yields most Term (signatures.name_if t b) (λ x. IsWritten most (bound of_owner ps) t → IsWritten most (bound of_owner ps) x)
        go true = yields_then yields_name (λ bytes. yields_ret (λ n w. w))
        go false = yields_ret (λ w. w)

    argument_yields : Yields most Term (signatures.argument (rules_of of_owner ps)) (IsWritten most (bound of_owner ps))
    unfolding signatures.argument signatures.marked
    argument_yields = yields_quiet (scan_quiet Marks signatures.mark_turn marks.Between) (λ s. yields_then (argument_type_yields s) then_name_yields)

    pub arguments_yield : Yields most (List Term) (signatures.arguments (rules_of of_owner ps)) (λ ts. (length ts ≤ 16) × All (IsWritten most (bound of_owner ps)) ts)
    unfolding signatures.arguments signatures.argument_list
    arguments_yield = yields_quiet (expect_quiet _) (λ _. yields_quiet tt (λ h. go (same_class signatures.right_paren h.class)))
      where
        go : (b : Bool) → Yields most (List Term) (signatures.arguments_by (rules_of of_owner ps) b) (λ ts. (length ts ≤ 16) × All (IsWritten most (bound of_owner ps)) ts)
        go true = yields_quiet refl (λ _. yields_ret (omega arith, All-nil (IsWritten most (bound of_owner ps))))
        go false = yields_then (yields_list argument_yields) (λ ts. yields_quiet (expect_quiet _) (λ _. yields_ret (λ h. h)))

  -- ---- overrides

  module _ (ps : List Param) where
    method_ref_yields : (of_owner : Bool) → Yields most MethodRef (overrides.method_ref (rules_of false ps) (rules_of of_owner ps))
        (λ m. IsClassWritten most (length ps) m.owner × IsName m.name × IsSignature most (bound of_owner ps) m.signature)
    unfolding overrides.method_ref
    method_ref_yields of_owner = yields_quiet instance_quiet (λ _. yields_then (result_yields of_owner ps) (λ result. yields_then (class_yields ps) (λ owner.
        yields_quiet (expect_quiet _) (λ _. yields_then yields_name (λ bytes. yields_then (arguments_yield of_owner ps) (λ args.
        yields_ret (λ l n o r. (o, n, record { result = r; few = l.0; arguments = l.1 }))))))))

    target_yields : Yields most Target (overrides.target ps) (λ t. IsClassWritten most (length ps) t.owner × IsName t.name × IfSome t.signature (IsSignature most 8))
    unfolding overrides.target overrides.short_target overrides.long_target
    target_yields = yields_quiet tt (λ h. go (same_class (signatures.word key.Method) h.class))
      where
        go : (b : Bool) → Yields most Target (overrides.target_by ps b) (λ t. IsClassWritten most (length ps) t.owner × IsName t.name × IfSome t.signature (IsSignature most 8))
        go true = yields_quiet refl (λ _. yields_then (method_ref_yields true) (λ m. yields_ret (λ r. r)))
        go false = yields_then (class_yields ps) (λ owner. yields_quiet (expect_quiet _) (λ _. yields_then yields_name (λ bytes. yields_ret (λ n o. (o, n, tt)))))

    implementer_yields : (count : ℕ) → Yields most Implementer (overrides.implementer_ref ps) (IsImplementer most (length ps) count)
    unfolding overrides.implementer_ref
    implementer_yields count = yields_quiet (expect_quiet _) (λ _. yields_quiet (eat_quiet _) (λ _. yields_then (method_ref_yields false) (λ m. yields_ret (λ r. r))))

    -- the overrides of a declaration with so many methods
    abbrev pub Kept : ℕ → List Override → Type 0
    Kept count os = (length os ≤ 256) × All (IsOverride most (length ps) count) os

    pushed : (count : ℕ) (found : List Override) (o : Override) → length found < 256 → IsOverride most (length ps) count o → Kept count found → Kept count (found ++ o ∷ [])
    pushed count found o few w k = (let l = length_push found o in omega (arith, few, l), All-push (IsOverride most (length ps) count) found o k.1 w)

    room_yields : {f : Unit {0} → G (List Override)} {P : List Override → Type 0} (found : List Override) → (length found < 256 → Yields most (List Override) (f tt) P)
        → Yields most (List Override) (bind (Unit {0}) (List Override) (overrides.room_for_override (ltb (length found) 256)) f) P
    room_yields {f} {P} found h = go (ltb (length found) 256) refl
      where
        go : (b : Bool) → ltb (length found) 256 ≡ b → Yields most (List Override) (bind (Unit {0}) (List Override) (overrides.room_for_override b) f) P
        go true e = yields_quiet tt (λ _. h (ltb-true (length found) 256 e))
        go false e = yields_nothing (λ i x j d. d.2)

    pub body_override_yields : (own count : ℕ) → own < count → (found : List Override) → Yields most (List Override) (overrides.body_override ps own found) (λ os. Kept count found → Kept count os)
    unfolding overrides.body_override
    body_override_yields own count lt found = yields_quiet tt (λ h. room_yields found (λ few. yields_quiet refl (λ _. yields_then target_yields (λ t.
        yields_ret (λ w k. pushed count found (overrides.override_of h.line t (implementer.Own own)) few (record { owner = w.0; name = w.1; signature = w.2; body = lt }) k)))))

    pub class_override_yields : (count : ℕ) (found : List Override) → Yields most (List Override) (overrides.class_override ps found) (λ os. Kept count found → Kept count os)
    unfolding overrides.class_override
    class_override_yields count found = yields_quiet tt (λ h. room_yields found (λ few. yields_quiet refl (λ _. yields_then target_yields (λ t. yields_then (implementer_yields count) (λ body.
        yields_ret (λ b w k. pushed count found (overrides.override_of h.line t body) few (record { owner = w.0; name = w.1; signature = w.2; body = b }) k))))))
