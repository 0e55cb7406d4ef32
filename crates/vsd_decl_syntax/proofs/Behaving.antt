-- How declarations behave: each cause is one of theirs, and no name is forgotten.
use Rattle.std.proofs.Common.{◌≡◌, ℕ, nat_lt, ltb, zero, suc, Bool, true, false, cond, not, ◌&&◌, eqb, IsTrue, List, length, position, Option, Some, None, Result, IfErr, IfSome, refl}
use Rattle.std.specs.Str.{bytes_eq}
use Rattle.vsd_terms.specs.declared.term.Term.{Term}
use Rattle.vsd_ast.specs.declared.declarations.Decl.{Decl}
use Rattle.vsd_ast.specs.declared.declarations.Implementer.{Implementer}
use Rattle.vsd_ast.specs.declared.declarations.Located.{Located}
use Rattle.vsd_ast.specs.declared.declarations.Method.{Method}
use Rattle.vsd_ast.specs.declared.declarations.Override.{Override}
use Rattle.vsd_ast.specs.declared.declarations.Param.{Param}
use Rattle.vsd_ast.specs.declared.declarations.Sign.{Sign}
use Rattle.vsd_ast.specs.declared.declarations.Sign.TheVariants as sign
use Rattle.vsd_grammar.specs.declared.cause.Cause.{Cause}
use Rattle.vsd_grammar.specs.declared.cause.Cause.TheVariants.{Unexpected, Unsupported, TooMany, TooDeep}
use Rattle.vsd_grammar.specs.declared.cause.Counted.TheVariants as limit
use Rattle.vsd_grammar.specs.declared.cause.Form.TheVariants as form
use Rattle.vsd_grammar.specs.declared.token_class.TokenClass.{TokenClass}
use Rattle.vsd_grammar.specs.declared.token_class.TokenClass.TheVariants as class
use Rattle.vsd_grammar.specs.declared.keyword.Keyword.{Keyword}
use Rattle.vsd_grammar.specs.declared.keyword.Keyword.TheVariants as key
use Rattle.vsd_grammar.specs.Input.{State, Lookahead, same_class}
use Rattle.vsd_grammar.specs.Grammar.{G}
use Rattle.vsd_grammar.specs.Productions.{is_name, number_by}
use Rattle.vsd_grammar.specs.Skipping.{opening, closing}
use Rattle.vsd_grammar.specs.Laws.{Behaves}
use Rattle.vsd_grammar.proofs.Behaving.{grows, causes_expect, causes_eat, causes_scan, causes_skip, causes_name, causes_numbered_name, causes_plain_words, causes_number_by, TurnPasses}
use Rattle.vsd_grammar.specs.declared.turn.Turn.{Turn}
use Rattle.vsd_grammar.specs.declared.turn.Turn.TheVariants as turn
use Rattle.vsd_type_syntax.specs.Types.{Rules, written, first_cause, less, greater, left_bracket, right_bracket}
use Rattle.vsd_type_syntax.specs.Behaving.{TypesPass, RulesPass}
use Rattle.vsd_type_syntax.proofs.Behaving.{causes_written, causes_written_rest}
use Rattle.vsd_type_syntax.proofs.StartBehaving.{first_passes}
use Rattle.vsd_decl_syntax.specs.Causes.{is_decl_cause}
use Rattle.vsd_decl_syntax.specs.declared.arguments.Marks.{Marks}
use Rattle.vsd_decl_syntax.specs.declared.arguments.Marks.TheVariants as marks
use Rattle.vsd_decl_syntax.specs.declared.classes.ClassAttributes.{ClassAttributes}
use Rattle.vsd_decl_syntax.specs.declared.methods.MethodAttributes.{MethodAttributes}
use Rattle.vsd_decl_syntax.specs.declared.methods.Choice.{Choice}
use Rattle.vsd_decl_syntax.specs.declared.methods.Choice.TheVariants as choice
use Rattle.vsd_decl_syntax.specs.declared.members.Members.{Members}
use Rattle.vsd_decl_syntax.specs.declared.members.Kind.{Kind}
use Rattle.vsd_decl_syntax.specs.declared.members.Kind.TheVariants as kind
use Rattle.vsd_decl_syntax.specs.declared.overrides.Target.{Target}
use Rattle.vsd_decl_syntax.specs.declared.overrides.MethodRef.{MethodRef}
use Rattle.vsd_decl_syntax.specs.Parameters as parameters
use Rattle.vsd_decl_syntax.specs.Signatures as signatures
use Rattle.vsd_decl_syntax.specs.Overrides as overrides
use Rattle.vsd_decl_syntax.specs.Methods as methods
use Rattle.vsd_decl_syntax.specs.Members as members
use Rattle.vsd_decl_syntax.specs.Classes as classes

abbrev Passes : (A : Type 0) → G A → Type 0
Passes A g = Behaves is_decl_cause grows A g

types : TypesPass is_decl_cause
types = record { unexpected = refl; forms = λ f. refl; long = refl; deep = refl }

rules_pass : (of_owner : Bool) (ps : List Param) → RulesPass is_decl_cause grows (parameters.rules_of of_owner ps)
rules_pass of_owner ps = record {
  resolve = λ bytes s. causes_number_by is_decl_cause refl bytes s (position (bytes_eq bytes) s.names);
  foreign = λ bytes. refl;
  arity = λ number count. tt;
}

written_passes : (of_owner : Bool) (ps : List Param) (only_named : Bool) → Passes Term (written (parameters.rules_of of_owner ps) only_named)
written_passes of_owner ps only_named = causes_written is_decl_cause types (parameters.rules_of of_owner ps) (rules_pass of_owner ps) only_named

-- ---- parameters

param_name_passes : (s : Sign) → Passes Param (parameters.param_name s)
unfolding parameters.param_name
param_name_passes s = (tt, λ h. go (parameters.is_constraint h.class))
  where
    go : (b : Bool) → Passes Param (parameters.unconstrained s b)
    go true = refl
    go false = (causes_name is_decl_cause grows refl refl, λ bytes. tt)

param_passes : Passes Param parameters.param
unfolding parameters.param
param_passes = (tt, λ h. go (parameters.sign_of h.class))
  where
    go : (s : Option Sign) → Passes Param (parameters.signed s)
    go None = param_name_passes sign.Plain
    go (Some s) = (refl, λ x. param_name_passes s)

param_first_passes : (q : TokenClass) (bytes : List ℕ) → IfSome (parameters.param_first q bytes) (λ c. IsTrue (is_decl_cause c))
param_first_passes q bytes = go (parameters.sign_of q)
  where
    tests : (c n e : Bool) → IfSome (cond {A = Option Cause} c (Some (Unsupported form.Constraint)) (cond n (cond e (Some Unexpected) None) (Some Unexpected))) (λ c. IsTrue (is_decl_cause c))
    tests true n e = refl
    tests false true true = refl
    tests false true false = tt
    tests false false e = refl

    go : (s : Option Sign) → IfSome (parameters.first_by s q bytes) (λ c. IsTrue (is_decl_cause c))
    go (Some s) = tt
    go None = tests (parameters.is_constraint q) (is_name q) (eqb (length bytes) 0)

params_pass : Passes (List Param) parameters.params
unfolding parameters.params parameters.param_list
params_pass = (tt, λ h. go (same_class less h.class))
  where
    go : (b : Bool) → Passes (List Param) (parameters.params_by b)
    go false = tt
    go true = (refl, λ x. ((param_passes, refl, param_first_passes), λ ps. (causes_expect is_decl_cause grows refl greater, λ y. tt)))

-- ---- signatures

no_vararg_passes : Passes (Unit {0}) signatures.no_vararg
unfolding signatures.no_vararg
no_vararg_passes = (tt, λ h. go (same_class (signatures.word key.Vararg) h.class))
  where
    go : (b : Bool) → Passes (Unit {0}) (signatures.not_vararg b)
    go true = refl
    go false = tt

instance_passes : Passes (Unit {0}) signatures.instance
unfolding signatures.instance
instance_passes = (causes_eat is_decl_cause grows refl (signatures.word key.Instance), λ b. no_vararg_passes)

call_form_passes : Passes (Unit {0}) signatures.call_form
unfolding signatures.call_form
call_form_passes = (causes_eat is_decl_cause grows refl (signatures.word key.Instance), λ b. (causes_eat is_decl_cause grows refl (signatures.word key.Default), λ c. no_vararg_passes))

mark_turn_passes : (q : TokenClass) (s : Marks) → TurnPasses is_decl_cause grows refl (signatures.mark_turn q s)
mark_turn_passes q marks.Between = go (same_class left_bracket q)
  where
    go : (b : Bool) → TurnPasses is_decl_cause grows refl (cond {A = Turn Marks} b (turn.Pass marks.Opened) turn.Stop)
    go true = tt
    go false = tt
mark_turn_passes q marks.Opened = go (signatures.is_mark q)
  where
    go : (b : Bool) → TurnPasses is_decl_cause grows refl (cond {A = Turn Marks} b (turn.Pass marks.Marked) turn.Stop)
    go true = tt
    go false = tt
mark_turn_passes q marks.Marked = go (same_class right_bracket q)
  where
    go : (b : Bool) → TurnPasses is_decl_cause grows refl (cond {A = Turn Marks} b (turn.Pass marks.Between) (turn.Refuse Unexpected))
    go true = tt
    go false = refl

argument_first_passes : (q : TokenClass) (bytes : List ℕ) → IfSome (signatures.argument_first q bytes) (λ c. IsTrue (is_decl_cause c))
argument_first_passes q bytes = go (same_class signatures.ellipsis q)
  where
    go : (b : Bool) → IfSome (cond {A = Option Cause} b (Some (Unsupported form.Vararg)) (first_cause false q bytes)) (λ c. IsTrue (is_decl_cause c))
    go true = refl
    go false = first_passes is_decl_cause types false q bytes

module _ (of_owner : Bool) (ps : List Param) where
  abbrev rules : Rules
  rules = parameters.rules_of of_owner ps

  result_type_passes : Passes (Option Term) (signatures.result_type rules)
  unfolding signatures.result_type
  result_type_passes = (tt, λ h. go (same_class (signatures.word key.Void) h.class))
    where
      go : (b : Bool) → Passes (Option Term) (signatures.result_by rules b)
      go true = (refl, λ x. tt)
      go false = (written_passes of_owner ps false, λ t. tt)

  argument_start_passes : Passes Term (signatures.argument_start rules)
  unfolding signatures.argument_start
  argument_start_passes = (tt, λ h. go (same_class signatures.ellipsis h.class))
    where
      go : (b : Bool) → Passes Term (signatures.not_ellipsis rules b)
      go true = refl
      go false = written_passes of_owner ps false

  then_name_passes : (t : Term) → Passes Term (signatures.then_name t)
  unfolding signatures.then_name
  then_name_passes t = (tt, λ h. go (is_name h.class))
    where
      go : (b : Bool) → Passes Term (signatures.name_if t b)
      go true = (causes_name is_decl_cause grows refl refl, λ n. tt)
      go false = tt

  argument_passes : Passes Term (signatures.argument rules)
  unfolding signatures.argument signatures.marked
  argument_passes = (causes_scan is_decl_cause grows refl Marks signatures.mark_turn marks.Between mark_turn_passes, λ s. (go s, then_name_passes))
    where
      go : (s : Marks) → Passes Term (signatures.argument_type rules s)
      go marks.Between = argument_start_passes
      go marks.Opened = causes_written_rest is_decl_cause types rules (rules_pass of_owner ps)
      go marks.Marked = refl

  arguments_pass : Passes (List Term) (signatures.arguments rules)
  unfolding signatures.arguments signatures.argument_list
  arguments_pass = (causes_expect is_decl_cause grows refl signatures.left_paren, λ x. (tt, λ h. go (same_class signatures.right_paren h.class)))
    where
      go : (b : Bool) → Passes (List Term) (signatures.arguments_by rules b)
      go true = (refl, λ x. tt)
      go false = ((argument_passes, refl, argument_first_passes), λ args. (causes_expect is_decl_cause grows refl signatures.right_paren, λ y. tt))

-- ---- overrides

method_ref_passes : (ps : List Param) (of_owner : Bool) → Passes MethodRef (overrides.method_ref (parameters.rules_of false ps) (parameters.rules_of of_owner ps))
unfolding overrides.method_ref
method_ref_passes ps of_owner = (
  instance_passes,
  λ x. (
    result_type_passes of_owner ps,
    λ result. (
      written_passes false ps true,
      λ owner. (causes_expect is_decl_cause grows refl class.Colons, λ y. (causes_name is_decl_cause grows refl refl, λ bytes. (arguments_pass of_owner ps, λ args. tt))),
    ),
  ),
)

target_passes : (ps : List Param) → Passes Target (overrides.target ps)
unfolding overrides.target overrides.short_target overrides.long_target
target_passes ps = (tt, λ h. go (same_class (signatures.word key.Method) h.class))
  where
    go : (b : Bool) → Passes Target (overrides.target_by ps b)
    go true = (refl, λ x. (method_ref_passes ps true, λ m. tt))
    go false = (written_passes false ps true, λ owner. (causes_expect is_decl_cause grows refl class.Colons, λ x. (causes_name is_decl_cause grows refl refl, λ n. tt)))

room_passes : (b : Bool) → Passes (Unit {0}) (overrides.room_for_override b)
room_passes true = tt
room_passes false = refl

body_override_passes : (ps : List Param) (own : ℕ) (found : List Override) → Passes (List Override) (overrides.body_override ps own found)
unfolding overrides.body_override
body_override_passes ps own found = (tt, λ h. (room_passes (ltb (length found) 256), λ x. (refl, λ y. (target_passes ps, λ t. tt))))

implementer_ref_passes : (ps : List Param) → Passes Implementer (overrides.implementer_ref ps)
unfolding overrides.implementer_ref
implementer_ref_passes ps =
    (causes_expect is_decl_cause grows refl (signatures.word key.With), λ x. (causes_eat is_decl_cause grows refl (signatures.word key.Method), λ b. (method_ref_passes ps false, λ m. tt)))

class_override_passes : (ps : List Param) (found : List Override) → Passes (List Override) (overrides.class_override ps found)
unfolding overrides.class_override
class_override_passes ps found =
    (tt, λ h. (room_passes (ltb (length found) 256), λ x. (refl, λ y. (target_passes ps, λ t. (implementer_ref_passes ps, λ b. tt)))))

-- ---- methods

attribute_passes : (k : Keyword) (s : MethodAttributes) → TurnPasses is_decl_cause grows refl (methods.attribute_turn k s)
attribute_passes key.Public s = tt
attribute_passes key.Private s = tt
attribute_passes key.Family s = tt
attribute_passes key.Assembly s = tt
attribute_passes key.FamilyOrAssembly s = tt
attribute_passes key.FamilyAndAssembly s = tt
attribute_passes key.PrivateScope s = tt
attribute_passes key.Static s = tt
attribute_passes key.Final s = tt
attribute_passes key.Virtual s = tt
attribute_passes key.Abstract s = tt
attribute_passes key.NewSlot s = tt
attribute_passes _ s = tt

method_turn_passes : (q : TokenClass) (s : MethodAttributes) → TurnPasses is_decl_cause grows refl (methods.method_turn q s)
method_turn_passes (class.Word k) s = attribute_passes k s
method_turn_passes _ s = tt

abbrev ChoicePasses : Choice → Type 0
ChoicePasses (choice.Refused cause) = IsTrue (is_decl_cause cause)
ChoicePasses _ = Unit {0}

kept_if_passes : (b : Bool) → ChoicePasses (methods.kept_if b)
kept_if_passes true = tt
kept_if_passes false = refl

choice_passes : (is_interface : Bool) (a : MethodAttributes) (room : Bool) → ChoicePasses (methods.choice_of is_interface a room)
choice_passes is_interface a room = go is_interface a.is_static a.is_abstract a.is_virtual
  where
    in_interface : (s b v : Bool) → ChoicePasses (cond s (choice.Refused (Unsupported form.StaticInterfaceMethod))
        (cond (not b) (choice.Refused (Unsupported form.DefaultInterfaceMethod)) (cond (not v) (choice.Refused Unexpected) (methods.kept_if room))))
    in_interface true b v = refl
    in_interface false false v = refl
    in_interface false true false = refl
    in_interface false true true = kept_if_passes room

    in_class : (s b v : Bool) → ChoicePasses (cond v (cond s (choice.Refused Unexpected) (methods.kept_if room)) (cond b (choice.Refused Unexpected) choice.Passed))
    in_class true b true = refl
    in_class false b true = kept_if_passes room
    in_class s true false = refl
    in_class s false false = tt

    go : (i s b v : Bool) → ChoicePasses (cond i
        (cond s (choice.Refused (Unsupported form.StaticInterfaceMethod)) (cond (not b) (choice.Refused (Unsupported form.DefaultInterfaceMethod)) (cond (not v) (choice.Refused Unexpected) (methods.kept_if room))))
        (cond v (cond s (choice.Refused Unexpected) (methods.kept_if room)) (cond b (choice.Refused Unexpected) choice.Passed)))
    go true s b v = in_interface s b v
    go false s b v = in_class s b v

body_item_passes : (ps : List Param) (own : ℕ) (found : List Override) → Passes (List Override) (methods.body_item ps own found)
unfolding methods.body_item
body_item_passes ps own found = (tt, λ h. go (methods.is_override h.class))
  where
    go : (b : Bool) → Passes (List Override) (methods.body_item_by ps own b found)
    go true = body_override_passes ps own found
    go false = (causes_skip is_decl_cause grows refl methods.is_override, λ n. tt)

body_passes : (ps : List Param) (own : ℕ) (found : List Override) → Passes (List Override) (methods.body ps own found)
unfolding methods.body methods.body_items
body_passes ps own found =
    (causes_expect is_decl_cause grows refl opening, λ x. ((refl, λ t. body_item_passes ps own t), λ more. (causes_expect is_decl_cause grows refl closing, λ y. tt)))

no_generic_passes : Passes (Unit {0}) methods.no_generic
unfolding methods.no_generic
no_generic_passes = (tt, λ h. go (same_class less h.class))
  where
    go : (b : Bool) → Passes (Unit {0}) (methods.not_generic b)
    go true = refl
    go false = tt

header_passes : (ps : List Param) (line : ℕ) (a : MethodAttributes) → Passes Method (methods.header ps line a)
unfolding methods.header
header_passes ps line a = (
  call_form_passes,
  λ x. (
    result_type_passes false ps,
    λ result. (
      causes_name is_decl_cause grows refl refl,
      λ bytes. (no_generic_passes, λ y. (arguments_pass false ps, λ args. (causes_plain_words is_decl_cause grows refl, λ z. tt))),
    ),
  ),
)

kept_passes : (ps : List Param) (line : ℕ) (a : MethodAttributes) (found : Members) → Passes Members (methods.kept ps line a found)
unfolding methods.kept
kept_passes ps line a found = (header_passes ps line a, λ m. (body_passes ps (length found.methods) found.overrides, λ os. tt))

method_passes : (is_interface : Bool) (ps : List Param) (found : Members) → Passes Members (methods.method is_interface ps found)
unfolding methods.method methods.method_attributes
method_passes is_interface ps found = (
  tt,
  λ h. (
    refl,
    λ x. (
      causes_scan is_decl_cause grows refl MethodAttributes methods.method_turn methods.no_attributes method_turn_passes,
      λ a. go h a (methods.choice_of is_interface a (ltb (length found.methods) 256)) (choice_passes is_interface a (ltb (length found.methods) 256)),
    ),
  ),
)
  where
    go : (h : Lookahead) (a : MethodAttributes) (c : Choice) → ChoicePasses c → Passes Members (methods.chosen ps h a found c)
    go h a (choice.Refused cause) t = t
    go h a choice.Passed t = (causes_skip is_decl_cause grows refl methods.ends_item, λ n. tt)
    go h a choice.Kept t = kept_passes ps h.line a found

-- ---- members and classes

pub passed_passes : Passes (Unit {0}) members.passed
unfolding members.passed
passed_passes = (refl, λ x. (causes_skip is_decl_cause grows refl methods.ends_item, λ n. tt))

abbrev KindPasses : Kind → Type 0
KindPasses (kind.Refused cause) = IsTrue (is_decl_cause cause)
KindPasses _ = Unit {0}

directive_passes : (k : Keyword) → KindPasses (members.directive_kind k)
directive_passes key.DotMethod = tt
directive_passes key.DotOverride = tt
directive_passes key.DotField = tt
directive_passes key.DotProperty = tt
directive_passes key.DotEvent = tt
directive_passes key.DotCustom = tt
directive_passes key.DotPack = tt
directive_passes key.DotSize = tt
directive_passes key.DotParam = tt
directive_passes key.DotInterfaceImpl = tt
directive_passes key.DotData = tt
directive_passes key.DotPermissionSet = tt
directive_passes key.DotLanguage = tt
directive_passes key.DotLine = tt
directive_passes _ = refl

kind_passes : (q : TokenClass) → KindPasses (members.kind_of q)
kind_passes (class.Directive k) = directive_passes k
kind_passes _ = refl

member_passes : (is_interface : Bool) (ps : List Param) (found : Members) → Passes Members (members.member is_interface ps found)
unfolding members.member members.overridden
member_passes is_interface ps found = (tt, λ h. go (members.kind_of h.class) (kind_passes h.class))
  where
    go : (k : Kind) → KindPasses k → Passes Members (members.member_by is_interface ps found k)
    go kind.Method t = method_passes is_interface ps found
    go kind.Override t = (class_override_passes ps found.overrides, λ os. tt)
    go kind.Passed t = (passed_passes, λ x. tt)
    go (kind.Refused cause) t = t

located_passes : (ps : List Param) → Passes Located (classes.located ps)
unfolding classes.located
located_passes ps = (tt, λ h. (written_passes false ps true, λ t. tt))

base_passes : (ps : List Param) → Passes (Option Located) (classes.base ps)
unfolding classes.base
base_passes ps = (tt, λ h. go (same_class (signatures.word key.Extends) h.class))
  where
    go : (b : Bool) → Passes (Option Located) (classes.base_by ps b)
    go false = tt
    go true = (refl, λ x. (located_passes ps, λ t. tt))

interfaces_pass : (ps : List Param) → Passes (List Located) (classes.interfaces ps)
unfolding classes.interfaces classes.interface_list
interfaces_pass ps = (tt, λ h. go (same_class (signatures.word key.Implements) h.class))
  where
    go : (b : Bool) → Passes (List Located) (classes.interfaces_by ps b)
    go false = tt
    go true = (refl, λ x. (located_passes ps, refl, first_passes is_decl_cause types true))

block_passes : (is_interface : Bool) (ps : List Param) → Passes Members (classes.block is_interface ps)
unfolding classes.block members.members
block_passes is_interface ps = (
  causes_expect is_decl_cause grows refl opening,
  λ x. ((refl, λ t. member_passes is_interface ps t), λ ms. (causes_expect is_decl_cause grows refl closing, λ y. tt)),
)

class_from_passes : (line : ℕ) (a : ClassAttributes) (name : ℕ) (ps : List Param) → Passes Decl (classes.class_from line a name ps)
unfolding classes.class_from
class_from_passes line a name ps = (base_passes ps, λ b. (interfaces_pass ps, λ is. (block_passes a.is_interface ps, λ ms. tt)))

no_extern_passes : Passes (Unit {0}) classes.no_extern
unfolding classes.no_extern
no_extern_passes = (tt, λ h. go (same_class (signatures.word key.Extern) h.class))
  where
    go : (b : Bool) → Passes (Unit {0}) (classes.not_extern b)
    go true = refl
    go false = tt

class_attribute_passes : (k : Keyword) (s : ClassAttributes) → TurnPasses is_decl_cause grows refl (classes.attribute_turn k s)
class_attribute_passes key.Nested s = refl
class_attribute_passes key.Interface s = tt
class_attribute_passes key.Abstract s = tt
class_attribute_passes key.Sealed s = tt
class_attribute_passes _ s = tt

class_turn_passes : (q : TokenClass) (s : ClassAttributes) → TurnPasses is_decl_cause grows refl (classes.class_turn q s)
class_turn_passes (class.Word k) s = class_attribute_passes k s
class_turn_passes _ s = tt

pub class_passes : Passes Decl classes.class_
unfolding classes.class_ classes.class_attributes
class_passes = (
  tt,
  λ h. (
    refl,
    λ x. (
      no_extern_passes,
      λ y. (
        causes_scan is_decl_cause grows refl ClassAttributes classes.class_turn classes.no_attributes class_turn_passes,
        λ a. (causes_numbered_name is_decl_cause refl refl refl, λ n. (params_pass, λ ps. class_from_passes h.line a n ps)),
      ),
    ),
  ),
)
