-- Methods: their attributes, which of them are kept, their bodies.
use Rattle.std.specs.Prelude.{ℕ, nat_lt, Bool, true, false, not, ◌||◌, if◌then◌else◌, List, [], ◌∷◌, ◌++◌, length, Option}
use Rattle.vsd_terms.specs.declared.term.Term.{Term}
use Rattle.vsd_ast.specs.declared.declarations.Access.TheVariants as access
use Rattle.vsd_ast.specs.declared.declarations.Param.{Param}
use Rattle.vsd_ast.specs.declared.declarations.Method.{Method}
use Rattle.vsd_ast.specs.declared.declarations.Override.{Override}
use Rattle.vsd_grammar.specs.declared.keyword.Keyword.{Keyword}
use Rattle.vsd_grammar.specs.declared.keyword.Keyword.TheVariants as key
use Rattle.vsd_grammar.specs.declared.token_class.TokenClass.{TokenClass}
use Rattle.vsd_grammar.specs.declared.token_class.TokenClass.TheVariants as class
use Rattle.vsd_grammar.specs.declared.turn.Turn.{Turn}
use Rattle.vsd_grammar.specs.declared.turn.Turn.TheVariants.{Stop, Pass}
use Rattle.vsd_grammar.specs.declared.cause.Cause.{Cause}
use Rattle.vsd_grammar.specs.declared.cause.Cause.TheVariants.{Unexpected, Unsupported, TooMany}
use Rattle.vsd_grammar.specs.declared.cause.Form.TheVariants as form
use Rattle.vsd_grammar.specs.declared.cause.Counted.TheVariants as limit
use Rattle.vsd_grammar.specs.Input.{Lookahead, same_class}
use Rattle.vsd_grammar.specs.Grammar.{G, ret, refuse, refuse_at, lookahead, pass, bind, until}
use Rattle.vsd_grammar.specs.Productions.{expect, scan, name, plain_words}
use Rattle.vsd_grammar.specs.Skipping.{skip, opening, closing}
use Rattle.vsd_type_syntax.specs.Types.{less}
use Rattle.vsd_decl_syntax.specs.Parameters.{rules_of}
use Rattle.vsd_decl_syntax.specs.Signatures.{call_form, result_type, arguments}
use Rattle.vsd_decl_syntax.specs.Overrides.{body_override}
use Rattle.vsd_decl_syntax.specs.declared.methods.MethodAttributes.{MethodAttributes}
use Rattle.vsd_decl_syntax.specs.declared.methods.Choice.{Choice}
use Rattle.vsd_decl_syntax.specs.declared.methods.Choice.TheVariants as choice
use Rattle.vsd_decl_syntax.specs.declared.members.Members.{Members}

-- ---- attributes, in any order. The last access word counts.

abbrev pub no_attributes : MethodAttributes
no_attributes = record { access = access.Other; is_static = false; is_final = false; is_virtual = false; is_abstract = false; newslot = false }

abbrev pub attribute_turn : Keyword → MethodAttributes → Turn MethodAttributes
attribute_turn key.Public s = Pass (record s { access = access.Public })
attribute_turn key.Private s = Pass (record s { access = access.Private })
attribute_turn key.Family s = Pass (record s { access = access.Other })
attribute_turn key.Assembly s = Pass (record s { access = access.Other })
attribute_turn key.FamilyOrAssembly s = Pass (record s { access = access.Other })
attribute_turn key.FamilyAndAssembly s = Pass (record s { access = access.Other })
attribute_turn key.PrivateScope s = Pass (record s { access = access.Other })
attribute_turn key.Static s = Pass (record s { is_static = true })
attribute_turn key.Final s = Pass (record s { is_final = true })
attribute_turn key.Virtual s = Pass (record s { is_virtual = true })
attribute_turn key.Abstract s = Pass (record s { is_abstract = true })
attribute_turn key.NewSlot s = Pass (record s { newslot = true })
attribute_turn key.Strict s = Pass s
attribute_turn key.HideBySignature s = Pass s
attribute_turn key.SpecialName s = Pass s
attribute_turn key.RuntimeSpecialName s = Pass s
attribute_turn key.RequireSecurityObject s = Pass s
attribute_turn _ s = Stop

abbrev pub method_turn : TokenClass → MethodAttributes → Turn MethodAttributes
method_turn (class.Word k) s = attribute_turn k s
method_turn _ s = Stop

unfoldable pub method_attributes : G MethodAttributes
method_attributes = scan MethodAttributes method_turn no_attributes

-- ---- which methods are kept: the virtual ones, of which a declaration has at most 256

abbrev pub most_methods : ℕ
most_methods = 256

abbrev pub kept_if : Bool → Choice
kept_if true = choice.Kept
kept_if false = choice.Refused (TooMany limit.Methods)

abbrev pub interface_choice : MethodAttributes → Bool → Choice
interface_choice a room =
    if a.is_static then choice.Refused (Unsupported form.StaticInterfaceMethod)
    else (if not a.is_abstract then choice.Refused (Unsupported form.DefaultInterfaceMethod)
    else (if not a.is_virtual then choice.Refused Unexpected else kept_if room))

abbrev pub class_choice : MethodAttributes → Bool → Choice
class_choice a room =
    if a.is_virtual then (if a.is_static then choice.Refused Unexpected else kept_if room)
    else (if a.is_abstract then choice.Refused Unexpected else choice.Passed)

abbrev pub choice_of : Bool → MethodAttributes → Bool → Choice
choice_of is_interface a room = if is_interface then interface_choice a room else class_choice a room

-- ---- bodies: passed over but for the overrides outside of their braces

abbrev pub is_override : TokenClass → Bool
is_override q = same_class (class.Directive key.DotOverride) q

abbrev pub body_item_by : List Param → ℕ → Bool → List Override → G (List Override)
body_item_by params own true found = body_override params own found
body_item_by params own false found = bind ℕ (List Override) (skip is_override) (λ _. ret (List Override) found)

unfoldable pub body_item : List Param → ℕ → List Override → G (List Override)
body_item params own found = bind Lookahead (List Override) lookahead (λ h. body_item_by params own (is_override h.class) found)

abbrev pub closes : {S : Type 0} → TokenClass → S → Bool
closes q s = same_class closing q

unfoldable pub body_items : List Param → ℕ → List Override → G (List Override)
body_items params own found = until (List Override) closes (body_item params own) found

-- "{" body "}"
unfoldable pub body : List Param → ℕ → List Override → G (List Override)
body params own found = bind (Unit {0}) (List Override) (expect opening) (λ _.
    bind (List Override) (List Override) (body_items params own found) (λ more.
    bind (Unit {0}) (List Override) (expect closing) (λ _. ret (List Override) more)))

-- ---- a method that is kept

abbrev pub not_generic : Bool → G (Unit {0})
not_generic true = refuse (Unit {0}) (Unsupported form.GenericMethod)
not_generic false = ret (Unit {0}) tt

unfoldable pub no_generic : G (Unit {0})
no_generic = bind Lookahead (Unit {0}) lookahead (λ h. not_generic (same_class less h.class))

-- its result, name and arguments, and the words after them
unfoldable pub header : List Param → ℕ → MethodAttributes → G Method
header params line a = bind (Unit {0}) Method call_form (λ _. bind (Option Term) Method (result_type (rules_of false params)) (λ result.
    bind (List ℕ) Method name (λ bytes. bind (Unit {0}) Method no_generic (λ _.
    bind (List Term) Method (arguments (rules_of false params)) (λ args. bind (Unit {0}) Method plain_words (λ _.
    ret Method (record {
      name = bytes;
      line = line;
      access = a.access;
      newslot = a.newslot;
      is_final = a.is_final;
      is_abstract = a.is_abstract;
      signature = record { result = result; arguments = args };
    })))))))

unfoldable pub kept : List Param → ℕ → MethodAttributes → Members → G Members
kept params line a found = bind Method Members (header params line a) (λ m.
    bind (List Override) Members (body params (length found.methods) found.overrides) (λ overrides.
    ret Members (record { methods = found.methods ++ m ∷ []; overrides = overrides })))

-- ---- what is passed over: up to the next directive outside of its braces, to the brace that closes what is around it, or to `%%`

abbrev pub ends_item : TokenClass → Bool
ends_item (class.Directive key.DotConstructor) = false
ends_item (class.Directive key.DotClassConstructor) = false
ends_item (class.Directive k) = true
ends_item class.Percents = true
ends_item _ = false

abbrev pub chosen : List Param → Lookahead → MethodAttributes → Members → Choice → G Members
chosen params h a found (choice.Refused cause) = refuse_at Members h.index cause
chosen params h a found choice.Passed = bind ℕ Members (skip ends_item) (λ _. ret Members found)
chosen params h a found choice.Kept = kept params h.line a found

unfoldable pub method : Bool → List Param → Members → G Members
method is_interface params found = bind Lookahead Members lookahead (λ h. bind (Unit {0}) Members pass (λ _.
    bind MethodAttributes Members method_attributes (λ a.
    chosen params h a found (choice_of is_interface a (nat_lt (length found.methods) most_methods)))))
