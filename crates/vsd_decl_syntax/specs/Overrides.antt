-- Overrides: what they name, in a body and in a class.
use Rattle.std.specs.Prelude.{ℕ, nat_lt, Bool, true, false, List, [], ◌∷◌, ◌++◌, length, Option, Some, None}
use Rattle.vsd_terms.specs.declared.term.Term.{Term}
use Rattle.vsd_ast.specs.declared.declarations.Param.{Param}
use Rattle.vsd_ast.specs.declared.declarations.Signature.{Signature}
use Rattle.vsd_ast.specs.declared.declarations.Override.{Override}
use Rattle.vsd_ast.specs.declared.declarations.Implementer.{Implementer}
use Rattle.vsd_ast.specs.declared.declarations.Implementer.TheVariants as implementer
use Rattle.vsd_grammar.specs.declared.keyword.Keyword.TheVariants as key
use Rattle.vsd_grammar.specs.declared.token_class.TokenClass.TheVariants as class
use Rattle.vsd_grammar.specs.declared.cause.Cause.TheVariants.{TooMany}
use Rattle.vsd_grammar.specs.declared.cause.Counted.TheVariants as limit
use Rattle.vsd_grammar.specs.Input.{Lookahead, same_class}
use Rattle.vsd_grammar.specs.Grammar.{G, ret, refuse, lookahead, pass, bind}
use Rattle.vsd_grammar.specs.Productions.{expect, eat, name}
use Rattle.vsd_type_syntax.specs.Types.{Rules, written}
use Rattle.vsd_decl_syntax.specs.Parameters.{rules_of}
use Rattle.vsd_decl_syntax.specs.Signatures.{word, instance, result_type, arguments}
use Rattle.vsd_decl_syntax.specs.declared.overrides.Target.{Target}
use Rattle.vsd_decl_syntax.specs.declared.overrides.MethodRef.{MethodRef}

-- a method by its class, its name and its signature, of which only the class may have other parameters in hand
unfoldable pub method_ref : Rules → Rules → G MethodRef
method_ref own signed = bind (Unit {0}) MethodRef instance (λ _. bind (Option Term) MethodRef (result_type signed) (λ result.
    bind Term MethodRef (written own true) (λ owner. bind (Unit {0}) MethodRef (expect class.Colons) (λ _.
    bind (List ℕ) MethodRef name (λ bytes. bind (List Term) MethodRef (arguments signed) (λ args.
    ret MethodRef (record { owner = owner; name = bytes; signature = record { result = result; arguments = args } })))))))

-- ---- what is overridden

-- type "::" name
unfoldable pub short_target : List Param → G Target
short_target params = bind Term Target (written (rules_of false params) true) (λ owner.
    bind (Unit {0}) Target (expect class.Colons) (λ _. bind (List ℕ) Target name (λ bytes.
    ret Target (record { owner = owner; name = bytes; signature = None }))))

-- "method" and a method with its signature, in which a parameter is one of the owner's
unfoldable pub long_target : List Param → G Target
long_target params = bind (Unit {0}) Target pass (λ _. bind MethodRef Target (method_ref (rules_of false params) (rules_of true params)) (λ m.
    ret Target (record { owner = m.owner; name = m.name; signature = Some m.signature })))

abbrev pub target_by : List Param → Bool → G Target
target_by params true = long_target params
target_by params false = short_target params

unfoldable pub target : List Param → G Target
target params = bind Lookahead Target lookahead (λ h. target_by params (same_class (word key.Method) h.class))

-- ---- overrides, of which a declaration has at most 256

abbrev pub most_overrides : ℕ
most_overrides = 256

abbrev pub override_of : ℕ → Target → Implementer → Override
override_of line t body = record { line = line; owner = t.owner; name = t.name; signature = t.signature; body = body }

abbrev pub room_for_override : Bool → G (Unit {0})
room_for_override true = ret (Unit {0}) tt
room_for_override false = refuse (Unit {0}) (TooMany limit.Overrides)

-- the override of a method in whose body it stands, by that method's place
unfoldable pub body_override : List Param → ℕ → List Override → G (List Override)
body_override params own found = bind Lookahead (List Override) lookahead (λ h.
    bind (Unit {0}) (List Override) (room_for_override (nat_lt (length found) most_overrides)) (λ _.
    bind (Unit {0}) (List Override) pass (λ _. bind Target (List Override) (target params) (λ t.
    ret (List Override) (found ++ override_of h.line t (implementer.Own own) ∷ [])))))

-- the method that stands after "with"
unfoldable pub implementer_ref : List Param → G Implementer
implementer_ref params = bind (Unit {0}) Implementer (expect (word key.With)) (λ _. bind Bool Implementer (eat (word key.Method)) (λ _.
    bind MethodRef Implementer (method_ref (rules_of false params) (rules_of false params)) (λ m.
    ret Implementer (implementer.Named m.owner m.name m.signature))))

-- an override among a class's members
unfoldable pub class_override : List Param → List Override → G (List Override)
class_override params found = bind Lookahead (List Override) lookahead (λ h.
    bind (Unit {0}) (List Override) (room_for_override (nat_lt (length found) most_overrides)) (λ _.
    bind (Unit {0}) (List Override) pass (λ _. bind Target (List Override) (target params) (λ t.
    bind Implementer (List Override) (implementer_ref params) (λ body.
    ret (List Override) (found ++ override_of h.line t body ∷ []))))))
