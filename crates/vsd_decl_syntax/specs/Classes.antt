-- Classes and interfaces.
use Rattle.std.specs.Prelude.{ℕ, Bool, true, false, List, [], Option, Some, None}
use Rattle.vsd_terms.specs.declared.term.Term.{Term}
use Rattle.vsd_ast.specs.declared.declarations.Param.{Param}
use Rattle.vsd_ast.specs.declared.declarations.Located.{Located}
use Rattle.vsd_ast.specs.declared.declarations.Decl.{Decl}
use Rattle.vsd_grammar.specs.declared.keyword.Keyword.{Keyword}
use Rattle.vsd_grammar.specs.declared.keyword.Keyword.TheVariants as key
use Rattle.vsd_grammar.specs.declared.token_class.TokenClass.{TokenClass}
use Rattle.vsd_grammar.specs.declared.token_class.TokenClass.TheVariants as class
use Rattle.vsd_grammar.specs.declared.turn.Turn.{Turn}
use Rattle.vsd_grammar.specs.declared.turn.Turn.TheVariants.{Stop, Pass, Refuse}
use Rattle.vsd_grammar.specs.declared.cause.Cause.TheVariants.{Unsupported, TooMany}
use Rattle.vsd_grammar.specs.declared.cause.Form.TheVariants as form
use Rattle.vsd_grammar.specs.declared.cause.Counted.TheVariants as limit
use Rattle.vsd_grammar.specs.Input.{Lookahead, same_class}
use Rattle.vsd_grammar.specs.Grammar.{G, ret, refuse, lookahead, pass, bind, separated}
use Rattle.vsd_grammar.specs.Productions.{expect, scan, numbered_name}
use Rattle.vsd_grammar.specs.Skipping.{opening, closing}
use Rattle.vsd_type_syntax.specs.Types.{Rules, written, first_cause}
use Rattle.vsd_decl_syntax.specs.Parameters.{rules_of, params}
use Rattle.vsd_decl_syntax.specs.Signatures.{word}
use Rattle.vsd_decl_syntax.specs.Members.{members}
use Rattle.vsd_decl_syntax.specs.declared.classes.ClassAttributes.{ClassAttributes}
use Rattle.vsd_decl_syntax.specs.declared.members.Members.{Members}

-- ---- attributes, in any order

abbrev pub no_attributes : ClassAttributes
no_attributes = record { is_interface = false; is_abstract = false; sealed = false }

abbrev pub attribute_turn : Keyword → ClassAttributes → Turn ClassAttributes
attribute_turn key.Nested s = Refuse (Unsupported form.Nested)
attribute_turn key.Interface s = Pass (record s { is_interface = true })
attribute_turn key.Abstract s = Pass (record s { is_abstract = true })
attribute_turn key.Sealed s = Pass (record s { sealed = true })
attribute_turn key.Public s = Pass s
attribute_turn key.Private s = Pass s
attribute_turn key.Auto s = Pass s
attribute_turn key.Sequential s = Pass s
attribute_turn key.Explicit s = Pass s
attribute_turn key.Ansi s = Pass s
attribute_turn key.Unicode s = Pass s
attribute_turn key.AutoChar s = Pass s
attribute_turn key.BeforeFieldInit s = Pass s
attribute_turn key.Serializable s = Pass s
attribute_turn key.SpecialName s = Pass s
attribute_turn key.RuntimeSpecialName s = Pass s
attribute_turn key.Import s = Pass s
attribute_turn _ s = Stop

abbrev pub class_turn : TokenClass → ClassAttributes → Turn ClassAttributes
class_turn (class.Word k) s = attribute_turn k s
class_turn _ s = Stop

unfoldable pub class_attributes : G ClassAttributes
class_attributes = scan ClassAttributes class_turn no_attributes

abbrev pub not_extern : Bool → G (Unit {0})
not_extern true = refuse (Unit {0}) (Unsupported form.TypeForwarding)
not_extern false = ret (Unit {0}) tt

unfoldable pub no_extern : G (Unit {0})
no_extern = bind Lookahead (Unit {0}) lookahead (λ h. not_extern (same_class (word key.Extern) h.class))

-- ---- the base and the interfaces

-- a named type or a built-in class, with the line of its first token
unfoldable pub located : List Param → G Located
located ps = bind Lookahead Located lookahead (λ h. bind Term Located (written (rules_of false ps) true) (λ t.
    ret Located (record { term = t; line = h.line })))

abbrev pub base_by : List Param → Bool → G (Option Located)
base_by ps false = ret (Option Located) None
base_by ps true = bind (Unit {0}) (Option Located) pass (λ _. bind Located (Option Located) (located ps) (λ t. ret (Option Located) (Some t)))

-- [ "extends" type ]
unfoldable pub base : List Param → G (Option Located)
base ps = bind Lookahead (Option Located) lookahead (λ h. base_by ps (same_class (word key.Extends) h.class))

unfoldable pub interface_list : List Param → G (List Located)
interface_list ps = separated Located (first_cause true) (TooMany limit.Interfaces) (located ps) 64

abbrev pub interfaces_by : List Param → Bool → G (List Located)
interfaces_by ps false = ret (List Located) []
interfaces_by ps true = bind (Unit {0}) (List Located) pass (λ _. interface_list ps)

-- [ "implements" type { "," type } ]
unfoldable pub interfaces : List Param → G (List Located)
interfaces ps = bind Lookahead (List Located) lookahead (λ h. interfaces_by ps (same_class (word key.Implements) h.class))

-- ---- the whole

-- "{" { member } "}"
unfoldable pub block : Bool → List Param → G Members
block is_interface ps = bind (Unit {0}) Members (expect opening) (λ _. bind Members Members (members is_interface ps) (λ ms.
    bind (Unit {0}) Members (expect closing) (λ _. ret Members ms)))

unfoldable pub class_from : ℕ → ClassAttributes → ℕ → List Param → G Decl
class_from line a name ps = bind (Option Located) Decl (base ps) (λ b. bind (List Located) Decl (interfaces ps) (λ is.
    bind Members Decl (block a.is_interface ps) (λ ms. ret Decl (record {
      name = name;
      line = line;
      is_interface = a.is_interface;
      is_abstract = a.is_abstract;
      sealed = a.sealed;
      params = ps;
      base = b;
      interfaces = is;
      methods = ms.methods;
      overrides = ms.overrides;
    }))))

-- ".class", which is at hand, and a class or an interface
unfoldable pub class_ : G Decl
class_ = bind Lookahead Decl lookahead (λ h. bind (Unit {0}) Decl pass (λ _. bind (Unit {0}) Decl no_extern (λ _.
    bind ClassAttributes Decl class_attributes (λ a. bind ℕ Decl numbered_name (λ n.
    bind (List Param) Decl params (λ ps. class_from h.line a n ps))))))
