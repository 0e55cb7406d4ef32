-- The items of a text, and its declarations as a whole.
use Rattle.std.specs.Prelude.{ℕ, nat_lt, Bool, true, false, List, [], ◌∷◌, ◌++◌, length}
use Rattle.vsd_ast.specs.declared.declarations.Decl.{Decl}
use Rattle.vsd_grammar.specs.declared.keyword.Keyword.{Keyword}
use Rattle.vsd_grammar.specs.declared.keyword.Keyword.TheVariants as key
use Rattle.vsd_grammar.specs.declared.token_class.TokenClass.{TokenClass}
use Rattle.vsd_grammar.specs.declared.token_class.TokenClass.TheVariants as class
use Rattle.vsd_grammar.specs.declared.cause.Cause.TheVariants.{Unexpected, Unsupported, TooMany}
use Rattle.vsd_grammar.specs.declared.cause.Counted.TheVariants as limit
use Rattle.vsd_grammar.specs.declared.cause.Form.TheVariants as form
use Rattle.vsd_grammar.specs.Input.{Lookahead, same_class}
use Rattle.vsd_grammar.specs.Grammar.{G, ret, refuse, lookahead, pass, bind, until}
use Rattle.vsd_grammar.specs.Productions.{expect, spelled_number}
use Rattle.vsd_decl_syntax.specs.Signatures.{word}
use Rattle.vsd_decl_syntax.specs.Members.{passed}
use Rattle.vsd_decl_syntax.specs.Classes.{class_}
use Rattle.vsd_decls.specs.declared.declarations.Item.{Item}
use Rattle.vsd_decls.specs.declared.declarations.Item.TheVariants as item

abbrev pub directive_item : Keyword → Item
directive_item key.DotClass = item.Class
directive_item key.DotAssembly = item.Passed
directive_item key.DotModule = item.Passed
directive_item key.DotImageBase = item.Passed
directive_item key.DotFile = item.Passed
directive_item key.DotStackReserve = item.Passed
directive_item key.DotSubsystem = item.Passed
directive_item key.DotCorFlags = item.Passed
directive_item key.DotCustom = item.Passed
directive_item key.DotField = item.Passed
directive_item key.DotMethod = item.Passed
directive_item key.DotData = item.Passed
directive_item key.DotManifestResource = item.Passed
directive_item key.DotPermissionSet = item.Passed
directive_item key.DotLanguage = item.Passed
directive_item key.DotLine = item.Passed
directive_item key.DotVtableFixup = item.Passed
directive_item key.DotNamespace = item.Refused (Unsupported form.Namespace)
directive_item _ = item.Refused Unexpected

-- what a token begins where an item may stand
abbrev pub item_of : TokenClass → Item
item_of (class.Directive k) = directive_item k
item_of _ = item.Refused Unexpected

-- a text has at most 1,024 declarations
abbrev pub most_types : ℕ
most_types = 1024

abbrev pub room_for_class : Bool → G (Unit {0})
room_for_class true = ret (Unit {0}) tt
room_for_class false = refuse (Unit {0}) (TooMany limit.Types)

-- a class or an interface, after those found
unfoldable pub another : List Decl → G (List Decl)
another found = bind (Unit {0}) (List Decl) (room_for_class (nat_lt (length found) most_types)) (λ _.
    bind Decl (List Decl) class_ (λ d. ret (List Decl) (found ++ d ∷ [])))

abbrev pub item_by : List Decl → Item → G (List Decl)
item_by found item.Class = another found
item_by found item.Passed = bind (Unit {0}) (List Decl) passed (λ _. ret (List Decl) found)
item_by found (item.Refused cause) = refuse (List Decl) cause

unfoldable pub one_item : List Decl → G (List Decl)
one_item found = bind Lookahead (List Decl) lookahead (λ h. item_by found (item_of h.class))

abbrev pub separates : {S : Type 0} → TokenClass → S → Bool
separates q s = same_class class.Percents q

-- { item }
unfoldable pub items : G (List Decl)
items = until (List Decl) separates one_item []

-- "vsd" "1": the one number of one digit from 1 to 1
unfoldable pub heading : G (Unit {0})
heading = bind (Unit {0}) (Unit {0}) (expect (word key.Vsd)) (λ _. bind ℕ (Unit {0}) (spelled_number 1 1 1) (λ _. pass))

-- "vsd" "1" { item } "%%"
unfoldable pub declarations : G (List Decl)
declarations = bind (Unit {0}) (List Decl) heading (λ _. bind (List Decl) (List Decl) items (λ ds.
    bind (Unit {0}) (List Decl) (expect class.Percents) (λ _. ret (List Decl) ds)))
