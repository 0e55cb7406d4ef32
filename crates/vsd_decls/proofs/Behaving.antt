-- How a text's declarations behave: each cause is one of theirs.
use Rattle.std.proofs.Common.{nat_lt, Bool, true, false, IsTrue, List, length, refl}
use Rattle.vsd_ast.specs.declared.declarations.Decl.{Decl}
use Rattle.vsd_grammar.specs.declared.keyword.Keyword.{Keyword}
use Rattle.vsd_grammar.specs.declared.keyword.Keyword.TheVariants as key
use Rattle.vsd_grammar.specs.declared.token_class.TokenClass.{TokenClass}
use Rattle.vsd_grammar.specs.declared.token_class.TokenClass.TheVariants as class
use Rattle.vsd_grammar.specs.Grammar.{G}
use Rattle.vsd_grammar.specs.Laws.{Behaves}
use Rattle.vsd_grammar.proofs.Behaving.{grows, causes_expect, causes_spelled_number}
use Rattle.vsd_decl_syntax.specs.Causes.{is_decl_cause}
use Rattle.vsd_decl_syntax.specs.Signatures.{word}
use Rattle.vsd_decl_syntax.proofs.Behaving.{class_passes, passed_passes}
use Rattle.vsd_decls.specs.declared.declarations.Item.{Item}
use Rattle.vsd_decls.specs.declared.declarations.Item.TheVariants as item
use Rattle.vsd_decls.specs.Grammar as spec

abbrev Passes : (A : Type 0) → G A → Type 0
Passes A g = Behaves is_decl_cause grows A g

room_passes : (b : Bool) → Passes (Unit {0}) (spec.room_for_class b)
room_passes true = tt
room_passes false = refl

another_passes : (found : List Decl) → Passes (List Decl) (spec.another found)
unfolding spec.another
another_passes found = (room_passes (nat_lt (length found) spec.most_types), λ u. (class_passes, λ d. tt))

abbrev ItemPasses : Item → Type 0
ItemPasses (item.Refused cause) = IsTrue (is_decl_cause cause)
ItemPasses _ = Unit {0}

directive_passes : (k : Keyword) → ItemPasses (spec.directive_item k)
directive_passes key.DotClass = tt
directive_passes key.DotAssembly = tt
directive_passes key.DotModule = tt
directive_passes key.DotImageBase = tt
directive_passes key.DotFile = tt
directive_passes key.DotStackReserve = tt
directive_passes key.DotSubsystem = tt
directive_passes key.DotCorFlags = tt
directive_passes key.DotCustom = tt
directive_passes key.DotField = tt
directive_passes key.DotMethod = tt
directive_passes key.DotData = tt
directive_passes key.DotManifestResource = tt
directive_passes key.DotPermissionSet = tt
directive_passes key.DotLanguage = tt
directive_passes key.DotLine = tt
directive_passes key.DotVtableFixup = tt
directive_passes _ = refl

item_passes : (q : TokenClass) → ItemPasses (spec.item_of q)
item_passes (class.Directive k) = directive_passes k
item_passes _ = refl

one_item_passes : (found : List Decl) → Passes (List Decl) (spec.one_item found)
unfolding spec.one_item
one_item_passes found = (tt, λ h. go (spec.item_of h.class) (item_passes h.class))
  where
    go : (k : Item) → ItemPasses k → Passes (List Decl) (spec.item_by found k)
    go item.Class t = another_passes found
    go item.Passed t = (passed_passes, λ u. tt)
    go (item.Refused cause) t = t

heading_passes : Passes (Unit {0}) spec.heading
unfolding spec.heading
heading_passes = (causes_expect is_decl_cause grows refl (word key.Vsd), λ u. (causes_spelled_number is_decl_cause grows refl 1 1 1, λ n. refl))

pub declarations_pass : Passes (List Decl) spec.declarations
unfolding spec.declarations spec.items
declarations_pass = (heading_passes, λ u. ((refl, one_item_passes), λ ds. (causes_expect is_decl_cause grows refl class.Percents, λ v. tt)))
