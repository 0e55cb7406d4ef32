-- A text's declarations are read in one way.
use Rattle.std.proofs.Common.{nat_lt, Bool, true, false, List, length, refl}
use Rattle.vsd_ast.specs.declared.declarations.Decl.{Decl}
use Rattle.vsd_grammar.specs.declared.keyword.Keyword.TheVariants as key
use Rattle.vsd_grammar.specs.declared.token_class.TokenClass.{TokenClass}
use Rattle.vsd_grammar.specs.declared.token_class.TokenClass.TheVariants as class
use Rattle.vsd_grammar.specs.Grammar.{Decides}
use Rattle.vsd_grammar.proofs.Deciding.{anything, decides_expect, decides_spelled_number}
use Rattle.vsd_decl_syntax.specs.Signatures.{word}
use Rattle.vsd_decl_syntax.proofs.Deciding.{decides_class, decides_passed}
use Rattle.vsd_decls.specs.declared.declarations.Item.{Item}
use Rattle.vsd_decls.specs.declared.declarations.Item.TheVariants as item
use Rattle.vsd_decls.specs.Grammar as spec

decides_room : (b : Bool) (F : TokenClass → Bool) → Decides (Unit {0}) (spec.room_for_class b) F
decides_room true F = tt
decides_room false F = tt

decides_another : (found : List Decl) (F : TokenClass → Bool) → Decides (List Decl) (spec.another found) F
unfolding spec.another
decides_another found F = (anything, decides_room (nat_lt (length found) spec.most_types) anything, λ u. ((anything, decides_class anything, λ d. (tt, λ i y j e g. refl)), λ i y j e g. refl))

decides_one_item : (found : List Decl) (F : TokenClass → Bool) → Decides (List Decl) (spec.one_item found) F
unfolding spec.one_item
decides_one_item found F = (anything, tt, λ h. (go (spec.item_of h.class), λ i y j e g. refl))
  where
    go : (k : Item) → Decides (List Decl) (spec.item_by found k) F
    go item.Class = decides_another found F
    go item.Passed = (anything, decides_passed anything, λ u. (tt, λ i y j e g. refl))
    go (item.Refused cause) = tt

decides_heading : (F : TokenClass → Bool) → Decides (Unit {0}) spec.heading F
unfolding spec.heading
decides_heading F = (anything, decides_expect (word key.Vsd) anything, λ u. ((anything, decides_spelled_number 1 1 1 anything, λ n. (tt, λ i y j e g. refl)), λ i y j e g. refl))

decides_items : Decides (List Decl) spec.items anything
unfolding spec.items
decides_items = (anything, λ t. (decides_one_item t anything, λ i x j d e. refl), λ q t e. refl)

pub decides_declarations : (F : TokenClass → Bool) → Decides (List Decl) spec.declarations F
unfolding spec.declarations
decides_declarations F = (
  anything,
  decides_heading anything,
  λ u. ((anything, decides_items, λ ds. ((anything, decides_expect class.Percents anything, λ v. (tt, λ i y j e g. refl)), λ i y j e g. refl)), λ i y j e g. refl),
)
