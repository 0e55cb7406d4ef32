-- The members of a declaration.
use Rattle.std.specs.Prelude.{ℕ, Bool, true, false, List, []}
use Rattle.vsd_ast.specs.declared.declarations.Param.{Param}
use Rattle.vsd_ast.specs.declared.declarations.Override.{Override}
use Rattle.vsd_grammar.specs.declared.keyword.Keyword.{Keyword}
use Rattle.vsd_grammar.specs.declared.keyword.Keyword.TheVariants as key
use Rattle.vsd_grammar.specs.declared.token_class.TokenClass.{TokenClass}
use Rattle.vsd_grammar.specs.declared.token_class.TokenClass.TheVariants as class
use Rattle.vsd_grammar.specs.declared.cause.Cause.TheVariants.{Unexpected, Unsupported}
use Rattle.vsd_grammar.specs.declared.cause.Form.TheVariants as form
use Rattle.vsd_grammar.specs.Input.{Lookahead}
use Rattle.vsd_grammar.specs.Grammar.{G, ret, refuse, lookahead, pass, bind, until}
use Rattle.vsd_grammar.specs.Skipping.{skip}
use Rattle.vsd_decl_syntax.specs.Overrides.{class_override}
use Rattle.vsd_decl_syntax.specs.Methods.{method, closes, ends_item}
use Rattle.vsd_decl_syntax.specs.declared.members.Members.{Members}
use Rattle.vsd_decl_syntax.specs.declared.members.Kind.{Kind}
use Rattle.vsd_decl_syntax.specs.declared.members.Kind.TheVariants as kind

abbrev pub directive_kind : Keyword → Kind
directive_kind key.DotMethod = kind.Method
directive_kind key.DotOverride = kind.Override
directive_kind key.DotField = kind.Passed
directive_kind key.DotProperty = kind.Passed
directive_kind key.DotEvent = kind.Passed
directive_kind key.DotCustom = kind.Passed
directive_kind key.DotPack = kind.Passed
directive_kind key.DotSize = kind.Passed
directive_kind key.DotParam = kind.Passed
directive_kind key.DotInterfaceImpl = kind.Passed
directive_kind key.DotData = kind.Passed
directive_kind key.DotPermissionSet = kind.Passed
directive_kind key.DotLanguage = kind.Passed
directive_kind key.DotLine = kind.Passed
directive_kind key.DotClass = kind.Refused (Unsupported form.Nested)
directive_kind key.DotNamespace = kind.Refused (Unsupported form.Namespace)
directive_kind _ = kind.Refused Unexpected

-- what a token begins where a member may stand
abbrev pub kind_of : TokenClass → Kind
kind_of (class.Directive k) = directive_kind k
kind_of _ = kind.Refused Unexpected

-- an item that is passed over
unfoldable pub passed : G (Unit {0})
passed = bind (Unit {0}) (Unit {0}) pass (λ _. bind ℕ (Unit {0}) (skip ends_item) (λ _. ret (Unit {0}) tt))

unfoldable pub overridden : List Param → Members → G Members
overridden params found = bind (List Override) Members (class_override params found.overrides) (λ overrides.
    ret Members (record { methods = found.methods; overrides = overrides }))

abbrev pub member_by : Bool → List Param → Members → Kind → G Members
member_by is_interface params found kind.Method = method is_interface params found
member_by is_interface params found kind.Override = overridden params found
member_by is_interface params found kind.Passed = bind (Unit {0}) Members passed (λ _. ret Members found)
member_by is_interface params found (kind.Refused cause) = refuse Members cause

unfoldable pub member : Bool → List Param → Members → G Members
member is_interface params found = bind Lookahead Members lookahead (λ h. member_by is_interface params found (kind_of h.class))

abbrev pub no_members : Members
no_members = record { methods = []; overrides = [] }

-- { member }
unfoldable pub members : Bool → List Param → G Members
members is_interface params = until Members closes (member is_interface params) no_members
