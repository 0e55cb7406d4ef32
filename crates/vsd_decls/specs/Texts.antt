-- The texts of what isn't supported and of what may be there only so many times.
use Rattle.std.specs.Prelude.{ℕ, List, codes}
use Rattle.vsd_grammar.specs.declared.cause.Form.{Form}
use Rattle.vsd_grammar.specs.declared.cause.Form.TheVariants as form
use Rattle.vsd_grammar.specs.declared.cause.Counted.{Counted}
use Rattle.vsd_grammar.specs.declared.cause.Counted.TheVariants as limit

unfoldable pub form_text : Form → List ℕ
form_text form.Nested = codes "nested"
form_text form.TypeForwarding = codes "type forwarding"
form_text form.Namespace = codes "namespace"
form_text form.Enum = codes "enum"
form_text form.Delegate = codes "delegate"
form_text form.ForeignType = codes "foreign type"
form_text form.Constraint = codes "constraint"
form_text form.GenericMethod = codes "generic method"
form_text form.Array = codes "array"
form_text form.Pointer = codes "pointer"
form_text form.NativeInt = codes "native int"
form_text form.TypedReference = codes "typedref"
form_text form.Modifier = codes "modifier"
form_text form.Marshal = codes "marshal"
form_text form.Vararg = codes "vararg"
form_text form.StaticInterfaceMethod = codes "static interface method"
form_text form.DefaultInterfaceMethod = codes "default interface method"

unfoldable pub counted_text : Counted → List ℕ
counted_text limit.Types = codes "types"
counted_text limit.Names = codes "names"
counted_text limit.Parameters = codes "parameters"
counted_text limit.Interfaces = codes "interfaces"
counted_text limit.Methods = codes "methods"
counted_text limit.Overrides = codes "overrides"
counted_text limit.Arguments = codes "arguments"
counted_text limit.NameBytes = codes "name bytes"
