-- Which refusal each cause is in a script.
use Rattle.std.specs.Prelude.{ℕ, List}
use Rattle.vsd_text.specs.declared.tokens.Token.{Token}
use Rattle.vsd_grammar.specs.declared.cause.Cause.{Cause}
use Rattle.vsd_grammar.specs.declared.cause.Cause.TheVariants as cause
use Rattle.vsd_grammar.specs.declared.syntax_error.Stop.{Stop}
use Rattle.vsd_grammar.specs.declared.syntax_error.Stop.TheVariants as stop
use Rattle.vsd_grammar.specs.Place.{line_of}
use Rattle.vsd_script.specs.declared.error.ScriptError.{ScriptError}
use Rattle.vsd_script.specs.declared.error.ScriptError.TheVariants as error

-- A form of type that isn't supported and a name that is too long are unexpected.
abbrev pub error_of : Cause → ℕ → ScriptError
error_of cause.Unexpected line = error.Unexpected line
error_of (cause.Unsupported form) line = error.Unexpected line
error_of (cause.TooMany what) line = error.Unexpected line
error_of cause.TooDeep line = error.TooDeep line
error_of cause.UnknownName line = error.UnknownName line
error_of cause.Twice line = error.Twice line
error_of cause.TooManyLive line = error.TooManyLive line
error_of cause.TooManyOperations line = error.TooManyOps line
error_of (cause.TooManyListed what) line = error.TooMany line what
error_of cause.NotConcrete line = error.NotConcrete line
error_of cause.UnknownMethod line = error.UnknownMethod line
error_of cause.Arity line = error.Arity line

-- at the line of its token
abbrev pub told : List Token → Stop → ScriptError
told tokens stop.Memory = error.Memory
told tokens (stop.Refused r) = error_of r.cause (line_of tokens r.at)
