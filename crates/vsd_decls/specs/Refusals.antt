-- What a refusal tells.
use Rattle.std.specs.Prelude.{ℕ, Option, Some, None}
use Rattle.vsd_grammar.specs.declared.cause.Cause.{Cause}
use Rattle.vsd_grammar.specs.declared.cause.Cause.TheVariants as cause
use Rattle.vsd_decls.specs.declared.errors.DeclError.{DeclError}
use Rattle.vsd_decls.specs.declared.errors.DeclError.TheVariants.{Unexpected, Unsupported, TooMany, TooDeep, Memory}

-- the line, and the cause; nothing where memory is out
abbrev pub refusal_of : DeclError → Option (ℕ × Cause)
refusal_of (Unexpected line) = Some (line, cause.Unexpected)
refusal_of (Unsupported line what) = Some (line, cause.Unsupported what)
refusal_of (TooMany line what) = Some (line, cause.TooMany what)
refusal_of (TooDeep line) = Some (line, cause.TooDeep)
refusal_of Memory = None
