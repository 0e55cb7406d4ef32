-- The causes that declarations may be refused for.
use Rattle.std.specs.Prelude.{Bool, true, false}
use Rattle.vsd_grammar.specs.declared.cause.Cause.{Cause}
use Rattle.vsd_grammar.specs.declared.cause.Cause.TheVariants.{Unexpected, Unsupported, TooMany, TooDeep}

abbrev pub is_decl_cause : Cause → Bool
is_decl_cause Unexpected = true
is_decl_cause (Unsupported form) = true
is_decl_cause (TooMany limit) = true
is_decl_cause TooDeep = true
is_decl_cause _ = false
