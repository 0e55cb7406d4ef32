-- Which causes a reading of types may have, by a test that they pass.
use Rattle.std.specs.Prelude.{ℕ, Bool, IsTrue, List, MatchResult, IfSome}
use Rattle.vsd_grammar.specs.declared.cause.Cause.{Cause}
use Rattle.vsd_grammar.specs.declared.cause.Cause.TheVariants.{Unexpected, Unsupported, TooMany, TooDeep}
use Rattle.vsd_grammar.specs.declared.cause.Counted.TheVariants as limit
use Rattle.vsd_grammar.specs.declared.cause.Form.{Form}
use Rattle.vsd_grammar.specs.Input.{State}
use Rattle.vsd_type_syntax.specs.declared.starts.Start.{Start}
use Rattle.vsd_type_syntax.specs.declared.starts.Start.TheVariants as start
use Rattle.vsd_type_syntax.specs.Types.{Rules}

-- the causes of the syntax itself
pub record TypesPass (test : Cause → Bool) : Type 0 where
  pub unexpected : IsTrue (test Unexpected)
  pub forms : (f : Form) → IsTrue (test (Unsupported f))
  pub long : IsTrue (test (TooMany limit.NameBytes))
  pub deep : IsTrue (test TooDeep)

-- those of a reader's rules, whose steps keep to a relation
pub record RulesPass (test : Cause → Bool) (keeps : State → State → Bool) (rules : Rules) : Type 0 where
  pub resolve : (bytes : List ℕ) (s : State) → MatchResult (rules.resolve bytes s) (λ r. IsTrue (keeps s r.1)) (λ c. IsTrue (test c))
  pub foreign : (bytes : List ℕ) → IsTrue (test (rules.foreign bytes))
  pub arity : (number count : ℕ) → IfSome (rules.arity number count) (λ c. IsTrue (test c))

abbrev pub StartPasses : (Cause → Bool) → Start → Type 0
StartPasses test (start.Refused cause) = IsTrue (test cause)
StartPasses test _ = Unit {0}
