-- The causes of what a token begins at a type's place.
use Rattle.std.proofs.Common.{ℕ, Bool, true, false, cond, eqb, IsTrue, List, length, Option, Some, None, IfSome}
use Rattle.vsd_grammar.specs.declared.cause.Cause.{Cause}
use Rattle.vsd_grammar.specs.declared.cause.Cause.TheVariants.{Unexpected}
use Rattle.vsd_grammar.specs.declared.keyword.Keyword.{Keyword}
use Rattle.vsd_grammar.specs.declared.keyword.Keyword.TheVariants as key
use Rattle.vsd_grammar.specs.declared.token_class.TokenClass.{TokenClass}
use Rattle.vsd_grammar.specs.declared.token_class.TokenClass.TheVariants as class
use Rattle.vsd_type_syntax.specs.declared.starts.Start.{Start}
use Rattle.vsd_type_syntax.specs.declared.starts.Start.TheVariants as start
use Rattle.vsd_type_syntax.specs.declared.starts.Special.{Special}
use Rattle.vsd_type_syntax.specs.declared.starts.Special.TheVariants as special
use Rattle.vsd_type_syntax.specs.Starts.{word_start, start_of, is_class, named_start, start_at, special_of}
use Rattle.vsd_type_syntax.specs.Types.{name_cause, start_cause, first_cause}
use Rattle.vsd_type_syntax.specs.Behaving.{TypesPass, StartPasses}

module _ (test : Cause → Bool) (p : TypesPass test) where
  word_passes : (k : Keyword) → StartPasses test (word_start k)
  word_passes key.Native = p.forms _
  word_passes key.TypedReference = p.forms _
  word_passes key.Method = p.forms _
  word_passes _ = tt

  symbol_passes : (a b : Bool) → StartPasses test (cond a start.Parameter (cond b start.Scope (start.Refused Unexpected)))
  symbol_passes true b = tt
  symbol_passes false true = tt
  symbol_passes false false = p.unexpected

  class_passes : (q : TokenClass) → StartPasses test (start_of q)
  class_passes (class.Word k) = word_passes k
  class_passes class.Quoted = tt
  class_passes (class.Symbol b) = symbol_passes (eqb b 33) (eqb b 91)
  class_passes class.End = p.unexpected
  class_passes (class.Directive k) = p.unexpected
  class_passes class.Number = p.unexpected
  class_passes class.Text = p.unexpected
  class_passes class.Colons = p.unexpected
  class_passes class.Percents = p.unexpected

  named_passes : (s : Start) → StartPasses test s → StartPasses test (named_start s)
  named_passes start.Parameter t = p.unexpected
  named_passes start.Unsigned t = p.unexpected
  named_passes (start.Builtin b) t = go (is_class b)
    where
      go : (c : Bool) → StartPasses test (cond c (start.Builtin b) (start.Refused Unexpected))
      go true = tt
      go false = p.unexpected
  named_passes start.Keyworded t = tt
  named_passes start.Scope t = tt
  named_passes start.Name t = tt
  named_passes (start.Refused cause) t = t

  pub start_passes : (only_named : Bool) (q : TokenClass) → StartPasses test (start_at only_named q)
  start_passes true q = named_passes (start_of q) (class_passes q)
  start_passes false q = class_passes q

  -- the first test of a list of types
  pub first_passes : (only_named : Bool) (q : TokenClass) (bytes : List ℕ) → IfSome (first_cause only_named q bytes) (λ c. IsTrue (test c))
  unfolding first_cause
  first_passes only_named q bytes = go (start_at only_named q) (start_passes only_named q)
    where
      empty : (b : Bool) → IfSome (cond {A = Option Cause} b (Some Unexpected) None) (λ c. IsTrue (test c))
      empty true = p.unexpected
      empty false = tt

      by : (b : Bool) (s : Special) → IfSome (name_cause b s) (λ c. IsTrue (test c))
      by b (special.Builtin d) = tt
      by b (special.Refused f) = p.forms f
      by b special.Nothing = empty b

      go : (s : Start) → StartPasses test s → IfSome (start_cause s bytes) (λ c. IsTrue (test c))
      go (start.Refused cause) t = t
      go start.Name t = by (eqb (length bytes) 0) (special_of bytes)
      go start.Parameter t = tt
      go start.Keyworded t = tt
      go start.Scope t = tt
      go (start.Builtin b) t = tt
      go start.Unsigned t = tt
