-- What the reading of a type is told of the closure that reads its arguments.
use Rattle.std.specs.Prelude.{ℕ, Result}
use Rattle.std.specs.Borrow.{MutBor}
use Rattle.vsd_terms.specs.declared.term.Term.{Term}
use Rattle.vsd_grammar.specs.declared.syntax_error.Stop.{Stop}
use Rattle.vsd_grammar.specs.Input.{Input}
use Rattle.vsd_grammar.specs.Grammar.{Outcome}
use Rattle.vsd_grammar.specs.Productions.{Reads}

-- each call of the closure reads this production
abbrev pub ReadsMore : (MutBor Input → ℕ → ℕ → Result Term Stop → MutBor Input → Type 0) → (ℕ → ℕ → Input → Outcome Term) → Type 0
ReadsMore post more = (old : MutBor Input) (index number : ℕ) (r : Result Term Stop) (new : MutBor Input) → post old index number r new → Reads (more index number old.now) r new.now
