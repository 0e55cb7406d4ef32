-- What a function that reads parts of a lane is told of the closure that reads one.
use Rattle.std.specs.Prelude.{Result}
use denote.Ref.{MutBor}
use Rattle.vsd_grammar.specs.declared.syntax_error.Stop.{Stop}
use Rattle.vsd_grammar.specs.Input.{Input}
use Rattle.vsd_grammar.specs.Grammar.{Outcome}
use Rattle.vsd_grammar.specs.Productions.{Reads}

-- each call of the closure reads as this reading does
abbrev pub ReadsStep : {S T : Type 0} → (MutBor Input → S → Result T Stop → MutBor Input → Type 0) → (S → Input → Outcome T) → Type 0
ReadsStep {S} {T} post step = (old : MutBor Input) (s : S) (r : Result T Stop) (new : MutBor Input) → post old s r new → Reads (step s old.now) r new.now
