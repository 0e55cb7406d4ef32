-- What a reader of scripts says of its answer.
use Rattle.std.specs.Prelude.{◌≡◌, Bool, true, List, Result, Ok, Err, IfOk}
use Rattle.vsd_text.specs.declared.tokens.Token.{Token}
use Rattle.vsd_grammar.specs.declared.token_class.TokenClass.{TokenClass}
use Rattle.vsd_grammar.specs.declared.syntax_error.SyntaxError.{SyntaxError}
use Rattle.vsd_grammar.specs.declared.syntax_error.Stop.{Stop}
use Rattle.vsd_grammar.specs.declared.syntax_error.Stop.TheVariants as stop
use Rattle.vsd_grammar.specs.Input.{Input}
use Rattle.vsd_grammar.specs.Grammar.{G, Outcome, run, Derives}
use Rattle.vsd_grammar.specs.Laws.{NoOther}
use Rattle.vsd_script.specs.declared.error.ScriptError.{ScriptError}
use Rattle.vsd_script.specs.declared.error.ScriptError.TheVariants.{Memory}
use Rattle.vsd_script.specs.Errors.{told}

-- the reading stops so, unless memory fails
abbrev pub StopsWith : {A : Type 0} → Outcome A → Stop → Type 0
StopsWith o stop.Memory = Unit {0}
StopsWith o (stop.Refused r) = o ≡ Err r

abbrev pub IsAnswerOf : {A : Type 0} → List Token → Outcome A → Result A ScriptError → Type 0
IsAnswerOf tokens o (Ok x) = (j : Input) × (o ≡ Ok (x, j))
IsAnswerOf tokens o (Err e) = (s : Stop) × (e ≡ told tokens s) × StopsWith o s

-- what is answered is what the production allows from this place
abbrev pub IsFound : {A : Type 0} → G A → Input → Result A ScriptError → Type 0
IsFound {A} g i result = IfOk result (λ x. (j : Input) × Derives A g i x j)

-- whatever the production allows from this place is what is answered, unless memory fails
abbrev pub IsOne : {A : Type 0} → A → Result A ScriptError → Type 0
IsOne y (Ok x) = y ≡ x
IsOne y (Err e) = e ≡ Memory

abbrev pub IsOnly : {A : Type 0} → G A → Input → Result A ScriptError → Type 0
IsOnly {A} g i result = (y : A) (k : Input) → Derives A g i y k → IsOne y result

-- any token may follow
abbrev pub anything : TokenClass → Bool
anything q = true

-- No list of tokens that is the same up to and with the token that decided the first refusal is allowed.
abbrev pub IsDead : {A : Type 0} → G A → Input → Type 0
IsDead {A} g i = (r : SyntaxError) → run A g i ≡ Err r → NoOther A g anything i r
