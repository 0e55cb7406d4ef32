-- What the reading of a production tells of the answer.
use Rattle.std.proofs.Common.{◌≡◌, List, Ok, Err, refl}
use Rattle.vsd_text.specs.declared.tokens.Token.{Token}
use Rattle.vsd_grammar.specs.declared.syntax_error.Stop.{Stop}
use Rattle.vsd_grammar.specs.declared.syntax_error.Stop.TheVariants as stop
use Rattle.vsd_grammar.specs.Input.{Input}
use Rattle.vsd_grammar.specs.Grammar.{G, Outcome, run, Derives, Decides}
use Rattle.vsd_grammar.specs.Productions.{Reads}
use Rattle.vsd_grammar.proofs.Consequences.{dead}
use Rattle.vsd_grammar.proofs.Results.{reads_well}
use Rattle.vsd_script.specs.declared.error.ScriptError.TheVariants.{Memory}
use Rattle.vsd_script.specs.Errors.{told}
use Rattle.vsd_script.specs.Answers.{StopsWith, IsDead, anything}

pub stops_with : {A : Type 0} (o : Outcome A) (s : Stop) (j : Input) → Reads {A = A} o (Err s) j → StopsWith o s
stops_with o stop.Memory j d = tt
stops_with o (stop.Refused r) j d = d

module _ {A : Type 0} (g : G A) (c : Decides A g anything) (i j : Input) where
  pub what_is_found : (x : A) → run A g i ≡ Ok (x, j) → Derives A g i x j
  what_is_found x e = (reads_well A g anything c i j (Ok x) e).0

  pub nothing_else : (x : A) → run A g i ≡ Ok (x, j) → (y : A) (k : Input) → Derives A g i y k → y ≡ x
  nothing_else x e y k d = ((reads_well A g anything c i j (Ok x) e).1 y k d refl).0

  pub nothing_allowed : (tokens : List Token) (s : Stop) → Reads {A = A} (run A g i) (Err s) j → (y : A) (k : Input) → Derives A g i y k → told tokens s ≡ Memory
  nothing_allowed tokens stop.Memory e y k d = refl
  nothing_allowed tokens (stop.Refused r) e y k d = absurd ((reads_well A g anything c i j (Err (stop.Refused r)) e).1 y k d refl)

pub is_dead : {A : Type 0} (g : G A) → Decides A g anything → (i : Input) → IsDead g i
is_dead {A} g c i r e = λ ys x j same d f. dead A g anything c i r ys x j e same d f
