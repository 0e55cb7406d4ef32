-- What a function that reads a production answers. These serve productions with parameters, where no law's function does.
use Rattle.std.proofs.Common.{◌≡◌, ◌≤◌, Bool, IsTrue, Result, Ok, Err, sym, subst, ◌∙◌, arith}
use Rattle.vsd_grammar.specs.declared.token_class.TokenClass.{TokenClass}
use Rattle.vsd_grammar.specs.declared.syntax_error.SyntaxError.{SyntaxError}
use Rattle.vsd_grammar.specs.declared.syntax_error.Stop.{Stop}
use Rattle.vsd_grammar.specs.declared.syntax_error.Stop.TheVariants as stop
use Rattle.vsd_grammar.specs.Input.{Input}
use Rattle.vsd_grammar.specs.Grammar.{G, Outcome, run, Decides}
use Rattle.vsd_grammar.specs.Productions.{ReadsBy}
use Rattle.vsd_grammar.specs.Laws.{Found, Only, Dead, IsReader, any_step, any_cause, KeepsCauses, StandsInList}
use Rattle.vsd_grammar.proofs.Outcomes.{ok_parts, err_ok}
use Rattle.vsd_grammar.proofs.Bounds.{Within, within}
use Rattle.vsd_grammar.proofs.Soundness.{sound}
use Rattle.vsd_grammar.proofs.Completeness.{complete}
use Rattle.vsd_grammar.proofs.Consequences.{dead}
use Rattle.vsd_grammar.proofs.Refusals.{Holds, holds, all_pass}

pub found : {B : Type 0} (A : Type 0) (g : G A) (view : B → A) (i : Input) (result : Result B Stop) (j : Input) → ReadsBy view (run A g i) result j → Found A g view i result j
found A g view i (Ok x) j e = sound A g i (view x) j e
found A g view i (Err s) j e = tt

pub only : {B : Type 0} (A : Type 0) (g : G A) (F : TokenClass → Bool) (view : B → A) (i : Input) (result : Result B Stop) (j : Input) → Decides A g F → ReadsBy view (run A g i) result j
    → Only A g F view i result j
only A g F view i (Ok x) j c e = λ y k d f. ok_parts y (view x) k j (sym (complete A g F i y k c d f) ∙ e)
only A g F view i (Err stop.Memory) j c e = λ y k d f. tt
only A g F view i (Err (stop.Refused r)) j c e = λ y k d f. err_ok r y k (sym e ∙ complete A g F i y k c d f)

pub no_other : {B : Type 0} (A : Type 0) (g : G A) (F : TokenClass → Bool) (view : B → A) (i : Input) (result : Result B Stop) (j : Input) → Decides A g F → ReadsBy view (run A g i) result j
    → Dead A g F i result
no_other A g F view i (Ok x) j c e = tt
no_other A g F view i (Err stop.Memory) j c e = tt
no_other A g F view i (Err (stop.Refused r)) j c e = λ ys x k same d f. dead A g F c i r ys x k e same d f

pub reads_well : (A : Type 0) (g : G A) (F : TokenClass → Bool) → Decides A g F → IsReader A g F
reads_well A g F c i j result e = (found A g (λ x. x) i result j e, only A g F (λ x. x) i result j c e, no_other A g F (λ x. x) i result j c e)

refused : {A : Type 0} (P : SyntaxError → Type 0) (o : Outcome A) (r : SyntaxError) → Holds P o → o ≡ Err r → P r
refused P o r h e = subst (Holds P) e h

pub keeps_causes : (A : Type 0) (g : G A) → KeepsCauses A g
keeps_causes A g test i r c e = refused (λ s. IsTrue (test s.cause)) (run A g i) r (holds test any_step (λ s. IsTrue (test s.cause)) (λ i cause t. t) (λ index i cause t. t) A g i c) e

pub stands_in_list : (A : Type 0) (g : G A) → StandsInList A g
stands_in_list A g i r inside e =
    let low : r.at ≤ r.by = refused (λ s. s.at ≤ s.by) (run A g i) r (holds any_cause any_step (λ s. s.at ≤ s.by) (λ i cause t. omega arith) (λ index i cause t. omega arith) A g i (all_pass A g)) e in
    let near = subst (Within i) e (within A g i) in
    (low, near.0, omega arith)
