-- The laws in the form of `specs/Laws`.
use Rattle.std.proofs.Common.{Bool, sym, subst, ◌∙◌}
use Rattle.vsd_grammar.specs.declared.token_class.TokenClass.{TokenClass}
use Rattle.vsd_grammar.specs.Grammar.{G, run, Decides}
use Rattle.vsd_grammar.specs.Laws.{over, KeepsReading, KeepsRefusal, GoesForward, IsDead, IsUnambiguous}
use Rattle.vsd_grammar.proofs.Outcomes.{ok_parts, err_ok}
use Rattle.vsd_grammar.proofs.Bounds.{within}
use Rattle.vsd_grammar.proofs.Keeping.{Keeps, keeps, within_result}
use Rattle.vsd_grammar.proofs.Completeness.{complete}

pub goes_forward : (A : Type 0) (g : G A) → GoesForward A g
goes_forward A g i x j e = within_result i (run A g i) x j (within A g i) e

pub keeps_reading : (A : Type 0) (g : G A) → KeepsReading A g
keeps_reading A g i x j ys e same = subst (λ o. Keeps ys i o (run A g (over ys i))) e (keeps A g ys i) same

pub keeps_refusal : (A : Type 0) (g : G A) → KeepsRefusal A g
keeps_refusal A g i r ys e same = subst (λ o. Keeps ys i o (run A g (over ys i))) e (keeps A g ys i) same

pub dead : (A : Type 0) (g : G A) (F : TokenClass → Bool) → Decides A g F → IsDead A g F
dead A g F c i r ys x j e same d f =
    err_ok r x j (sym (keeps_refusal A g i r ys e same) ∙ complete A g F (over ys i) x j c d f)

pub unambiguous : (A : Type 0) (g : G A) (F : TokenClass → Bool) → Decides A g F → IsUnambiguous A g F
unambiguous A g F c i x y j k d e f h = ok_parts x y j k (sym (complete A g F i x j c d f) ∙ complete A g F i y k c e h)
