-- How the first of what shows in a pass is found cause by cause.
use Rattle.std.proofs.Common.{◌≡◌, ℕ, ◌≤◌, Bool, true, false, cond, ltb, Option, Some, None, ◌⊎◌, inl, inr, refl, sym, ap, subst, arith}
use Rattle.std.proofs.lemmas.Bool.{ltb-true, ltb-false, cases_order}
use Rattle.vsd_least.specs.Least.{IsLeast}
use Rattle.vsd_check.specs.Earliest.{IsFirst, sooner_of}
use Rattle.vsd_check.specs.Refusals.{NoLater, number_of}
use Rattle.vsd_check.specs.declared.refusal.Cause.{Cause}
use Rattle.vsd_check.specs.declared.refusal.Shown.{Shown}

-- nothing shows
pub IsFirst-none : (P : Shown → Type 0) → ((s : Shown) → ¬ P s) → IsFirst P None
IsFirst-none P none = record { shows = tt; first = none }

-- the first of something else that shows alike
pub IsFirst-same : (P Q : Shown → Type 0) (a : Option Shown) → ((s : Shown) → P s → Q s) → ((s : Shown) → Q s → P s) → IsFirst P a → IsFirst Q a
IsFirst-same P Q None to from h = record { shows = tt; first = λ s q. h.first s (from s q) }
IsFirst-same P Q (Some x) to from h = record { shows = to x h.shows; first = λ s q. h.first s (from s q) }

-- a cause whose number is not less than those before, at a line
abbrev pub At : Cause → (ℕ → Type 0) → Shown → Type 0
At c Q s = (s.cause ≡ c) × Q s.line

abbrev shown_at : Cause → ℕ → Shown
shown_at c n = record { line = n; cause = c }

-- with one cause more
pub IsFirst-sooner : (P : Shown → Type 0) (c : Cause) (Q : ℕ → Type 0) (a : Option Shown) (line : Option ℕ) (answer : Option Shown) → answer ≡ sooner_of a c line → ((s : Shown) → P s → number_of s.cause ≤ number_of c) → IsFirst P a → IsLeast Q line → IsFirst (λ s. P s ⊎ At c Q s) answer
IsFirst-sooner P c Q a line answer is below p q = subst (IsFirst (λ s. P s ⊎ At c Q s)) (sym is) (both a line p q)
  where
    choose : (f : Shown) (n : ℕ) (t : Bool) → ltb n f.line ≡ t → P f → Q n → ((s : Shown) → P s → NoLater f s) → ((m : ℕ) → Q m → n ≤ m) → IsFirst (λ s. P s ⊎ At c Q s) (cond t (Some (shown_at c n)) (Some f))
    choose f n true sooner pf qn first least = record {
      shows = inr (refl, qn);
      first = λ s e. elim e [
        | inl h ↦ (let before = first s h in let lt = ltb-true n f.line sooner in elim before [ inl less ↦ inl (omega arith) | inr same ↦ inl (omega (arith, same.0)) ])
        | inr h ↦ (let le = least s.line h.1 in elim (cases_order n s.line) [
          | inl e ↦ inr (e, omega (arith, ap number_of h.0))
          | inr other ↦ elim other [ inl less ↦ inl less | inr more ↦ absurd (omega arith) ]
        ])
      ];
    }
    choose f n false later pf qn first least = record {
      shows = inl pf;
      first = λ s e. elim e [
        | inl h ↦ first s h
        | inr h ↦ (let le = least s.line h.1 in let ge = ltb-false n f.line later in elim (cases_order f.line s.line) [
          | inl e ↦ inr (e, omega (arith, ap number_of h.0, below f pf))
          | inr other ↦ elim other [ inl less ↦ inl less | inr more ↦ absurd (omega arith) ]
        ])
      ];
    }

    both : (a : Option Shown) (line : Option ℕ) → IsFirst P a → IsLeast Q line → IsFirst (λ s. P s ⊎ At c Q s) (sooner_of a c line)
    both None None p q = record { shows = tt; first = λ s e. elim e [ inl h ↦ p.first s h | inr h ↦ absurd (q.least s.line h.1) ] }
    both (Some f) None p q = record { shows = inl p.shows; first = λ s e. elim e [ inl h ↦ p.first s h | inr h ↦ absurd (q.least s.line h.1) ] }
    both None (Some n) p q = record {
      shows = inr (refl, q.has);
      first = λ s e. elim e [
        | inl h ↦ absurd (p.first s h)
        | inr h ↦ (let le = q.least s.line h.1 in elim (cases_order n s.line) [
          | inl e ↦ inr (e, omega (arith, ap number_of h.0))
          | inr other ↦ elim other [ inl less ↦ inl less | inr more ↦ absurd (omega arith) ]
        ])
      ];
    }
    both (Some f) (Some n) p q = choose f n (ltb n f.line) refl p.shows q.has p.first q.least
