-- Texts of methods as they are made.
use Rattle.std.proofs.Common.{◌≡◌, ◌≢◌, ℕ, zero, suc, ◌+◌, ◌<◌, ◌≤◌, List, [], length, set, inl, inr, ⊎_elim, sym, subst, ◌∙◌, arith}
use Rattle.std.proofs.lemmas.Bool.{cases_eq}
use Rattle.std.proofs.lemmas.List.{get_or-set_same, get_or-set_other, length-set}
use Rattle.vsd_lines.specs.Lines.{text_at}
use Rattle.vsd_rule.specs.Lists.{entry}
use Rattle.vsd_itable.specs.Tables.{numbered_text, sel_of, tokens_count}
use Rattle.vsd_itable.specs.Value.{Value}
use Rattle.vsd_stages.specs.Noted.{AreRight, AreTold, IsNoted, IsTold, Keeps}

module _ (v : Value) (old mid : List (List ℕ)) (same : (m : ℕ) → text_at mid m ≡ text_at old m) (grows : length old ≤ length mid) where
  pub stays_keeps : Keeps v old mid
  stays_keeps m noted = record { there = let below = noted.there in omega (arith, below, grows); right = same m ∙ noted.right }

  pub stays_right : AreRight v old → AreRight v mid
  stays_right right m = ⊎_elim (λ none. inl (same m ∙ none)) (λ is. inr (same m ∙ is)) (right m)

  pub stays_noted : (n : ℕ) → n < length mid → AreRight v old → text_at mid n ≢ [] → IsNoted v mid n
  stays_noted n below right some = ⊎_elim (λ none. absurd (some (same n ∙ none))) (λ is. record { there = below; right = same n ∙ is }) (right n)

  module _ (n : ℕ) (below : n < length mid) (x : List ℕ) (is : x ≡ numbered_text v n) where
    set_here : text_at (set mid n x) n ≡ numbered_text v n
    set_here = get_or-set_same mid n x [] below ∙ is

    pub set_noted : IsNoted v (set mid n x) n
    set_noted = record { there = let long = length-set mid n x in omega (arith, below, long); right = set_here }

    pub set_keeps : Keeps v old (set mid n x)
    set_keeps m noted = record {
      there = let long = length-set mid n x in let first = noted.there in omega (arith, first, grows, long);
      right = ⊎_elim (λ here. subst (λ k. text_at (set mid n x) k ≡ numbered_text v k) (sym here) set_here)
          (λ apart. get_or-set_other mid n m x [] apart ∙ same m ∙ noted.right) (cases_eq m n);
    }

    pub set_right : AreRight v old → AreRight v (set mid n x)
    set_right right m =
        ⊎_elim (λ here. inr (subst (λ k. text_at (set mid n x) k ≡ numbered_text v k) (sym here) set_here))
        (λ apart. let still = get_or-set_other mid n m x [] apart ∙ same m in ⊎_elim (λ none. inl (still ∙ none)) (λ held. inr (still ∙ held)) (right m)) (cases_eq m n)

pub keeps_both : (v : Value) (xs ys zs : List (List ℕ)) → Keeps v xs ys → Keeps v ys zs → Keeps v xs zs
keeps_both v xs ys zs first second n noted = second n (first n noted)

pub told_still : (v : Value) (xs ys : List (List ℕ)) → Keeps v xs ys → (number : ℕ) → IsTold v xs number → IsTold v ys number
told_still v xs ys keeps zero told = tt
told_still v xs ys keeps (suc n) told = keeps n told

pub told_more : (v : Value) (xs ys : List (List ℕ)) (t k : ℕ) → Keeps v xs ys → AreTold v xs t k → IsTold v ys (entry (sel_of v) (tokens_count v) t k) → AreTold v ys t (k + 1)
told_more v xs ys t k keeps told here j below =
    ⊎_elim (λ last. subst (λ i. IsTold v ys (entry (sel_of v) (tokens_count v) t i)) (sym last) here)
    (λ apart. told_still v xs ys keeps (entry (sel_of v) (tokens_count v) t j) (told j (omega (arith, below, apart)))) (cases_eq j k)

-- a target by its number
pub told_method : (v : Value) (texts : List (List ℕ)) (n number : ℕ) → n + 1 ≡ number → IsNoted v texts n → IsTold v texts number
told_method v texts n zero is noted = absurd (omega (arith, is))
told_method v texts n (suc m) is noted = subst (IsNoted v texts) (omega (arith, is)) noted

pub told_missing : (v : Value) (texts : List (List ℕ)) (number : ℕ) → 0 ≡ number → IsTold v texts number
told_missing v texts zero is = tt
told_missing v texts (suc m) is = absurd (omega (arith, is))

-- one more type is told
pub told_types : (v : Value) (xs ys : List (List ℕ)) (n t : ℕ) → Keeps v xs ys → ((i : ℕ) → i < t → AreTold v xs i n) → AreTold v ys t n
    → (i : ℕ) → i < t + 1 → AreTold v ys i n
told_types v xs ys n t keeps told here i below =
    ⊎_elim (λ last. subst (λ j. AreTold v ys j n) (sym last) here)
    (λ apart k less. told_still v xs ys keeps (entry (sel_of v) (tokens_count v) i k) (told i (omega (arith, below, apart)) k less)) (cases_eq i t)
