-- Texts of methods by their numbers, as far as they were made.
use Rattle.std.specs.Prelude.{◌≡◌, ◌⊎◌, ℕ, zero, suc, ◌<◌, List, [], length}
use Rattle.vsd_lines.specs.Lines.{text_at}
use Rattle.vsd_rule.specs.Lists.{entry}
use Rattle.vsd_itable.specs.Tables.{numbered_text, sel_of, tokens_count}
use Rattle.vsd_itable.specs.Value.{Value}

module _ (v : Value) (texts : List (List ℕ)) where
  -- each text is its method's, or was not made
  abbrev pub AreRight : Type 0
  AreRight = (n : ℕ) → (text_at texts n ≡ []) ⊎ (text_at texts n ≡ numbered_text v n)

  -- the text of the method of this number was made
  pub record IsNoted (n : ℕ) : Type 0 where
    pub there : n < length texts
    pub right : text_at texts n ≡ numbered_text v n

  -- the text of a target was made, where it is a method's
  abbrev pub IsTold : ℕ → Type 0
  IsTold zero = Unit {0}
  IsTold (suc n) = IsNoted n

  -- the targets of a type through the first tokens were told
  abbrev pub AreTold : ℕ → ℕ → Type 0
  AreTold t count = (k : ℕ) → k < count → IsTold (entry (sel_of v) (tokens_count v) t k)

-- what was made stays
abbrev pub Keeps : Value → List (List ℕ) → List (List ℕ) → Type 0
Keeps v old new = (n : ℕ) → IsNoted v old n → IsNoted v new n
