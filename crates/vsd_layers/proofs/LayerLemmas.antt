-- What comes next in a depth.
use Rattle.std.proofs.Common.{◌≡◌, ℕ, ◌+◌, ◌<◌, ◌≤◌, List, length, get_or, Option, None, Some, subst, inl, inr, arith}
use Rattle.std.proofs.lemmas.Bool.{cases_lt}
use Rattle.vsd_layers.specs.Layers.{IsNextAt, or_end}

module _ (depths : List ℕ) (depth from : ℕ) where
  -- between a number and the next one of the depth there is none
  pub none_between : (next : Option ℕ) → IsNextAt depths depth from next → (n : ℕ) → n < length depths → get_or depths n 0 ≡ depth → n < or_end next → n < from
  none_between None are n inside deep below = elim (cases_lt n from) [ inl lt ↦ lt | inr ge ↦ absurd (are.least n ge inside deep) ]
  none_between (Some m) are n inside deep below =
      elim (cases_lt n from) [
        | inl lt ↦ lt
        | inr ge ↦ (
            let lower : m ≤ n = are.least n ge inside deep in
            absurd (omega arith)
            )
      ]

  -- what comes next is a declaration of the depth
  pub in_layer : (at : ℕ) (next : Option ℕ) → next ≡ Some at → IsNextAt depths depth from next → (at < length depths) × (get_or depths at 0 ≡ depth)
  in_layer at next is are =
      let here = subst (IsNextAt depths depth from) is are in
      here.is.1

  -- what comes next from a number on is no lower
  pub no_lower : (next : Option ℕ) → from ≤ 1024 → IsNextAt depths depth from next → from ≤ or_end next
  no_lower None few are = few
  no_lower (Some n) few are = are.is.0

  -- what comes next is within what declarations there can be
  pub before_end : (next : Option ℕ) → length depths ≤ 1024 → IsNextAt depths depth from next → or_end next ≤ 1024
  before_end None few are = omega arith
  before_end (Some n) few are =
      let there : n < length depths = are.is.1.0 in
      omega arith
