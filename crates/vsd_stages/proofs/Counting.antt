-- There are no more tokens than sites.
use Rattle.std.proofs.Common.{◌+◌, ◌≤◌, true, false, cond, List, [], ◌∷◌, ◌++◌, length, fold, length-append, arith}
use Rattle.vsd_answers.specs.Numbering.{Pair, is_listed, tokens_of, with_pair}

one_more : (ts : List Pair) (p : Pair) → length (with_pair ts p) ≤ length ts + 1
one_more ts p =
    elim (is_listed ts p) as (λ b. length (cond b ts (ts ++ p ∷ [])) ≤ length ts + 1) [
      | true ↦ omega arith
      | false ↦ omega (arith, length-append ts (p ∷ []))
    ]

few_after : (ps ts : List Pair) → length (fold with_pair ts ps) ≤ length ts + length ps
few_after [] ts = omega arith
few_after (p ∷ ps) ts = omega (arith, one_more ts p, few_after ps (with_pair ts p))

pub few_tokens : (pairs : List Pair) → length (tokens_of pairs) ≤ length pairs
few_tokens pairs = omega (arith, few_after pairs [])
