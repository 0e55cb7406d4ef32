use Rattle.std.proofs.Common.{ℕ, ◌<◌, ◌≤◌, ◌^◌, arith}
use Rattle.std.proofs.Math.Nat.{pow-le-pow_right}
use Rattle.vsd_grammar.proofs.decimal.value_of.Goals as goal

small : (v i : ℕ) → v < 10 ^ i → i < 9 → v < 100000000
small v i h k =
    let some : 0 < 10 = omega arith in
    let below : i ≤ 8 = omega arith in
    let p : 10 ^ i ≤ 10 ^ 8 = pow-le-pow_right some below in
    omega arith

pub overflow_mul-value : goal.overflow_mul-value
overflow_mul-value c = let h = small c.loop-digit.value c.loop-digit.digit-index c.loop-digit.invariant.small (omega arith) in omega arith

pub overflow_add-value : goal.overflow_add-value
overflow_add-value c = let h = small c.loop-digit.value c.loop-digit.digit-index c.loop-digit.invariant.small (omega arith) in omega arith
