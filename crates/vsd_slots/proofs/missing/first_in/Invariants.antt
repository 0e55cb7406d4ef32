-- Each method before this one has an implementation.
use Rattle.std.proofs.Common.{ℕ, ◌<◌}
use Rattle.vsd_slots.specs.Missing.{Misses}
use Rattle.vsd_slots.proofs.missing.first_in.Given as goal

abbrev pub invariant-loop-m : goal.invariant-loop-m
invariant-loop-m l = (n : ℕ) → n < l.m → Misses l.column n → ⊥
