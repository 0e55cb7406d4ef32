-- No bucket before this one is marked.
use Rattle.std.proofs.Common.{ℕ, ◌<◌, get_or}
use Rattle.vsd_slots.specs.Marks.{IsFree}
use Rattle.vsd_slots.proofs.marking.is_marked.Given as goal

abbrev pub invariant-loop-m : goal.invariant-loop-m
invariant-loop-m l = (k : ℕ) → k < l.m → IsFree l.marks (get_or l.buckets k 0)
