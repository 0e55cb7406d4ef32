-- Each entry before this one stays.
use Rattle.std.proofs.Common.{ℕ, ◌<◌, None, true, get_or}
use Rattle.vsd_slots.specs.Entries.{IsCombined, nothing}
use Rattle.vsd_slots.proofs.sharing.all_stay.Given as goal

abbrev pub invariant-loop-m : goal.invariant-loop-m
invariant-loop-m l = (n : ℕ) → n < l.m → IsCombined None None true (get_or l.column n nothing) (get_or l.column n nothing)
