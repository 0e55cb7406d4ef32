-- What is left to be made gives what all gives.
use Rattle.std.proofs.Common.{◌≡◌, ◌-◌, map, drop}
use Rattle.vsd_lanes.specs.Meaning.{makes, times_of, joined, written_of}
use Rattle.vsd_lanes.proofs.meaning.+again.Given as goal

abbrev pub invariant-rounds-loop-round : goal.invariant-rounds-loop-round
invariant-rounds-loop-round l =
    makes l.room (times_of l.times (joined (map written_of l.body))) l.fn.running ≡ makes l.room (times_of (l.times - l._round) (joined (map written_of l.body))) l.running

abbrev pub invariant-sequence-loop-item : goal.invariant-sequence-loop-item
invariant-sequence-loop-item l =
    makes l.room (joined (map written_of l.items)) l.fn.running ≡ makes l.room (joined (map written_of (drop l.item-index l.item-items))) l.running
