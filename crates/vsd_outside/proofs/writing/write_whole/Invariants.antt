use Rattle.std.proofs.Common.{◌≡◌, ℕ, ◌-◌, ◌≤◌, length, take}
use Rattle.std.specs.Io.KnownBytes.{append_known}
use Rattle.vsd_outside.proofs.writing.write_whole.Given as goal

abbrev pub invariant-loop-at : goal.invariant-loop-at
invariant-loop-at g l = record {
  taken : g.K.Sink.taken l.sink ≡ append_known (g.K.Sink.taken l.initial.sink) (take l.at l.bytes);
  within : l.at ≤ length l.bytes;
  no_fault : g.K.Sink.faults l.sink ≡ g.K.Sink.faults l.initial.sink;
  room_left : (size : ℕ) → g.K.Sink.has_room l.initial.sink size → g.K.Sink.has_room l.sink (size - l.at);
}

abbrev pub decreases-loop-at : goal.decreases-loop-at
decreases-loop-at g l = length l.bytes - l.at
