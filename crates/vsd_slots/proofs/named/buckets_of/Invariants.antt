-- The methods before this one have their buckets.
use Rattle.std.proofs.Common.{◌≡◌, ℕ, ◌<◌, Some, length, get_or}
use Rattle.std.specs.List.{slice_get}
use Rattle.vsd_ast.specs.declared.declarations.Method.{Method}
use Rattle.vsd_slots.specs.Named.{bucket}
use Rattle.vsd_slots.proofs.named.buckets_of.Given as goal

abbrev pub invariant-loop-m : goal.invariant-loop-m
invariant-loop-m l = record {
  long : length l.found ≡ l.m;
  each : (k : ℕ) (x : Method) → k < l.m → slice_get l.methods k ≡ Some x → get_or l.found k 0 ≡ bucket x.name;
}
