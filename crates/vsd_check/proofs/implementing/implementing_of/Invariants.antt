-- The least lines so far are those of the declarations so far.
use Rattle.vsd_least.specs.Least.{IsLeast, AtSome, Until}
use Rattle.vsd_overrides.specs.Conditions.{ShowsRepeatedOverride, ShowsUnknownOverride}
use Rattle.vsd_check.proofs.implementing.implementing_of.Given as goal

abbrev pub invariant-loop-place : goal.invariant-loop-place
invariant-loop-place l = record {
  unknown : IsLeast (AtSome l.list (Until l.place (ShowsUnknownOverride l.list))) l.found.unknown;
  repeated : IsLeast (AtSome l.list (Until l.place (ShowsRepeatedOverride l.list))) l.found.repeated;
}
