-- It is none of those before this place, and so many of the name are left.
use Rattle.std.proofs.Common.{◌≡◌, drop}
use Rattle.vsd_script.specs.Methods.{nth_from}
use Rattle.vsd_script.proofs.methods.nth.Given as goal

abbrev pub invariant-loop-place : goal.invariant-loop-place
invariant-loop-place l = nth_from 0 l.count l.methods l.name ≡ nth_from l.place l.left (drop l.place l.methods) l.name
