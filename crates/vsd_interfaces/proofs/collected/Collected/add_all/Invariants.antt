-- The numbers so far are added.
use Rattle.std.proofs.Common.{◌≡◌, nat_eq, take}
use Rattle.indexmap.specs.IndexSet.{insert_all}
use Rattle.vsd_interfaces.proofs.collected.Collected.add_all.Given as goal

abbrev pub invariant-loop-number : goal.invariant-loop-number
invariant-loop-number l = l.self ≡ insert_all nat_eq l.initial.self (take l.number-index l.more)
