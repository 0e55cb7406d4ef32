use Rattle.std.proofs.Common.{◌≡◌, ◌≤◌, Ok, length, take}
use Rattle.indexmap.specs.IndexSet.{keys}
use Rattle.vsd_check.specs.Checked.{decls_of}
use Rattle.vsd_types.specs.Closing.{Extends, add_all}
use Rattle.vsd_types.specs.Numbers.{AreNumbers}
use Rattle.vsd_types.proofs.closing.add_each.Given as goal

abbrev pub invariant-loop-t : goal.invariant-loop-t
invariant-loop-t l = record {
  added : add_all (decls_of l.checked).names (Ok (keys l.initial.types)) (take l.t-index l.more) ≡ Ok (keys l.types);
  numbers : AreNumbers (keys l.types) l.numbers (take l.t-index l.more);
  few : length (keys l.types) ≤ 1024;
  extends : Extends (keys l.initial.types) (keys l.types);
}
