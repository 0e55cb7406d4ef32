use Rattle.std.proofs.Common.{◌≡◌, ◌≤◌, ◌-◌, All, Ok, length}
use Rattle.indexmap.specs.IndexSet.{keys}
use Rattle.vsd_check.specs.Checked.{decls_of}
use Rattle.vsd_types.specs.Closing.{walked}
use Rattle.vsd_types.specs.Entries.{AreEntries}
use Rattle.vsd_types.specs.Types.{IsClosedType}
use Rattle.vsd_types.proofs.closing.close.Given as goal

abbrev pub invariant-walk : goal.invariant-walk
invariant-walk l = record {
  walked : walked (decls_of l.checked) l.roots (length l.entries) ≡ Ok (keys l.types);
  lawful : All (IsClosedType (decls_of l.checked).list) (keys l.types);
  few : length (keys l.types) ≤ 1024;
  followed : length l.entries ≤ length (keys l.types);
  entries : AreEntries (decls_of l.checked).list (keys l.types) l.entries;
}

abbrev pub decreases-walk : goal.decreases-walk
decreases-walk l = 1024 - length l.entries

abbrev pub ghost-told : goal.ghost-told
ghost-told a = decls_of a._from.now
