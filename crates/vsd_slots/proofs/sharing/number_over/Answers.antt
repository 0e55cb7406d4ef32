use Rattle.std.proofs.Common.{List, None, length, subst}
use Rattle.vsd_slots.specs.Columns.{AreEach}
use Rattle.vsd_slots.specs.Entries.{IsCombined}
use Rattle.vsd_slots.specs.declared.entries.Entry.{Entry}
use Rattle.vsd_slots.proofs.ColumnLaws.{passed-steps, stepped-column}
use Rattle.vsd_slots.proofs.sharing.number_over.Goals as goal

pub returns-then-is_shared-clause-number : goal.returns-then-is_shared-clause-number
returns-then-is_shared-clause-number c =
    let s = c.args.closed.now in
    let t = c.args.t in
    let i = c.args.i in
    let has = c.args.has in
    let above = c.list.result.now in
    let same = c.is_shared.ensures.same c.if-is_shared.true in
    let bare = c.requires.bare (c.is_shared.ensures.bare c.if-is_shared.true) in
    let each = subst (λ (l : List Entry). AreEach (λ m. IsCombined None None has) (length l) l l) c.list.ensures same in
    let column = c.requires.above.holds in
    record {
      within = c.requires.above.within;
      holds = stepped-column s t i _ _ column (passed-steps s t i has _ _ column bare c.requires.having each);
    }
