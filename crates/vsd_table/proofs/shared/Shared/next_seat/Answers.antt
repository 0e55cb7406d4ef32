use Rattle.std.proofs.Common.{◌≡◌, sym, subst, arith}
use Rattle.vsd_rule.specs.Moves.{split_off}
use Rattle.vsd_rule.specs.Seats.{caller_of}
use Rattle.vsd_rule.proofs.Splits.{split_keeps}
use Rattle.vsd_table.specs.Consistent.{IsConsistent}
use Rattle.vsd_table.proofs.Consistent.{new_consistent}
use Rattle.vsd_table.proofs.Opened.{none_before}
use Rattle.vsd_table.proofs.shared.Shared.next_seat.Goals as goal

pub split_seat-seat-requires : goal.split_seat-seat-requires
split_seat-seat-requires c =
    let counted = c.args.self.now.counted in (
      c.requires.table,
      omega arith,
      λ s ruled at. record {
        rule = split_keeps c.args.self.now.table.shared.key s.words s.views c.args.root.now.id c.args.root.now.me.0 c.args.caller ruled.rule at c.requires.root c.requires.caller;
        opened = λ none. ruled.opened (none_before s.views c.args.root.now.id c.args.root.now.me.0 at none);
      },
    )

pub invariant_of-result-clause-consistent : goal.invariant_of-result-clause-consistent
invariant_of-result-clause-consistent c =
    let root = c.args.root.now.me.0 in
    let view : c.split_seat-seat.result.me.0 ≡ split_off root = λ i. (c.split_seat-seat.ensures.4 i).0 in
    subst IsConsistent (sym view) (new_consistent root.key (caller_of root.who))
