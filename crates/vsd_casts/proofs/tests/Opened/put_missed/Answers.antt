use Rattle.std.proofs.Common.{◌+◌, ◌*◌}
use Rattle.vsd_table.specs.Seating.{view_of, key_of}
use Rattle.vsd_rows.proofs.Makes.{knows_on}
use Rattle.vsd_casts.specs.Ladders.{ladder, ladder_of_bits}
use Rattle.vsd_casts.proofs.Walked.{answer_is, asked_evidence}
use Rattle.vsd_casts.proofs.tests.Opened.put_missed.Goals as goal

pub put-done-requires-clause-evidence : goal.put-done-requires-clause-evidence
put-done-requires-clause-evidence c =
    let opened = c.args.self.now in
    let k = key_of opened.table in
    let n = c.in_ok-number.number in
    let o = c.in_ok-other.other in
    let is = answer_is k ladder 4 n o c.is_below-yes.result opened.cmp opened.types c.is_below-yes.ensures (ladder_of_bits n (n * 4 + o)) in
    let two = c.type_of-2.new.hand.seated in
    let known = knows_on (view_of c.type_of.new.hand.seated).handles (view_of two).handles c.args.source n c.in_ok-other.ensures.trail.stays.bindings c.in_ok-number.ensures.learnt in
    asked_evidence (view_of two) k c.args.source c.args.target n o c.is_below-yes.result c.in_ok-other.ensures.seat.key known c.in_ok-other.ensures.learnt is
