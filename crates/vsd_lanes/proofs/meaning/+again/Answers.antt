use Rattle.std.proofs.Common.{◌-◌, ◌+◌, map, drop, ap, ◌∙◌, arith, rules}
use Rattle.vsd_lanes.specs.Meaning.{makes, times_of, joined, written_of}
use Rattle.vsd_lanes.proofs.Making.{written_of-Once, makes_one, makes_none, makes_on, makes_stop, does_as, rounds_left, no_rounds_left, items_left, no_items_left}
use Rattle.vsd_lanes.proofs.meaning.+again.Goals as goal

pub one-returns-in-Once : goal.one-returns-in-Once
one-returns-in-Once t c =
    let w = c.in-Once.written in
    let e = ap (λ ws. makes c.args.room ws c.args.running.now) (ap written_of c.in-Once.is ∙ written_of-Once w) ∙ makes_one c.args.room w c.args.running.now in
    does_as _ _ c.once.result c.once.new.running e c.once.ensures

pub rounds-returns-in_err-sequence : goal.rounds-returns-in_err-sequence
rounds-returns-in_err-sequence t c =
    let ws = joined (map written_of c.args.body.now) in
    let e = c.loop-round.invariant ∙ ap (λ l. makes c.args.room l c.loop-round.running) (rounds_left c.args.times c.loop-round._round ws (omega arith)) in
    let x = makes_stop (makes c.args.room (times_of c.args.times ws) c.args.running.now) c.args.room ws _ c.loop-round.running c.sequence.new.running c.sequence.new.running c.in_err-sequence.field-0.0 e c.in_err-sequence.ensures in
    search rules

pub rounds-loop-round-preserved : goal.rounds-loop-round-preserved
rounds-loop-round-preserved t c =
    let ws = joined (map written_of c.args.body.now) in
    let e = c.loop-round.invariant ∙ ap (λ l. makes c.args.room l c.loop-round.running) (rounds_left c.args.times c.loop-round._round ws (omega arith)) in
    makes_on _ c.args.room ws (times_of (c.args.times - (c.loop-round._round + 1)) ws) c.loop-round.running c.sequence.new.running e c.in_ok-sequence.ensures

pub rounds-returns : goal.rounds-returns
rounds-returns t c =
    let ws = joined (map written_of c.args.body.now) in
    c.loop-round.invariant ∙ ap (λ l. makes c.args.room l c.loop-round.running) (no_rounds_left c.args.times c.loop-round._round ws (omega arith)) ∙ makes_none c.args.room c.loop-round.running

pub sequence-returns-in_err-one : goal.sequence-returns-in_err-one
sequence-returns-in_err-one t c =
    let all = c.as_slice-item-items.result.now in
    let i = c.loop-item.item-index in
    let e = c.loop-item.invariant ∙ ap (λ l. makes c.args.room l c.loop-item.running) (items_left all i c.item-item.result (omega arith) c.item-item.is) in
    let x = makes_stop (makes c.args.room (joined (map written_of c.args.items.now)) c.args.running.now) c.args.room (written_of c.item-item.result) (joined (map written_of (drop (i + 1) all))) c.loop-item.running c.one.new.running c.one.new.running c.in_err-one.field-0.0 e c.in_err-one.ensures in
    search rules

pub sequence-loop-item-preserved : goal.sequence-loop-item-preserved
sequence-loop-item-preserved t c =
    let all = c.as_slice-item-items.result.now in
    let i = c.loop-item.item-index in
    let e = c.loop-item.invariant ∙ ap (λ l. makes c.args.room l c.loop-item.running) (items_left all i c.item-item.result (omega arith) c.item-item.is) in
    makes_on _ c.args.room (written_of c.item-item.result) (joined (map written_of (drop (i + 1) all))) c.loop-item.running c.one.new.running e c.in_ok-one.ensures

pub sequence-returns : goal.sequence-returns
sequence-returns t c =
    let all = c.as_slice-item-items.result.now in
    c.loop-item.invariant ∙ ap (λ l. makes c.args.room l c.loop-item.running) (no_items_left all c.loop-item.item-index (omega arith)) ∙ makes_none c.args.room c.loop-item.running
