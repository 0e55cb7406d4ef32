use Rattle.std.proofs.Common.{◌∙◌, arith}
use Rattle.vsd_slots.proofs.ColumnLaws.{blank-all}
use Rattle.vsd_slots.proofs.FillLaws.{made-more, made-start, right-none}
use Rattle.vsd_slots.proofs.NumberLaws.{whole-none}
use Rattle.vsd_slots.proofs.SlotLaws.{passes-more}
use Rattle.vsd_slots.proofs.filling.fill_all.Goals as goal

pub loop-t-init : goal.loop-t-init
loop-t-init c =
    let s = c.args.closed.now in
    let maps = c.args.parts.now.table.maps in
    let rows = c.in_ok-rows.rows in
    let none = c.in_ok-rows.ensures.none in
    let count = c.count.ensures.count in
    record {
      made = made-start s maps c.args.end rows (right-none s maps rows.columns rows.numbers (c.in_ok-rows.ensures.count ∙ count) (λ t within. none t (omega (arith, within, count))));
      kept = c.new-kept.ensures s rows.columns;
      whole = whole-none rows.columns c.new-whole.result.items c.new-whole.ensures.items;
      passes = λ t within. absurd (omega (arith, within));
    }

pub fill_class-requires-clause-blank : goal.fill_class-requires-clause-blank
fill_class-requires-clause-blank c = blank-all 256

pub loop-t-preserved : goal.loop-t-preserved
loop-t-preserved c =
    let s = c.args.closed.now in
    let t = c.loop-t.t in
    let done = c.in_ok-fill_class.ensures.ok in
    record {
      made = made-more s c.args.parts.now.table.maps c.args.end t c.loop-t.rows c.fill_class.new.rows c.loop-t.invariant.made done;
      kept = c.in_ok-fill_class.ensures.kept;
      whole = c.in_ok-fill_class.ensures.whole;
      passes = passes-more s t c.loop-t.invariant.passes (c.requires.within t c.loop-t-test.true) done.whole;
    }

pub returns-clause-passes : goal.returns-clause-passes
returns-clause-passes c = λ t within. c.loop-t.invariant.passes t (omega (arith, within, c.loop-t-test.false))
