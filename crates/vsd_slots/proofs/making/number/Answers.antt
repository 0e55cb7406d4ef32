use Rattle.std.proofs.lemmas.Result.{on_ok_weaker}
use Rattle.vsd_slots.proofs.NumberLaws.{still-kept}
use Rattle.vsd_slots.proofs.making.number.Goals as goal

pub returns-in_ok-above-in-Some-clause-kept : goal.returns-in_ok-above-in-Some-clause-kept
returns-in_ok-above-in-Some-clause-kept c =
    on_ok_weaker c.number_over.result (λ keeps. still-kept c.number_above.new.columns c.number_over.new.columns keeps c.args.closed.now c.number_above.new.kept c.in_ok-above-in-Some.ensures.kept) c.number_over.ensures.keeps

pub returns-in-None-clause-kept : goal.returns-in-None-clause-kept
returns-in-None-clause-kept c =
    on_ok_weaker c.add_column.result (λ keeps. still-kept c.args.columns.now c.add_column.new.columns keeps c.args.closed.now c.args.kept.now c.requires.kept) c.add_column.ensures.keeps
