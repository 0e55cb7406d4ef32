use Rattle.vsd_stages.proofs.Noting.{keeps_both, told_more}
use Rattle.vsd_stages.proofs.texts.note_type.Goals as goal

pub loop-k-preserved : goal.loop-k-preserved
loop-k-preserved c =
    let v = c.args.tables.now in
    let old = c.loop-k.texts.items in
    let new = c.note_target.new.texts.items in
    let noted = c.in_ok-note_target.ensures in
    record {
      told = told_more v old new c.args.t c.loop-k.k noted.keeps c.loop-k.invariant.told noted.told;
      keeps = keeps_both v c.args.texts.now.items old new c.loop-k.invariant.keeps noted.keeps;
      right = noted.right;
    }
