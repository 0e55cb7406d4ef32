use Rattle.vsd_stages.proofs.Noting.{told_types}
use Rattle.vsd_stages.proofs.texts.method_texts.Goals as goal

pub loop-t-preserved : goal.loop-t-preserved
loop-t-preserved c =
    let noted = c.in_ok-note_type.ensures in
    record {
      told = told_types c.args.tables.now c.loop-t.texts.items c.note_type.new.texts.items c.args.tokens c.loop-t.t noted.keeps c.loop-t.invariant.told noted.told;
      right = noted.right;
    }
