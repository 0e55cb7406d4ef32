use Rattle.std.proofs.Common.{◌<◌, arith}
use Rattle.vsd_words.proofs.Packings.{cell_packing-below}
use Rattle.vsd_words.proofs.cell_word.CellWord.of_packing.Goals as goal

pub overflow_cast-result : goal.overflow_cast-result
overflow_cast-result c =
    let below : c.args.word < 1026 = cell_packing-below c.args.word c.requires.0 c.requires.1 in
    omega arith

pub returns-in_default : goal.returns-in_default
returns-in_default c =
    let below : c.args.word < 1026 = cell_packing-below c.args.word c.requires.0 c.requires.1 in
    record { in_range = omega arith; packed = omega arith }
