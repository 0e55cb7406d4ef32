use Rattle.std.proofs.Common.{arith}
use Rattle.vsd_words.specs.CellWord.{IsCellPacking}
use Rattle.vsd_words.proofs.Unpacking.{unpacks_some}
use Rattle.vsd_words.proofs.Packings.{cell_packing-one_to_one}
use Rattle.vsd_words.proofs.cell_word.CellWord.unpack.Goals as goal

pub returns-in-0 : goal.returns-in-0
returns-in-0 c =
    unpacks_some IsCellPacking c.args.word _ (cell_packing-one_to_one c.args.word)
    (record { in_range = tt; packed = omega arith })

pub returns-in-1 : goal.returns-in-1
returns-in-1 c =
    unpacks_some IsCellPacking c.args.word _ (cell_packing-one_to_one c.args.word)
    (record { in_range = tt; packed = omega arith })

pub returns-in-2-to-1025 : goal.returns-in-2-to-1025
returns-in-2-to-1025 c =
    unpacks_some IsCellPacking c.args.word _ (cell_packing-one_to_one c.args.word)
    (record { in_range = omega arith; packed = omega arith })
