use Rattle.std.proofs.Common.{◌<◌, ◌^◌, arith}
use Rattle.vsd_words.proofs.Packings.{handle_packing-below, handle_of_word}
use Rattle.vsd_words.proofs.handle.Handle.of_packing.Goals as goal

pub overflow_cast-result-2 : goal.overflow_cast-result-2
overflow_cast-result-2 c =
    let below : c.args.word < 2 ^ 47 = handle_packing-below c.args.word c.requires.0 c.requires.1 in
    omega arith

pub returns : goal.returns
returns c = handle_of_word c.args.word (handle_packing-below c.args.word c.requires.0 c.requires.1)
