use Rattle.std.proofs.Common.{◌<◌, ◌^◌, arith}
use Rattle.vsd_words.proofs.Packings.{handle_word_packing-below, handle_word_of_word}
use Rattle.vsd_words.proofs.handle_word.HandleWord.of_packing.Goals as goal

pub overflow_cast-result : goal.overflow_cast-result
overflow_cast-result c =
    let below : c.args.word < 2 ^ 50 = handle_word_packing-below c.args.word c.requires.0 c.requires.1 in
    omega arith

pub returns : goal.returns
returns c = handle_word_of_word c.args.word (handle_word_packing-below c.args.word c.requires.0 c.requires.1)
