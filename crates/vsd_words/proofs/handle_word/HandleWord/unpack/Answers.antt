use Rattle.std.proofs.Common.{arith}
use Rattle.vsd_words.specs.HandleWord.{IsHandleWordPacking}
use Rattle.vsd_words.proofs.Unpacking.{unpacks_some, unpacks_none}
use Rattle.vsd_words.proofs.Packings.{handle_word_packing-below, handle_word_packing-one_to_one, handle_word_of_word}
use Rattle.vsd_words.proofs.handle_word.HandleWord.unpack.Goals as goal

pub returns-then-word : goal.returns-then-word
returns-then-word c =
    unpacks_none IsHandleWordPacking c.args.word
    (λ w p. omega (arith, handle_word_packing-below c.args.word w p))

pub of_packing-requires : goal.of_packing-requires
of_packing-requires c = (_, handle_word_of_word c.args.word (omega arith))

pub returns : goal.returns
returns c =
    unpacks_some IsHandleWordPacking c.args.word _ (handle_word_packing-one_to_one c.args.word) c.of_packing.ensures
