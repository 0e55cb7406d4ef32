use Rattle.vsd_words.proofs.Packings.{cast_of_word, target_of_cast}
use Rattle.vsd_words.proofs.cast_word.CastWord.of_packing.Goals as goal

pub of_packing-requires : goal.of_packing-requires
of_packing-requires c = (_, target_of_cast c.args.word c.requires.0 c.requires.1)

pub returns : goal.returns
returns c = cast_of_word c.args.word c.of_packing.result c.of_packing.ensures
