use Rattle.std.proofs.Common.{◌/◌, arith}
use Rattle.vsd_words.specs.CastWord.{IsCastPacking}
use Rattle.vsd_words.proofs.Unpacking.{unpacks_some, unpacks_none}
use Rattle.vsd_words.proofs.Packings.{cast_packing-below, cast_packing-one_to_one, cast_of_word, handle_of_word}
use Rattle.vsd_words.proofs.cast_word.CastWord.unpack.Goals as goal

pub returns-then-word : goal.returns-then-word
returns-then-word c =
    unpacks_none IsCastPacking c.args.word (λ w p. omega (arith, cast_packing-below c.args.word w p))

pub of_packing-requires : goal.of_packing-requires
of_packing-requires c = (_, cast_of_word c.args.word _ (handle_of_word (c.args.word / 2) (omega arith)))

pub returns : goal.returns
returns c =
    unpacks_some IsCastPacking c.args.word _ (cast_packing-one_to_one c.args.word) c.of_packing.ensures
