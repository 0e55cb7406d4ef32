use Rattle.std.proofs.Common.{arith}
use Rattle.vsd_words.specs.Handle.{IsHandlePacking}
use Rattle.vsd_words.proofs.Unpacking.{unpacks_some, unpacks_none}
use Rattle.vsd_words.proofs.Packings.{handle_packing-below, handle_packing-one_to_one, handle_of_word}
use Rattle.vsd_words.proofs.handle.Handle.unpack.Goals as goal

pub returns-then-word : goal.returns-then-word
returns-then-word c =
    unpacks_none IsHandlePacking c.args.word (λ h p. omega (arith, handle_packing-below c.args.word h p))

pub of_packing-requires : goal.of_packing-requires
of_packing-requires c = (_, handle_of_word c.args.word (omega arith))

pub returns : goal.returns
returns c =
    unpacks_some IsHandlePacking c.args.word _ (handle_packing-one_to_one c.args.word) c.of_packing.ensures
