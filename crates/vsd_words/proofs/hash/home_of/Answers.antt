use Rattle.std.proofs.Common.{◌≡◌, ◌%◌, ap, ◌∙◌}
use Rattle.std.specs.Int.{w64, rotate_left}
use Rattle.std.specs.Int.RustNames.{bit_xor}
use Rattle.vsd_words.specs.Handle.{packed_handle}
use Rattle.vsd_words.specs.Hash.{mix, home_of}
use Rattle.vsd_words.proofs.Powers.{mask_of_region}
use Rattle.vsd_words.proofs.hash.home_of.Goals as goal

pub returns-clause-formula : goal.returns-clause-formula
unfolding home_of
returns-clause-formula c =
    let place = bit_xor (packed_handle c.args.source) (rotate_left w64 (packed_handle c.args.target) 17) in
    let mixed : c.mix.result ≡ mix place = cc in
    mask_of_region c.mix.result c.args.size c.requires.size ∙ ap (λ m. m % c.args.size) mixed
