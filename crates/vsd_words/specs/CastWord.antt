-- Cast words.
use Rattle.std.specs.Prelude.{ℕ, ◌+◌, ◌*◌}
use Rattle.std.specs.Int.{from_bool}
use Rattle.vsd_words.specs.declared.cast_word.CastWord.{CastWord}
use Rattle.vsd_words.specs.Packing.{IsPacking}
use Rattle.vsd_words.specs.Handle.{HandleInRange, packed_handle}

-- the target of a cast word is in range
abbrev pub CastWordInRange : CastWord → Type 0
CastWordInRange w = HandleInRange w.target

-- a cast word as one number: the answer in the low bit, the target above
unfoldable pub packed_cast : CastWord → ℕ
packed_cast w = 2 * packed_handle w.target + from_bool w.yes

-- the word is the packing of the cast word, which is in range
abbrev pub IsCastPacking : CastWord → ℕ → Type 0
IsCastPacking = IsPacking CastWordInRange packed_cast
