-- Handle words.
use Rattle.std.specs.Prelude.{ℕ, ◌+◌, ◌*◌, ◌<◌, ◌^◌}
use Rattle.std.specs.Int.{from_bool}
use Rattle.vsd_words.specs.declared.handle_word.HandleWord.{HandleWord}
use Rattle.vsd_words.specs.Packing.{IsPacking}

-- the generations and type numbers that a handle word can have
pub record HandleWordInRange (w : HandleWord) : Type 0 where
  pub generation : w.generation < 2 ^ 32
  pub number : w.number < 2 ^ 16

-- a handle word as one number: two flags below, then the type's number, then the generation
unfoldable pub packed_handle_word : HandleWord → ℕ
packed_handle_word w =
    from_bool w.live + 2 * from_bool w.immortal + 4 * w.number + 262144 * w.generation

-- the word is the packing of the handle word, which is in range
abbrev pub IsHandleWordPacking : HandleWord → ℕ → Type 0
IsHandleWordPacking = IsPacking HandleWordInRange packed_handle_word
