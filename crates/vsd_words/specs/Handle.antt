-- Handles.
use Rattle.std.specs.Prelude.{ℕ, ◌+◌, ◌*◌, ◌<◌, ◌^◌}
use Rattle.vsd_words.specs.declared.handle.Handle.{Handle}
use Rattle.vsd_words.specs.Packing.{IsPacking}

-- the rows and generations that a handle can have
pub record HandleInRange (h : Handle) : Type 0 where
  pub row : h.row < 32768
  pub generation : h.generation < 2 ^ 32

-- a handle as one number: the row below, the generation above
unfoldable pub packed_handle : Handle → ℕ
packed_handle h = h.row + 32768 * h.generation

-- the word is the packing of the handle, which is in range
abbrev pub IsHandlePacking : Handle → ℕ → Type 0
IsHandlePacking = IsPacking HandleInRange packed_handle
