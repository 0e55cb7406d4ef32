-- Reading a source to its end, or to a limit.
use Rattle.std.specs.Prelude.{◌≡◌, ℕ, ◌<◌, ◌≤◌, List, length, Option}
use Rattle.std.specs.Io.KnownBytes.{prepend_known, IsAtEnd}
use Rattle.vsd_outside.specs.declared.reading.ReadError.{ReadError}
use Rattle.vsd_outside.specs.declared.reading.ReadError.TheVariants.{Failed, Memory}

-- the source gave these bytes: all that it had, or as many as the limit
pub record GivesUpTo (limit : ℕ) (old new : Option (List ℕ)) (bytes : List ℕ) : Type 0 where
  pub given : old ≡ prepend_known bytes new
  pub within : length bytes ≤ limit
  pub whole : length bytes < limit → IsAtEnd new

-- a fault was counted at a failed read, and none at want of memory
abbrev pub Counted : Type 0 → Type 0 → ReadError → Type 0
Counted rose same Failed = rose
Counted rose same Memory = same
