-- Bytes on their way to a sink: those that it took, and those that wait on a page.
use Rattle.std.specs.Prelude.{◌≡◌, ℕ, ◌-◌, ◌<◌, List, ◌++◌, length, Option}
use Rattle.std.specs.Io.KnownBytes.{append_known}
use Rattle.vsd_outside.specs.Pieces.{TakesPart}
use Rattle.vsd_lines.specs.declared.errors.LinesError.{LinesError}
use Rattle.vsd_lines.specs.declared.errors.LinesError.TheVariants.{Failed, Memory}

-- a page of as many bytes as this, or more, is full
abbrev pub page_size : ℕ
page_size = 65536

-- A text came after what waited: the sink took the first of these bytes, and the others wait.
pub record Carries (old new : Option (List ℕ)) (room left : ℕ → Type 0) (waited waits text : List ℕ) : Type 0 where
  pub written : List ℕ
  pub taken : new ≡ append_known old written
  pub whole : written ++ waits ≡ waited ++ text
  pub room_left : (size : ℕ) → room size → left (size - length written)

-- A sink took a first part of these bytes, perhaps none or all, and nothing else.
pub record Front (old new : Option (List ℕ)) (bytes : List ℕ) : Type 0 where
  pub prefix : List ℕ
  pub rest : List ℕ
  pub grows : new ≡ append_known old prefix
  pub whole : prefix ++ rest ≡ bytes

-- A write failed before all of these bytes were taken, for which there was no room.
pub record CutShort (old new : Option (List ℕ)) (room : ℕ → Type 0) (bytes : List ℕ) : Type 0 where
  pub part : TakesPart old new bytes
  pub sure : (size : ℕ) → room size → size < length bytes

-- one fact after a failed write, another at want of memory
abbrev pub AtError : Type 0 → Type 0 → LinesError → Type 0
AtError failed memory Failed = failed
AtError failed memory Memory = memory
