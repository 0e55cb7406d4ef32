-- The bytes that a read or a write moves.
use Rattle.std.specs.Prelude.{◌≡◌, ℕ, ◌<◌, List, [], ◌++◌, length, take, Option, Result, Ok, Err}
use Rattle.std.specs.Io.KnownBytes.{append_known}

-- what a call with this result moved, of these bytes: the first n, or nothing
abbrev pub moved : {E : Type 0} → Result ℕ E → List ℕ → List ℕ
moved (Ok n) bytes = take n bytes
moved (Err e) bytes = []

-- a sink took a prefix of these bytes, which isn't all of them, and nothing else
pub record TakesPart (old new : Option (List ℕ)) (bytes : List ℕ) : Type 0 where
  pub prefix : List ℕ
  pub rest : List ℕ
  pub grows : new ≡ append_known old prefix
  pub whole : prefix ++ rest ≡ bytes
  pub cut : 0 < length rest
