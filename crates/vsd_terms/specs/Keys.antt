-- The names that a set of byte strings holds.
use Rattle.std.specs.Prelude.{ℕ, List, map}
use Rattle.std.specs.Global.{Vec}

-- the bytes of each key
abbrev pub names_in : List (Vec ℕ) → List (List ℕ)
names_in keys = map (λ key. key.items) keys
