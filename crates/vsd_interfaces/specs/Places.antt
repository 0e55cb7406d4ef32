-- Where the numbers of a list stand in it.
use Rattle.std.specs.Prelude.{◌≡◌, ℕ, ◌<◌, List, length, slice_index}

-- the place of each number of the list, by the number; of others nothing is said
pub record ArePlaces (numbers places : List ℕ) : Type 0 where
  pub within : (k : ℕ) → k < length numbers → slice_index numbers k < length places
  pub there : (k : ℕ) → k < length numbers → slice_index places (slice_index numbers k) ≡ k
