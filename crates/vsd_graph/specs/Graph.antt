-- Graphs: for each place the places that one step leads to.
use Rattle.std.specs.Prelude.{◌≡◌, ℕ, ◌<◌, zero, suc, List, [], length, map, Contains, slice_index_or}
use Rattle.vsd_terms.specs.Size.{greatest}

abbrev pub targets : List (List ℕ) → ℕ → List ℕ
targets g i = slice_index_or g i []

-- from place i to place j in so many steps
abbrev pub Walk : List (List ℕ) → ℕ → ℕ → ℕ → Type 0
Walk g zero i j = i ≡ j
Walk g (suc k) i j = (m : ℕ) × Contains (targets g i) m × Walk g k m j

-- a walk of at least one step that comes back to its place
abbrev pub ReachesItself : List (List ℕ) → ℕ → Type 0
ReachesItself g i = (k : ℕ) × Walk g (suc k) i i

-- some walk comes back
abbrev pub IsCyclic : List (List ℕ) → Type 0
IsCyclic g = (i : ℕ) × ReachesItself g i

-- each step leads to a place of the graph
abbrev pub IsClosed : List (List ℕ) → Type 0
IsClosed g = (i j : ℕ) → Contains (targets g i) j → j < length g

-- each place's level is one more than the greatest of those that one step leads to
pub record AreLevels (g : List (List ℕ)) (levels : List ℕ) : Type 0 where
  pub count : length levels ≡ length g
  pub each : (i : ℕ) → i < length g → slice_index_or levels i 0 ≡ suc (greatest (map (λ j. slice_index_or levels j 0) (targets g i)))
