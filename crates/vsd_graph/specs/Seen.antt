-- How marking goes on: what becomes seen is reached, and what becomes seen is followed.
use Rattle.std.specs.Prelude.{◌≡◌, ℕ, ◌≤◌, ◌⊎◌, suc, Bool, true, false, not, List, length, Contains, slice_index_or, count_by}
use Rattle.vsd_graph.specs.Graph.{targets, Walk}

abbrev pub is_seen : List Bool → ℕ → Bool
is_seen seen i = slice_index_or seen i false

abbrev pub unseen_count : List Bool → ℕ
unseen_count seen = count_by (λ b. not b) seen

-- each place that became seen is one to which a walk from here leads, of the given kind, and has all its targets seen
pub record Marks (g : List (List ℕ)) (old new : List Bool) (Reached : ℕ → Type 0) : Type 0 where
  pub count : length new ≡ length old
  pub kept : (i : ℕ) → is_seen old i ≡ true → is_seen new i ≡ true
  pub reached : (i : ℕ) → is_seen new i ≡ true → (is_seen old i ≡ true) ⊎ Reached i
  pub followed : (i : ℕ) → is_seen new i ≡ true → (is_seen old i ≡ true) ⊎ ((j : ℕ) → Contains (targets g i) j → is_seen new j ≡ true)
  pub fewer : unseen_count new ≤ unseen_count old

pub record Sees (g : List (List ℕ)) (old new : List Bool) (at : ℕ) : Type 0 where
  pub marks : Marks g old new (λ i. (k : ℕ) × Walk g k at i)
  pub here : is_seen new at ≡ true

pub record Follows (g : List (List ℕ)) (old new : List Bool) (at : ℕ) : Type 0 where
  pub marks : Marks g old new (λ i. (k : ℕ) × Walk g (suc k) at i)
  pub targets_seen : (j : ℕ) → Contains (targets g at) j → is_seen new j ≡ true
