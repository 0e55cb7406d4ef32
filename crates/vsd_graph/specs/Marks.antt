-- How far the levels of a graph are known: a place is not seen yet, is on the way to the place in hand, or has its level.
use Rattle.std.specs.Prelude.{◌≡◌, ℕ, ◌+◌, ◌≤◌, suc, Bool, true, false, not, List, length, map, Contains, slice_index_or, count_by}
use Rattle.vsd_terms.specs.Size.{greatest}
use Rattle.vsd_graph.specs.declared.levels.Mark.{Mark}
use Rattle.vsd_graph.specs.declared.levels.Mark.TheVariants.{Unseen, Open, Level}
use Rattle.vsd_graph.specs.Graph.{targets, Walk}

abbrev pub mark_at : List Mark → ℕ → Mark
mark_at marks i = slice_index_or marks i Unseen

abbrev pub level_in : Mark → ℕ
level_in Unseen = 0
level_in Open = 0
level_in (Level n) = n

abbrev pub level_at : List Mark → ℕ → ℕ
level_at marks i = level_in (mark_at marks i)

abbrev pub is_level : Mark → Bool
is_level Unseen = false
is_level Open = false
is_level (Level n) = true

abbrev pub HasLevel : List Mark → ℕ → Type 0
HasLevel marks i = is_level (mark_at marks i) ≡ true

-- how many have no level yet
abbrev pub pending : List Mark → ℕ
pending marks = count_by (λ m. not (is_level m)) marks

abbrev pub is_unseen : Mark → Bool
is_unseen Unseen = true
is_unseen Open = false
is_unseen (Level n) = false

abbrev pub unseen : List Mark → ℕ
unseen marks = count_by is_unseen marks

-- the levels that are known are right, and are at most as many as the places that have one
pub record AreSound (g : List (List ℕ)) (marks : List Mark) : Type 0 where
  pub count : length marks ≡ length g
  pub below : (i j : ℕ) → HasLevel marks i → Contains (targets g i) j → HasLevel marks j
  pub right : (i : ℕ) → HasLevel marks i → level_at marks i ≡ suc (greatest (map (level_at marks) (targets g i)))
  pub few : (i : ℕ) → HasLevel marks i → level_at marks i + pending marks ≤ length marks

-- what is seen stays as it is, and no more places are on the way
pub record Extends (old new : List Mark) : Type 0 where
  pub kept : (i : ℕ) → is_unseen (mark_at old i) ≡ false → mark_at new i ≡ mark_at old i
  pub on_the_way : (i : ℕ) → mark_at new i ≡ Open → mark_at old i ≡ Open
  pub fewer : unseen new ≤ unseen old

-- whatever is on the way leads to this place
abbrev pub LeadsTo : List (List ℕ) → List Mark → ℕ → Type 0
LeadsTo g marks at = (i : ℕ) → mark_at marks i ≡ Open → (k : ℕ) × Walk g k i at

-- the same, in at least one step
abbrev pub LeadsOnTo : List (List ℕ) → List Mark → ℕ → Type 0
LeadsOnTo g marks at = (i : ℕ) → mark_at marks i ≡ Open → (k : ℕ) × Walk g (suc k) i at

-- this place has this level now
pub record Settles (g : List (List ℕ)) (old new : List Mark) (at level : ℕ) : Type 0 where
  pub extends : Extends old new
  pub sound : AreSound g new
  pub settled : mark_at new at ≡ Level level
