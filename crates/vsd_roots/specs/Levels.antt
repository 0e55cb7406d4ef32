-- The level of each declaration in a chain.
use Rattle.std.specs.Prelude.{◌≡◌, ℕ, ◌+◌, ◌<◌, List, length, Option, Some, None, slice_get, slice_index}
use Rattle.vsd_ast.specs.declared.declarations.Decl.{Decl}
use Rattle.vsd_ast.specs.declared.declarations.Method.{Method}
use Rattle.vsd_lift.specs.Chain.{IsChain}
use Rattle.vsd_roots.specs.Order.{IsLatest, method_rank}
use Rattle.vsd_roots.specs.Slots.{Matches}
use Rattle.vsd_roots.specs.declared.place.Place.{Place}

-- it is the chain of a declaration that is there
pub record IsUpward (ds : List Decl) (chain : List ℕ) : Type 0 where
  pub from : ℕ
  pub within : from < length ds
  pub chained : IsChain ds from chain

-- 0 for a declaration that isn't above the first
pub record AreLevels (count : ℕ) (chain levels : List ℕ) : Type 0 where
  pub long : length levels ≡ count
  pub found : (n : ℕ) → 0 < slice_index levels n → slice_get chain (slice_index levels n) ≡ Some n
  pub each : (level n : ℕ) → slice_get chain level ≡ Some n → slice_index levels n ≡ level

-- no method stands twice in a list
abbrev pub IsOnce : List ℕ → Type 0
IsOnce chain = (k l n : ℕ) → slice_get chain k ≡ Some n → slice_get chain l ≡ Some n → k ≡ l

-- the latest method of the name below a rank, where every match lies
pub record IsStart (ds : List Decl) (depths chain : List ℕ) (m : Method) (start : Option Place) : Type 0 where
  pub bound : ℕ
  pub latest : IsLatest ds depths m.name bound start
  pub below : (l : ℕ) (r : Place) → Matches ds chain m l r → method_rank depths r < bound

-- how many ranks are left to look at from a method on
abbrev pub ranks_from : List ℕ → Option Place → ℕ
ranks_from depths None = 0
ranks_from depths (Some q) = method_rank depths q + 1
