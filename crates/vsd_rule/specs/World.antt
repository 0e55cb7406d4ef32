-- The lists of the world, as a caller's proof picks them.
use Rattle.std.specs.Prelude.{ℕ, List}

pub record WorldLists : Type 0 where
  pub types : ℕ
  pub site_tokens : List ℕ
  pub host_types : List ℕ
  pub sel : List ℕ
  pub cmp : List ℕ
