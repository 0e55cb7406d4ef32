-- A lane stays one where there are more roots, sites and hosts.
use Rattle.std.proofs.Common.{ℕ, ◌≤◌, List, [], ◌∷◌, length, arith}
use Rattle.vsd_ast.specs.Scripts.{live_after, IsThere, MayBeMade, MayFollow, IsLane}
use Rattle.vsd_ast.specs.declared.scripts.Lane.{Lane}
use Rattle.vsd_ast.specs.declared.scripts.Op.{Op}
use Rattle.vsd_ast.specs.declared.scripts.Op.TheVariants as op
use Rattle.vsd_ast.specs.declared.scripts.Var.{Var}
use Rattle.vsd_ast.specs.declared.scripts.Var.TheVariants as var

module _ (roots more_roots sites more_sites hosts more_hosts : ℕ) (r : roots ≤ more_roots) (s : sites ≤ more_sites) (h : hosts ≤ more_hosts) where
  there : (names : ℕ) (live : List ℕ) (o : Var) → IsThere roots sites hosts names live o → IsThere more_roots more_sites more_hosts names live o
  there names live (var.Host host) k = omega (arith, k, h)
  there names live (var.Own v) k = k

  made : (names : ℕ) (live : List ℕ) (o : Op) → MayBeMade roots sites hosts names live o → MayBeMade more_roots more_sites more_hosts names live o
  made names live (op.Load variable root) k = (k.0, omega (arith, k.1, r), k.2, k.3)
  made names live (op.Unload variable) k = k
  made names live (op.Call site object) k = (omega (arith, k.0, s), there names live object k.1)
  made names live (op.Cast source target) k = (there names live source k.0, there names live target k.1)

  follow : (names : ℕ) (live : List ℕ) (os : List Op) → MayFollow roots sites hosts names live os → MayFollow more_roots more_sites more_hosts names live os
  follow names live [] k = tt
  follow names live (o ∷ os) k = (made names live o k.0, follow names (live_after live o) os k.1)

  pub lane_wider : (l : Lane) → IsLane roots sites hosts l → IsLane more_roots more_sites more_hosts l
  lane_wider l k = record { names = k.names; ops = follow (length l.names) [] l.ops k.ops }
