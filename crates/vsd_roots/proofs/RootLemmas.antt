-- Roots, one override further down, and that a method has one alone.
use Rattle.std.proofs.Common.{ℕ, suc, ◌<◌, List, refl, arith}
use Rattle.vsd_ast.specs.declared.declarations.Decl.{Decl}
use Rattle.vsd_lift.specs.Settled.{IsSettled}
use Rattle.vsd_lift.proofs.ChainLemmas.{chain-deeper}
use Rattle.vsd_roots.specs.Order.{rank}
use Rattle.vsd_roots.specs.Slots.{IsRoot, Overrides, StartsSlot}
use Rattle.vsd_roots.specs.declared.place.Place.{Place}
use Rattle.vsd_roots.proofs.TableLemmas.{method_within}

-- what a method overrides is of a class of lower rank
pub overrides_lower : (ds : List Decl) (places depths : List ℕ) (p q : Place) → IsSettled ds places depths → Overrides ds p q → rank depths q.decl < rank depths p.decl
overrides_lower ds places depths p q settled over =
    let matches = over.nearest.matches in
    let w = method_within ds places depths q matches.other settled matches.is_other in
    let decl = w.decl in
    let up = method_within ds places depths p over.method settled over.is_method in
    let deeper = chain-deeper ds places depths p.decl over.chain settled up.declared over.upward 0 over.nearest.level p.decl q.decl over.upward.first matches.stands matches.above in
    omega arith

pub root_own : (ds : List Decl) (p : Place) → StartsSlot ds p → IsRoot ds p p
root_own ds p starts = record { steps = 0; climbs = refl; starts = starts }

pub root_further : (ds : List Decl) (p q root : Place) → Overrides ds p q → IsRoot ds q root → IsRoot ds p root
root_further ds p q root over rest = record { steps = suc rest.steps; climbs = (q, (over, rest.climbs)); starts = rest.starts }
