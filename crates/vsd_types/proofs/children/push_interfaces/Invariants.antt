use Rattle.std.proofs.Common.{◌≡◌, ◌++◌, map, take}
use Rattle.vsd_terms.specs.Substitution.{subst_of}
use Rattle.vsd_types.proofs.children.push_interfaces.Given as goal

abbrev pub invariant-loop-interface : goal.invariant-loop-interface
invariant-loop-interface l =
    l.terms ≡ l.initial.terms ++ map (λ i. subst_of l.args i.term) (take l.interface-index l.interface-items)
