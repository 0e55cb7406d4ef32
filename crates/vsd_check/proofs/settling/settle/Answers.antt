use Rattle.std.proofs.Common.{◌≡◌, ℕ, List, Option, Some, None, MatchOption, subst}
use Rattle.std.specs.Global.{Vec}
use Rattle.vsd_ast.specs.Hierarchy.{above, AreDepths}
use Rattle.vsd_ast.specs.declared.declarations.Decl.{Decl}
use Rattle.vsd_graph.specs.Graph.{IsCyclic}
use Rattle.vsd_hierarchy.specs.Cycles.{graph_of}
use Rattle.vsd_check.specs.Conditions.{NoneIn, ShowsIn}
use Rattle.vsd_check.specs.Earliest.{IsFirst}
use Rattle.vsd_check.proofs.SettledLaws.{none_in, not_cyclic, settled}
use Rattle.vsd_check.proofs.settling.settle.Goals as goal
use Rattle.vsd_check.proofs.settling.settle.Goals.{In_default-2}

first_none : (c : In_default-2) → NoneIn c.args.decls.now 1
first_none c = none_in c.args.decls.now 1 (subst (IsFirst (ShowsIn c.args.decls.now 1)) c.in_default.is c.in_ok-shown.ensures)

second_none : (c : In_default-2) → NoneIn c.args.decls.now 2
second_none c = none_in c.args.decls.now 2 (subst (IsFirst (ShowsIn c.args.decls.now 2)) c.in_default-2.is c.in_ok-shown-2.ensures)

-- depths of the declarations, or a walk upward that comes back
found : (c : In_default-2) (o : Option (Vec ℕ)) → c.in_ok-depths.depths ≡ o → MatchOption o (IsCyclic (graph_of c.args.decls.now.list above)) (λ depths. AreDepths c.args.decls.now.list depths.items)
found c o is =
    let P : List Decl → Option (Vec ℕ) → Type 0 = λ ds o. MatchOption o (IsCyclic (graph_of ds above)) (λ depths. AreDepths ds depths.items) in
    subst (P c.args.decls.now.list) is (subst (λ (ds : List Decl). P ds c.in_ok-depths.depths) c.requires.scope c.in_ok-depths.ensures)

pub unreachable-requires : goal.unreachable-requires
unreachable-requires c =
    let b = (goal.at.unreachable-requires c).In_default-2 in
    not_cyclic c.args.decls.now (second_none b) (found b None c.in-None.is)

pub returns-clause-hierarchy : goal.returns-clause-hierarchy
returns-clause-hierarchy c =
    let b = (goal.at.returns-clause-hierarchy c).In_default-2 in
    settled c.args.decls.now c.requires.well_formed (first_none b) (second_none b) c.in-Some-depths.depths.items (found b (Some c.in-Some-depths.depths) c.in-Some-depths.is)
