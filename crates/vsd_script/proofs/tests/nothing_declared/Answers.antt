use Rattle.std.proofs.Common.{◌≡◌, ◌≤◌, List, [], length, All, sym, subst, arith}
use Rattle.vsd_ast.specs.declared.declarations.Decl.{Decl}
use Rattle.vsd_ast.specs.WellFormed.{IsDeclaration}
use Rattle.vsd_script.proofs.tests.nothing_declared.Goals as goal

pub returns-clause-formed : goal.returns-clause-formed
returns-clause-formed c = record {
  few = subst (λ (l : List Decl). length l ≤ 1024) (sym c.new-2.ensures) (omega arith);
  each = subst (λ (l : List Decl). All (IsDeclaration (length c.new.result)) l) (sym c.new-2.ensures) (λ k x h. absurd (omega (arith, h)));
}
