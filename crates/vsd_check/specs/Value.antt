-- A value of `Checked` as contracts see it.
use Rattle.std.specs.Prelude.{ℕ, List}
use Rattle.vsd_ast.specs.declared.declarations.Decls.{Decls}

pub record Value : Type 0 where
  pub decls : Decls
  pub depths : List ℕ
