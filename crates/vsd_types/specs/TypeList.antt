-- A closed list as contracts see it.
use Rattle.std.specs.Prelude.{List}
use Rattle.vsd_terms.specs.declared.term.Term.{Term}
use Rattle.vsd_ast.specs.declared.declarations.Decls.{Decls}

-- the declarations that it was closed over, and its types, each numbered by its place
pub record TypeList : Type 0 where
  pub decls : Decls
  pub types : List Term
