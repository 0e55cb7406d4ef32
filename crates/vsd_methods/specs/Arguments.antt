-- The declaration of a closed type.
use Rattle.std.specs.Prelude.{◌≡◌, List, Some, length}
use Rattle.vsd_terms.specs.declared.term.Term.{Term}
use Rattle.vsd_ast.specs.declared.declarations.Decl.{Decl}
use Rattle.vsd_ast.specs.WellFormed.{IsDeclaration}
use Rattle.vsd_types.specs.TypeList.{TypeList}
use Rattle.vsd_types.specs.Types.{args_of, declaration_of}

-- the declaration of a type and the type's arguments, one for each of its parameters
pub record IsDeclared (c : TypeList) (t : Term) (x : Decl) (args : List Term) : Type 0 where
  pub declaration : declaration_of c.decls.list t ≡ Some x
  pub arguments : args_of t ≡ args
  pub long : length args ≡ length x.params
  pub written : IsDeclaration (length c.decls.names) x
