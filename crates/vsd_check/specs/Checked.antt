-- What lawful declarations tell.
use Rattle.std.specs.Prelude.{ℕ, List}
use Rattle.vsd_ast.specs.declared.declarations.Decls.{Decls}
use Rattle.vsd_check.specs.Value.{Value}

abbrev pub decls_of : Value → Decls
decls_of c = c.decls

abbrev pub depths_of : Value → List ℕ
depths_of c = c.depths
