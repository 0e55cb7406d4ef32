-- What a method's key has of the method.
use Rattle.std.specs.Prelude.{◌≡◌}
use Rattle.std.specs.Option.{option_copied}
use Rattle.vsd_ast.specs.declared.declarations.Method.{Method}
use Rattle.vsd_lawful.specs.declared.methods.Key.{Key}

pub record IsKeyOf (key : Key) (m : Method) : Type 0 where
  pub name : key.name.now ≡ m.name
  pub result : option_copied key.result ≡ m.signature.result
  pub arguments : key.arguments.now ≡ m.signature.arguments
