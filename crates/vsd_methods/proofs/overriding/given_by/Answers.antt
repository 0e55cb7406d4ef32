use Rattle.std.proofs.Common.{◌&&◌, bytes_eq}
use Rattle.vsd_ast.specs.declared.declarations.Method.{Method}
use Rattle.vsd_methods.specs.Methods.{same_signature}
use Rattle.vsd_methods.proofs.SearchLaws.{position-inside}
use Rattle.vsd_methods.proofs.overriding.given_by.Goals as goal

pub returns-in-Named-clause-within : goal.returns-in-Named-clause-within
returns-in-Named-clause-within c =
    position-inside (λ (p : Method). bytes_eq p.name c.as_slice.result.now && same_signature p.signature c.in-Named.signature) c.args.methods.now c.place_of_method.result c.place_of_method.ensures
