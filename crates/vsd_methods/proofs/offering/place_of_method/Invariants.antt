-- None of the methods before this one fits.
use Rattle.std.proofs.Common.{◌≡◌, ◌&&◌, bytes_eq, drop}
use Rattle.std.specs.List.{position_from}
use Rattle.vsd_ast.specs.declared.declarations.Method.{Method}
use Rattle.vsd_methods.specs.Methods.{same_signature}
use Rattle.vsd_methods.proofs.offering.place_of_method.Given as goal

abbrev pub invariant-loop-i : goal.invariant-loop-i
invariant-loop-i l = position_from (λ (p : Method). bytes_eq p.name l.name && same_signature p.signature l.signature) 0 l.methods ≡ position_from (λ (p : Method). bytes_eq p.name l.name && same_signature p.signature l.signature) l.i (drop l.i l.methods)
