use Rattle.std.proofs.Common.{◌<◌, length, sym, subst, arith}
use Rattle.std.proofs.lemmas.Option.{slice_get_within}
use Rattle.vsd_types.specs.Types.{declaration_of, type_at}
use Rattle.vsd_methods.specs.Methods.{methods_in}
use Rattle.vsd_slots.specs.Marks.{IsFree}
use Rattle.vsd_slots.proofs.marking.names_marked.Goals as goal

pub returns : goal.returns
returns c = λ k p stands free.
    let methods = methods_in (declaration_of c.args.closed.now.decls.list (type_at c.args.closed.now.types c.args.t)) in
    let own = c.buckets_at.ensures in
    let within : k < length c.buckets_at.result.now = omega (arith, own.long, slice_get_within methods k p stands) in
    c.marks_of.ensures k within (subst (IsFree c.marks_of.result) (sym (own.each k p stands)) free)
