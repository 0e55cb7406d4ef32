use Rattle.std.proofs.Common.{◌≡◌, ◌+◌, ℕ, suc, Some, ap, sym, subst, arith}
use Rattle.std.proofs.lemmas.Option.{get_or_from_slice_get, slice_get_within}
use Rattle.vsd_types.specs.Types.{type_at}
use Rattle.vsd_slots.specs.declared.entries.ClosedMethod.{ClosedMethod}
use Rattle.vsd_itable.specs.Selection.{IsSelection}
use Rattle.vsd_itable.specs.Tables.{IsTarget, found_with, no_method}
use Rattle.vsd_itable.proofs.filling.target_number.Goals as goal

pub returns-in-Some : goal.returns-in-Some
returns-in-Some c =
    let s = c.args.parts.now.closed.now in
    let methods = c.args.numbers.now.methods.items in
    let T = type_at s.types c.args.t in
    let J = type_at s.types c.args.j in
    let n = c.number_of.result in
    let m = c.in-Some.method in
    let read = get_or_from_slice_get methods n m no_method c.number_of.ensures.number in
    let selects = subst (λ (x : ClosedMethod). IsSelection s.decls.list T J c.args.m (Some (found_with s.types x))) (sym read) c.in-Some.ensures.selection in
    let next : suc n ≡ n + 1 = omega arith in
    subst (IsTarget s methods T J c.args.m) next (slice_get_within methods n m c.number_of.ensures.number, selects)
