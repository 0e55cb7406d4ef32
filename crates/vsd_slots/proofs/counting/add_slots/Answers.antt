use Rattle.std.proofs.Common.{◌+◌, ◌∙◌, get_or, ℕ, List, take, ap, arith}
use Rattle.std.proofs.lemmas.List.{take_more}
use Rattle.vsd_slots.specs.Refusals.{slots_in}
use Rattle.vsd_interfaces.specs.Tables.{types_of}
use Rattle.vsd_slots.proofs.SlotLaws.{slots-push, slots-take}
use Rattle.vsd_slots.proofs.counting.add_slots.Goals as goal

pub returns-then-sum-gt-MOST_SLOTS : goal.returns-then-sum-gt-MOST_SLOTS
returns-then-sum-gt-MOST_SLOTS c =
    let ds = c.args.closed.now.decls.list in
    let types = c.args.closed.now.types in
    let xs = c.args.interfaces.now in
    let i = c.loop-i.i in
    let most = slots-take ds types xs (i + 1) in
    let more = ap (λ (l : List ℕ). slots_in ds (types_of types l)) (take_more xs i 0 c.loop-i-test.true) ∙ slots-push ds types (take i xs) (get_or xs i 0) in
    omega (arith, most, more, c.count_methods.ensures.count, c.from-sum.ensures, c.loop-i.invariant.sum)
