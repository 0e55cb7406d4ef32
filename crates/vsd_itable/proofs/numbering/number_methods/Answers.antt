use Rattle.std.proofs.Common.{◌≡◌, ◌≤◌, ◌<◌, ◌++◌, [], ◌∷◌, ℕ, List, length, sym, ap, ◌∙◌, subst, arith}
use Rattle.vsd_types.specs.Types.{type_at}
use Rattle.vsd_slots.specs.Refusals.{method_count}
use Rattle.vsd_itable.specs.Numbering.{AddsMethods}
use Rattle.vsd_itable.proofs.FillLaws.{numbered-more}
use Rattle.vsd_itable.proofs.numbering.number_methods.Goals as goal

pub loop-t-preserved : goal.loop-t-preserved
loop-t-preserved c =
    let s = c.args.closed.now in
    let t = c.loop-t.t in
    let count = method_count s.decls.list (type_at s.types t) in
    let adds : AddsMethods t count c.loop-t.methods.items c.add_methods.new.methods.items = subst (λ n. AddsMethods t n c.loop-t.methods.items c.add_methods.new.methods.items) c.count_methods.ensures.count c.in_ok-add_methods.ensures in
    let few : count ≤ 256 = omega (arith, c.count_methods.ensures.count, c.count_methods.ensures.few) in
    let long : c.len.result ≡ length c.loop-t.methods.items = omega (arith, c.len.ensures, c.loop-t.methods.ok) in
    numbered-more s t c.loop-t.methods.items c.add_methods.new.methods.items c.loop-t.starts.items c.push.new.self.items (omega (arith, c.loop-t-test.true, c.count-t-end.ensures.count)) few c.loop-t.invariant adds (subst (λ (n : ℕ). c.push.new.self.items ≡ c.loop-t.starts.items ++ n ∷ []) long c.in_ok-push.ensures.items)
