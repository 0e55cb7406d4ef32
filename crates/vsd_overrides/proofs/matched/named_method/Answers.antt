use Rattle.std.proofs.Common.{◌∙◌, length, refl, sym, arith}
use Rattle.std.proofs.lemmas.Bool.{false≢true}
use Rattle.std.proofs.lemmas.Option.{slice_get_read}
use Rattle.vsd_ways.proofs.FoundLemmas.{before-all, before-none, none-more}
use Rattle.vsd_overrides.specs.Matched.{IsNamed}
use Rattle.vsd_overrides.proofs.matched.named_method.Goals as goal

pub loop-i-init : goal.loop-i-init
loop-i-init c w = before-none (IsNamed c.args.name.now c.args.signature.now) c.args.methods.now w

pub returns-then-is_named : goal.returns-then-is_named
returns-then-is_named c =
    let methods = c.args.methods.now in
    let i = c.loop-i.i in
    let m = c.index-methods-i.result in
    (m, record { there = slice_get_read methods (length methods) i m refl (omega arith) c.index-methods-i.is; has = c.is_named.ensures.0 c.if-is_named.true; first = c.loop-i.invariant })

pub loop-i-preserved : goal.loop-i-preserved
loop-i-preserved c w =
    let methods = c.args.methods.now in
    let i = c.loop-i.i in
    none-more (IsNamed c.args.name.now c.args.signature.now) methods i c.index-methods-i.result (slice_get_read methods (length methods) i c.index-methods-i.result refl (omega arith) c.index-methods-i.is) c.loop-i.invariant (λ is. false≢true (sym c.if-is_named.false ∙ c.is_named.ensures.1 is)) w

pub returns : goal.returns
returns c w = c.loop-i.invariant (before-all (IsNamed c.args.name.now c.args.signature.now) c.args.methods.now c.loop-i.i (omega arith) w)
