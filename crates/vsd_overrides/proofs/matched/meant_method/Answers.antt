use Rattle.std.proofs.Common.{◌∙◌, length, refl, sym, arith}
use Rattle.vsd_ast.specs.WellFormed.{IsMethod}
use Rattle.vsd_lift.proofs.PlaceLemmas.{All-at}
use Rattle.std.proofs.lemmas.Bool.{false≢true}
use Rattle.std.proofs.lemmas.Option.{slice_get_read}
use Rattle.vsd_ways.proofs.FoundLemmas.{before-all, before-none, none-more}
use Rattle.vsd_overrides.specs.Matched.{IsMeant}
use Rattle.vsd_overrides.proofs.matched.meant_method.Goals as goal

pub loop-i-init : goal.loop-i-init
loop-i-init c w = before-none (IsMeant c.args.o.now c.args.args.now c.args.implementing.now) c.args.methods.now w

pub returns-then-is_meant : goal.returns-then-is_meant
returns-then-is_meant c =
    let methods = c.args.methods.now in
    let i = c.loop-i.i in
    let m = c.index-methods-i.result in
    (m, record { there = slice_get_read methods (length methods) i m refl (omega arith) c.index-methods-i.is; has = c.is_meant.ensures.0 c.if-is_meant.true; first = c.loop-i.invariant })

pub loop-i-preserved : goal.loop-i-preserved
loop-i-preserved c w =
    let methods = c.args.methods.now in
    let i = c.loop-i.i in
    none-more (IsMeant c.args.o.now c.args.args.now c.args.implementing.now) methods i c.index-methods-i.result (slice_get_read methods (length methods) i c.index-methods-i.result refl (omega arith) c.index-methods-i.is) c.loop-i.invariant (λ is. false≢true (sym c.if-is_meant.false ∙ c.is_meant.ensures.1 is)) w

pub returns : goal.returns
returns c w = c.loop-i.invariant (before-all (IsMeant c.args.o.now c.args.args.now c.args.implementing.now) c.args.methods.now c.loop-i.i (omega arith) w)

pub is_meant-requires : goal.is_meant-requires
is_meant-requires c =
    let w = c.requires.written in
    let methods = c.args.methods.now in
    let i = c.loop-i.i in
    (w.0, All-at (IsMethod w.0 (length c.args.args.now)) methods i c.index-methods-i.result (slice_get_read methods (length methods) i c.index-methods-i.result refl (omega arith) c.index-methods-i.is) w.1)
