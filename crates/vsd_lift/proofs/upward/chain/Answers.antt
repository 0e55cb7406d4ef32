use Rattle.std.proofs.Common.{List, [], ◌∷◌, ◌++◌, sym, ap, ◌∙◌}
use Rattle.vsd_lift.proofs.ChainLemmas.{IsPartial-end, IsPartial-more, IsPartial-start, chain-ladder}
use Rattle.vsd_lift.proofs.upward.chain.Goals as goal

pub loop-above-init : goal.loop-above-init
loop-above-init c =
    let made = c.in_ok-push.ensures.items ∙ ap (λ (l : List _). l ++ c.args.from ∷ []) c.new-made.ensures.items in
    IsPartial-start c.args.h.now.decls.now c.args.from c.push.new.self.items made c.requires.within

pub extended-requires-clause-within : goal.extended-requires-clause-within
extended-requires-clause-within c = c.loop-above.invariant.within

pub loop-above-smaller : goal.loop-above-smaller
loop-above-smaller c = c.in-Some.ensures.lower

pub loop-above-preserved : goal.loop-above-preserved
loop-above-preserved c =
    IsPartial-more c.args.h.now.decls.now c.args.from c.loop-above.made.items c.push-in-Some.new.self.items c.loop-above.at c.in-Some.above c.in_ok-push-2.ensures.items c.loop-above.invariant (sym c.in-Some.ensures.above) c.in-Some.ensures.within

pub returns-clause-chain : goal.returns-clause-chain
returns-clause-chain c =
    IsPartial-end c.args.h.now.decls.now c.args.from c.loop-above.made.items c.loop-above.at c.loop-above.invariant (sym c.in_default.ensures.above)

pub returns-clause-ladder : goal.returns-clause-ladder
returns-clause-ladder c =
    let h = c.args.h.now in
    let chain = IsPartial-end h.decls.now c.args.from c.loop-above.made.items c.loop-above.at c.loop-above.invariant (sym c.in_default.ensures.above) in
    chain-ladder h.decls.now h.places.now h.depths.now c.args.from c.loop-above.made.items c.requires.settled c.requires.within chain
