use Rattle.std.proofs.Common.{rules, arith}
use Rattle.vsd_grammar.specs.Grammar.{items}
use Rattle.vsd_grammar.proofs.ListSteps.{stops_at_item, stops_after_item, goes_on_after_item, stops_when_full}
use Rattle.vsd_grammar.proofs.loops.separated.Goals as goal

pub returns-in_err-one_of : goal.returns-in_err-one_of
returns-in_err-one_of g c = λ f p h k.
    let x = stops_at_item f c.args.many p c.args.most (items f c.args.many p c.args.most c.args.cursor.now) c.items.found c.items.cursor c.in_err-one_of.field-0.0 c.one_of.new.cursor c.one_of.new.cursor
    (c.items.invariant f p h k) (omega arith) (c.in_err-one_of.ensures f p h k) in
    search rules

pub returns-then-not-eat : goal.returns-then-not-eat
returns-then-not-eat g c = λ f p h k.
    stops_after_item f c.args.many p c.args.most (items f c.args.many p c.args.most c.args.cursor.now) c.items.found c.push.new.self c.items.cursor c.in_ok-one_of.field-0 c.one_of.new.cursor c.eat.new.self c.eat.result
    (c.items.invariant f p h k) (omega arith) (c.in_ok-one_of.ensures f p h k) c.eat.ensures.found c.if-not-eat.true c.eat.ensures.after c.in_ok-push.ensures.ok

pub items-preserved : goal.items-preserved
items-preserved g c = λ f p h k.
    goes_on_after_item f c.args.many p c.args.most (items f c.args.many p c.args.most c.args.cursor.now) c.items.found c.push.new.self c.items.cursor c.in_ok-one_of.field-0 c.one_of.new.cursor c.eat.new.self c.eat.result
    (c.items.invariant f p h k) (omega arith) (c.in_ok-one_of.ensures f p h k) c.eat.ensures.found c.if-not-eat.false c.eat.ensures.after c.in_ok-push.ensures.ok

pub returns : goal.returns
returns g c = λ f p h k.
    stops_when_full f c.args.many p c.args.most (items f c.args.many p c.args.most c.args.cursor.now) c.items.found c.items.cursor c.class.result c.bytes.result.now c.first.result c.unwrap_or.result c.refuse.result c.items.cursor
    (c.items.invariant f p h k) (omega arith) c.class.ensures c.bytes.ensures (h c.class.result c.bytes.result c.first.result c.first.ensures) c.unwrap_or.ensures c.refuse.ensures
