use Rattle.std.proofs.Common.{◌≡◌, ◌-◌, suc, sym, subst, None, arith}
use Rattle.vsd_grammar.specs.Grammar.{run}
use Rattle.vsd_grammar.specs.Productions.{Reads}
use Rattle.vsd_type_syntax.specs.Types.{type_of}
use Rattle.vsd_type_syntax.proofs.types.+fn-type_of-argument+type_of.Goals as goal

pub returns-then-room-eq0 : goal.returns-then-room-eq0
unfolding type_of
returns-then-room-eq0 g t c =
    subst (λ n. Reads (run _ (type_of (g.R.TypeRules.rules c.args.rules.now) n c.args.only_named) c.args.cursor.now) c.type_by.result c.type_by.new.cursor) (sym c.if-room-eq0.true)
    (c.type_by.ensures None (λ old index number r new p. p))

pub returns : goal.returns
unfolding type_of
returns g t c =
    let e : suc (c.args.room - 1) ≡ c.args.room = omega arith in
    subst (λ n. Reads (run _ (type_of (g.R.TypeRules.rules c.args.rules.now) n c.args.only_named) c.args.cursor.now) c.type_below.result c.type_below.new.cursor) e
    (c.type_below.ensures (c.args.room - 1) (λ old r new p. p))
