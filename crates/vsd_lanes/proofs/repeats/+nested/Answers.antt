use Rattle.std.proofs.Common.{◌≡◌, ◌-◌, suc, Err, refl, sym, subst, arith}
use Rattle.vsd_grammar.specs.Grammar.{run}
use Rattle.vsd_grammar.specs.Productions.{Reads}
use Rattle.vsd_grammar.proofs.Outcomes.{reads_refused}
use Rattle.vsd_lanes.specs.Setting.{setting_of}
use Rattle.vsd_lanes.specs.Productions.{deeper, Step}
use Rattle.vsd_lanes.proofs.repeats.+nested.Goals as goal

pub deeper-returns-then-room-eq0 : goal.deeper-returns-then-room-eq0
unfolding deeper
deeper-returns-then-room-eq0 t c =
    subst (λ n. Reads (run Step (deeper (setting_of c.args.ground.now) n c.args.lane) c.args.cursor.now) (Err c.refuse.result) c.args.cursor.now) (sym c.if-room-eq0.true)
    (reads_refused (run Step (deeper (setting_of c.args.ground.now) 0 c.args.lane) c.args.cursor.now) c.refuse.result _ c.args.cursor.now c.refuse.ensures refl)

pub deeper-returns : goal.deeper-returns
unfolding deeper
deeper-returns t c =
    let e : suc (c.args.room - 1) ≡ c.args.room = omega arith in
    subst (λ n. Reads (run Step (deeper (setting_of c.args.ground.now) n c.args.lane) c.args.cursor.now) c.repeated.result c.repeated.new.cursor) e
    (c.repeated.ensures (c.args.room - 1) (λ old s r new p. p.1))
