use Rattle.std.proofs.Math.Logic.{∥∥₁_map}
use Rattle.vsd_table.specs.Seating.{key_of, view_of}
use Rattle.vsd_core.proofs.Loading.{load_unpinned, load_logs, load_rests, load_keeps, load_counts, load_raises}
use Rattle.vsd_core.proofs.Counts.{load_has_room}
use Rattle.vsd_core.proofs.runtime.Runtime.load.Goals as goal

pub invariant_of-who : goal.invariant_of-who
invariant_of-who g c =
    let before = c.args.who.now in
    let made = c.bind.ensures in
    record {
      words = made.words;
      count = load_counts c.args.t before.hand c.bind.new.hand before.owned c.bind.new.owned c.bind.result made.step made.unchanged before.words made.words before.count;
      unpinned = load_unpinned c.args.t before.hand c.bind.new.hand _ c.bind.result made.step made.unchanged before.unpinned;
      rests = ∥∥₁_map before.rests (load_rests c.args.t before.hand c.bind.new.hand _ (key_of c.args.self.now.table) c.bind.result c.requires.caller.key made.trail made.known made.unchanged);
    }

pub returns-clause-logged : goal.returns-clause-logged
returns-clause-logged g c = load_logs c.args.t c.args.who.now.hand c.bind.new.hand (Unit {0}) (key_of c.args.self.now.table) c.bind.result c.requires.caller.key c.bind.ensures.trail

pub returns-clause-keeps : goal.returns-clause-keeps
returns-clause-keeps g c = load_keeps c.args.t c.args.who.now.hand c.bind.new.hand _ c.bind.result c.bind.ensures.next c.bind.ensures.step c.bind.ensures.unchanged

pub returns-clause-counts : goal.returns-clause-counts
returns-clause-counts g c = load_raises c.args.t c.args.who.now.hand c.bind.new.hand c.bind.result c.bind.ensures.next c.bind.ensures.step

pub returns-clause-room : goal.returns-clause-room
returns-clause-room g c =
    let before = c.args.who.now in
    load_has_room (view_of before.hand.seated) before.owned c.bind.result before.words c.bind.ensures.full before.count
