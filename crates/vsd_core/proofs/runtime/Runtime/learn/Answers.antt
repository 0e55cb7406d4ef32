use Rattle.std.proofs.Common.{ap, ◌∙◌, sym}
use Rattle.std.proofs.Math.Logic.{∥∥₁_map}
use Rattle.vsd_rule.specs.declared.view.View.{View}
use Rattle.vsd_table.specs.Seating.{key_of}
use Rattle.vsd_core.proofs.Resting.{rests_same, logs_learn}
use Rattle.vsd_core.proofs.runtime.Runtime.learn.Goals as goal

pub invariant_of-who : goal.invariant_of-who
invariant_of-who g c =
    let before = c.args.who.now in
    let view = c.type_of.ensures.loads.step.view in
    let key = key_of c.args.self.now.table in
    record {
      words = before.words ∙ sym (ap (λ (v : View). v.handles.owned) view);
      count = before.count;
      unpinned = ap (λ (v : View). v.rows.pinned) view ∙ before.unpinned;
      rests = ∥∥₁_map before.rests (rests_same key before.hand.seated c.type_of.new.hand.seated c.requires.caller.key c.type_of.ensures.trail.stays
          (logs_learn key c.args.h before.hand.seated c.type_of.new.hand.seated c.type_of.result c.requires.caller.key c.type_of.ensures.trail));
    }
