use Rattle.std.proofs.Common.{false, refl, ap}
use Rattle.std.proofs.Math.Logic.{∥∥₁_map}
use Rattle.vsd_rule.specs.declared.handle_view.HandleView.{HandleView}
use Rattle.vsd_rule.specs.Handles.{own_word}
use Rattle.vsd_rule.specs.Moves.{own_index}
use Rattle.vsd_table.specs.Seating.{key_of, view_of}
use Rattle.vsd_trails.specs.Operations.{unloaded}
use Rattle.vsd_handles.specs.OwnRows.{own_row_word}
use Rattle.vsd_core.proofs.Resting.{rests_one}
use Rattle.vsd_core.proofs.Owning.{loses}
use Rattle.vsd_core.proofs.Counts.{counts_unload, counts_same}
use Rattle.vsd_core.proofs.runtime.Runtime.unload.Goals as goal

pub invariant_of-who : goal.invariant_of-who
invariant_of-who g c =
    let before = c.args.who.now in
    let key = key_of c.args.self.now.table in
    let old = view_of before.hand.seated in
    let h = c.args.h in
    record {
      words = c.unload.ensures.words;
      count = counts_same before.owned c.unload.new.owned old (view_of c.unload.new.hand.seated) (own_index old h.row) (own_word h.generation (own_row_word old h.row).number false) before.words c.unload.ensures.words
          (ap (λ (n : HandleView). n.owned) c.unload.ensures.handles) before.count;
      unpinned = c.unload.ensures.unpinned;
      rests = ∥∥₁_map before.rests (rests_one key before.hand.seated c.unload.new.hand.seated (unloaded c.args.h) _ c.requires.caller.key c.unload.ensures.trail.stays c.unload.ensures.logged tt);
    }

pub returns-clause-loses : goal.returns-clause-loses
returns-clause-loses g c =
    let h = c.args.h in
    let old = view_of c.args.who.now.hand.seated in
    let stays = c.unload.ensures.trail.stays in
    loses old (view_of c.unload.new.hand.seated) stays.key stays.who h.row (own_word h.generation (own_row_word old h.row).number false) (ap (λ (n : HandleView). n.owned) c.unload.ensures.handles) h refl c.requires.owned c.unload.ensures.word refl refl

pub returns-clause-counts : goal.returns-clause-counts
returns-clause-counts g c = counts_unload (view_of c.args.who.now.hand.seated) (view_of c.unload.new.hand.seated) c.args.h c.requires.owned (ap (λ (n : HandleView). n.owned) c.unload.ensures.handles)
