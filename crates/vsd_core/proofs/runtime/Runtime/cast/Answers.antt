use Rattle.std.proofs.Common.{Result, Ok, Err, IfOk, ◌∙◌, sym}
use Rattle.std.proofs.Math.Logic.{∥∥₁_map}
use Rattle.vsd_words.specs.declared.handle.Handle.{Handle}
use Rattle.vsd_rule.specs.declared.view.View.{View}
use Rattle.vsd_rule.specs.Evidence.{HasCastEvidence}
use Rattle.vsd_table.specs.Seating.{view_of, key_of}
use Rattle.vsd_trails.specs.declared.answers.CastAnswer.{CastAnswer}
use Rattle.vsd_trails.specs.declared.answers.Unloaded.{Unloaded}
use Rattle.vsd_trails.specs.Operations.{cast_to}
use Rattle.vsd_core.specs.Resting.{IsShown}
use Rattle.vsd_core.proofs.Resting.{rests_one}
use Rattle.vsd_core.proofs.runtime.Runtime.cast.Goals as goal

cast_is_shown : (v : View) (source target : Handle) (r : Result CastAnswer Unloaded) → IfOk r (λ a. HasCastEvidence v source target a.yes) → IsShown v (cast_to source target r)
cast_is_shown v source target (Ok a) told = told
cast_is_shown v source target (Err u) told = tt

pub invariant_of-who : goal.invariant_of-who
invariant_of-who g c =
    let before = c.args.who.now in
    let made = c.cast.ensures in
    let key = key_of c.args.self.now.table in
    record {
      words = before.words ∙ sym made.stays.owned;
      count = before.count;
      unpinned = made.stays.pinned ∙ before.unpinned;
      rests = ∥∥₁_map before.rests (rests_one key before.hand.seated c.cast.new.hand.seated (cast_to c.args.source c.args.target c.cast.result) 39 c.requires.caller.key made.trail.stays made.logged
          (cast_is_shown (view_of c.cast.new.hand.seated) c.args.source c.args.target c.cast.result made.evidence));
    }
