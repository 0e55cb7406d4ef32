use Rattle.std.proofs.Common.{◌+◌, ◌∙◌, sym}
use Rattle.std.proofs.Math.Logic.{∥∥₁_map}
use Rattle.vsd_rule.specs.Lists.{site_token}
use Rattle.vsd_table.specs.Seating.{view_of, key_of}
use Rattle.vsd_trails.specs.Operations.{called}
use Rattle.vsd_core.proofs.Resting.{rests_one, call_is_shown, evidence_for}
use Rattle.vsd_core.proofs.runtime.Runtime.call.Goals as goal

pub invariant_of-who : goal.invariant_of-who
invariant_of-who g c =
    let before = c.args.who.now in
    let made = c.call.ensures in
    let key = key_of c.args.self.now.table in
    record {
      words = before.words ∙ sym made.owned;
      count = before.count;
      unpinned = made.unpinned;
      rests = ∥∥₁_map before.rests (rests_one key before.hand.seated c.call.new.hand.seated (called c.args.site c.args.h c.call.result) (52 + key.sizes.callers) c.requires.caller.key made.trail.stays made.logged
          (call_is_shown (view_of c.call.new.hand.seated) key c.args.site c.token-token.result c.args.h c.call.result (made.trail.stays.key ∙ c.requires.caller.key) c.token-token.ensures.token made.evidence));
    }

pub returns-clause-evidence : goal.returns-clause-evidence
returns-clause-evidence g c =
    let key = key_of c.args.self.now.table in
    evidence_for (view_of c.call.new.hand.seated) c.token-token.result (site_token key c.args.site) c.args.h c.call.result c.token-token.ensures.token c.call.ensures.evidence
