use Rattle.std.proofs.Common.{◌∷◌, ap, refl, ◌∙◌}
use Rattle.vsd_rule.specs.declared.begun.Begun.{Begun}
use Rattle.vsd_rule.specs.declared.step.Begins.TheVariants.{Operation}
use Rattle.vsd_table.proofs.EpochWords.{may_load_epoch}
use Rattle.vsd_table.proofs.seated.Seated.epoch.Goals as goal

pub load-found-requires-clause-may : goal.load-found-requires-clause-may
load-found-requires-clause-may c = may_load_epoch c.args.table.now c.args.self.now c.requires.seat

pub returns-clause-step : goal.returns-clause-step
returns-clause-step c =
    let stays = c.load-found.ensures.stays in
    record {
      table_id = stays.table_id;
      seat = stays.seat;
      view = (c.load-found.ensures.learns tt refl refl refl tt).view;
      begins = c.and-self.ensures ∙ ap (λ (b : Begun). Operation c.args.doing ∷ b.items) stays.begun;
    }

pub returns-clause-small : goal.returns-clause-small
returns-clause-small c = (c.load-found.ensures.learns tt refl refl refl tt).small
