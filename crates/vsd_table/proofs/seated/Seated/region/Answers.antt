use Rattle.std.proofs.Common.{◌∷◌, ap, refl, subst, ◌∙◌, arith, ◌<◌}
use Rattle.vsd_rule.specs.declared.begun.Begun.{Begun}
use Rattle.vsd_rule.specs.declared.key.Key.{Key}
use Rattle.vsd_rule.specs.declared.step.Begins.TheVariants.{Cast}
use Rattle.vsd_table.proofs.CastWords.{may_load_region}
use Rattle.vsd_table.proofs.seated.Seated.region.Goals as goal

pub load-found-requires-clause-may : goal.load-found-requires-clause-may
load-found-requires-clause-may c = may_load_region c.args.table.now c.args.self.now c.requires.seat c.region_index-index.result c.region_index-index.ensures.index

pub returns-clause-lawful : goal.returns-clause-lawful
returns-clause-lawful c = subst (λ (k : Key). c.load-found.result < k.sizes.regions) c.requires.seat.key (c.load-found.ensures.learns tt c.region_index-index.ensures.index refl refl tt).1

pub overflow_cast-result : goal.overflow_cast-result
overflow_cast-result c =
    let found : c.load-found.result < _ = subst (λ (k : Key). c.load-found.result < k.sizes.regions) c.requires.seat.key (c.load-found.ensures.learns tt c.region_index-index.ensures.index refl refl tt).1 in
    let few = c.region_index-index.ensures.few in
    omega arith

pub returns-clause-step : goal.returns-clause-step
returns-clause-step c =
    let stays = c.load-found.ensures.stays in
    record {
      table_id = stays.table_id;
      seat = stays.seat;
      view = (c.load-found.ensures.learns tt c.region_index-index.ensures.index refl refl tt).0;
      begins = c.and-self.ensures ∙ ap (λ (b : Begun). Cast c.args.source c.args.target ∷ b.items) stays.begun;
    }
