-- Each step on the epoch and on the own epoch word may be made.
use Rattle.std.proofs.Common.{◌≡◌, ℕ, ◌+◌, Some, get_or, set, ap, sym, refl, ◌∙◌, subst, arith, true}
use Rattle.vsd_rule.specs.declared.key.Key.{Key}
use Rattle.vsd_rule.specs.declared.view.View.{View}
use Rattle.vsd_rule.specs.declared.view.Who.TheVariants.{Caller}
use Rattle.vsd_rule.specs.Layout.{pin_at}
use Rattle.vsd_rule.specs.Seats.{caller_of, is_caller}
use Rattle.vsd_rule.specs.Zones.{zones}
use Rattle.vsd_rule.specs.Rule.{Rule}
use Rattle.vsd_rule.specs.RowSteps.{after_epoch, after_pin, after_unpin}
use Rattle.vsd_rule.proofs.Steps.{who_is}
use Rattle.vsd_rule.proofs.Windows.{epoch_word}
use Rattle.vsd_rule.proofs.RuleByClaims.{calls_agree}
use Rattle.vsd_rule.proofs.RuleByRows.{epoch_small, load_epoch_keeps, pin_keeps, unpin_keeps}
use Rattle.vsd_table.specs.EpochKinds.{load_epoch, pin, unpin}
use Rattle.vsd_table.specs.Seating.{key_of, view_of, Belongs}
use Rattle.vsd_table.specs.Stepping.{MayLoad, MayStore}
use Rattle.vsd_table.specs.declared.shared.Shared.{Shared}
use Rattle.vsd_table.specs.declared.seated.Seated.{Seated}
use Rattle.vsd_table.proofs.Kept.{Unique, may_load, may_store}
use Rattle.vsd_table.proofs.Seats.{there_now}

epoch_unique : Unique load_epoch
epoch_unique s v x y word a b fits fits' = refl

pin_unique : Unique pin
pin_unique s v x y word a b fits fits' =
    let caller : x.caller ≡ y.caller = omega arith in
    let epoch : x.epoch ≡ y.epoch = omega arith in
    λ c. record { caller = caller c; epoch = epoch c }

unpin_unique : Unique unpin
unpin_unique s v x y word a b fits fits' = omega arith

module _ (table : Shared) (seated : Seated) (belongs : Belongs table seated) where
  abbrev k : Key
  k = key_of table

  abbrev v : View
  v = view_of seated

  pub may_load_epoch : MayLoad load_epoch table seated 0
  may_load_epoch = may_load load_epoch epoch_unique table seated 0 tt belongs refl tt refl refl (λ words views rule at.
      let id : ℕ = seated.seat.id in
      let found : (zones k.sizes words).epoch ≡ get_or words 0 0 = epoch_word k.sizes words in
      record {
        after = after_epoch v (get_or words 0 0);
        same = record { key = refl; who = refl };
        stepped = (_, refl, λ split. split);
        rule = subst (λ (e : ℕ). Rule k words (set views id (after_epoch v e))) found (load_epoch_keeps k words views rule id v at);
        tells = record { view = refl; small = let small = epoch_small k words views rule id v at in omega arith };
      })

  module _ (caller index : ℕ) (is_caller : is_caller v.who ≡ true) (number : caller ≡ caller_of v.who) (there : index ≡ pin_at caller) where
    who : v.who ≡ Caller caller
    who = who_is v.who is_caller ∙ ap Caller (sym number)

    pub may_pin : (epoch new : ℕ) → epoch + 1 ≡ new → v.rows.epoch ≡ Some epoch → MayStore pin table seated index new
    may_pin epoch new is loaded = may_store pin pin_unique table seated index (record { caller = caller; epoch = epoch }) belongs there tt new is refl (λ words views rule at. record {
      after = after_pin v epoch;
      same = record { key = refl; who = refl };
      stepped = (_, refl, λ split. split);
      rule = let kept = pin_keeps k words views rule seated.seat.id v at caller epoch who loaded in
          subst (λ (q : ℕ × ℕ). Rule k (set words q.0 q.1) (set views seated.seat.id (after_pin v epoch))) (λ c. (sym there c, is c)) kept;
      tells = refl;
    })

    pub may_unpin : MayStore unpin table seated index 0
    may_unpin = may_store unpin unpin_unique table seated index caller belongs there tt 0 refl refl (λ words views rule at.
        let id : ℕ = seated.seat.id in
        let after : View = after_unpin v in
        let kept : Rule k (set words index 0) (set views id after) = subst (λ (i : ℕ). Rule k (set words i 0) (set views id after)) (sym there) (unpin_keeps k words views rule id v at caller who) in
        record {
          after = after;
          same = record { key = refl; who = refl };
          stepped = (_, refl, λ split. split);
          rule = kept;
          tells = record { view = refl; agree = calls_agree k (set words index 0) (set views id after) kept id after (there_now views id v after at) };
        })
