-- Each step of retiring and sweeping may be made.
use Rattle.std.proofs.Common.{◌≡◌, ℕ, ◌+◌, ◌<◌, ◌^◌, List, [], ◌∷◌, length, get_or, set, ap, sym, refl, ◌∙◌, subst, arith}
use Rattle.vsd_rule.specs.declared.key.Key.{Key}
use Rattle.vsd_rule.specs.declared.row_view.Keeping.TheVariants.{Unlinked}
use Rattle.vsd_rule.specs.declared.row_view.KeptRow.{KeptRow}
use Rattle.vsd_rule.specs.declared.view.View.{View}
use Rattle.vsd_rule.specs.Layout.{pin_at, row_word_at}
use Rattle.vsd_rule.specs.Rows.{keeping_of}
use Rattle.vsd_rule.specs.Zones.{zones}
use Rattle.vsd_rule.specs.Rule.{Rule}
use Rattle.vsd_rule.specs.RowSteps.{after_epoch_to_retire, after_raise, after_epoch_of, after_free_swept}
use Rattle.vsd_rule.specs.RowFacts.{Leaves, IsOldest}
use Rattle.vsd_rule.proofs.Windows.{epoch_word}
use Rattle.vsd_rule.proofs.RowMoves.{keeping_here}
use Rattle.vsd_rule.proofs.RuleByRows.{epoch_small}
use Rattle.vsd_rule.proofs.RuleByLimbo.{epoch_to_retire_keeps, raise_won, raise_lost, epoch_of_caller_keeps, free_oldest_keeps}
use Rattle.vsd_table.specs.LimboKinds.{epoch_to_retire, raise, epoch_of, free_swept}
use Rattle.vsd_table.specs.Seating.{key_of, view_of, Belongs}
use Rattle.vsd_table.specs.Stepping.{MayLoad, MayStore, MayExchange}
use Rattle.vsd_table.specs.declared.shared.Shared.{Shared}
use Rattle.vsd_table.specs.declared.seated.Seated.{Seated}
use Rattle.vsd_table.proofs.Kept.{Unique, may_load, may_store, may_exchange}

first_row : List KeptRow → ℕ
first_row [] = 0
first_row (x ∷ xs) = x.row

-- the latest step that moved a row took out one row
retire_unique : Unique epoch_to_retire
unfolding first_row
retire_unique s v x y word a b fits fits' = ap first_row (sym fits.latest ∙ fits'.latest)

raise_unique : Unique raise
raise_unique s v x y word a b fits fits' = a

epoch_of_unique : Unique epoch_of
epoch_of_unique s v x y word a b fits fits' = omega arith

free_unique : Unique free_swept
free_unique s v x y word a b fits fits' = omega arith

module _ (table : Shared) (seated : Seated) (belongs : Belongs table seated) where
  abbrev k : Key
  k = key_of table

  abbrev v : View
  v = view_of seated

  abbrev id : ℕ
  id = seated.seat.id

  pub may_load_to_retire : (row : ℕ) → row < k.sizes.rows → Leaves v row → length v.rows.limbo < 16 → MayLoad epoch_to_retire table seated 0
  may_load_to_retire row small leaves room = may_load epoch_to_retire retire_unique table seated 0 row belongs refl leaves refl refl (λ words views rule at.
      let found : (zones k.sizes words).epoch ≡ get_or words 0 0 = epoch_word k.sizes words in
      let mine : keeping_of row v.rows.kept ≡ Unlinked = ap (keeping_of row) leaves.latest ∙ keeping_here row Unlinked leaves.others in
      record {
        after = after_epoch_to_retire v row (get_or words 0 0);
        same = record { key = refl; who = refl };
        stepped = (_, refl, λ split. split);
        rule = subst (λ (e : ℕ). Rule k words (set views id (after_epoch_to_retire v row e))) found (epoch_to_retire_keeps k words views rule id v at row small mine room);
        tells = record { view = refl; small = let small = epoch_small k words views rule id v at in omega arith };
      })

  pub may_raise : (epoch new : ℕ) → new ≡ epoch + 1 → epoch < 2 ^ 62 → MayExchange raise table seated 0 epoch new
  may_raise epoch new is small = may_exchange raise raise_unique table seated 0 epoch belongs refl tt epoch new refl (sym is)
      (λ words views rule at found. record {
        after = after_raise v epoch epoch;
        same = record { key = refl; who = refl };
        stepped = (_, refl, λ split. split);
        rule = subst (λ (x : ℕ). Rule k (set words 0 x) (set views id (after_raise v epoch epoch))) (sym is) (raise_won k words views rule id v at epoch small found);
        tells = ap (after_raise v epoch) (sym found);
      })
      (λ words views rule at other. record {
        after = after_raise v epoch (get_or words 0 0);
        same = record { key = refl; who = refl };
        stepped = (_, refl, λ split. split);
        rule = raise_lost k words views rule id v at epoch (get_or words 0 0);
        tells = refl;
      })

  pub may_load_epoch_of : (caller index : ℕ) → index ≡ pin_at caller → caller < k.sizes.callers → MayLoad epoch_of table seated index
  may_load_epoch_of caller index there small = may_load epoch_of epoch_of_unique table seated index caller belongs there tt refl refl (λ words views rule at. record {
    after = after_epoch_of v caller (get_or words index 0);
    same = record { key = refl; who = refl };
    stepped = (_, refl, λ split. split);
    rule = subst (λ (i : ℕ). Rule k words (set views id (after_epoch_of v caller (get_or words i 0)))) (sym there) (epoch_of_caller_keeps k words views rule id v at caller small);
    tells = refl;
  })

  pub may_free_swept : (row index : ℕ) → index ≡ row_word_at k.sizes row 0 → IsOldest v row → v.rows.passed ≡ k.sizes.callers → MayStore free_swept table seated index 0
  may_free_swept row index there oldest passed = may_store free_swept free_unique table seated index row belongs there tt 0 refl refl (λ words views rule at. record {
    after = after_free_swept v row;
    same = record { key = refl; who = refl };
    stepped = (_, refl, λ split. split);
    rule = subst (λ (i : ℕ). Rule k (set words i 0) (set views id (after_free_swept v row))) (sym there)
        (free_oldest_keeps k words views rule id v at (record { row = row; epoch = oldest.epoch }) oldest.others oldest.queue passed);
    tells = refl;
  })
