-- What each step of retiring and sweeping keeps of the whole rule.
use Rattle.std.proofs.Common.{◌≡◌, ℕ, ◌+◌, ◌*◌, ◌<◌, ◌≤◌, ◌^◌, List, ◌∷◌, Option, Some, None, length, map, get_or, set, ap, sym, refl, ◌∙◌, subst, arith}
use Rattle.std.specs.Prelude.{IfSome}
use mathlib.Core.Option.{some}
use lib.ListN.{get_elem?}
use Rattle.vsd_rule.specs.declared.key.Key.{Key}
use Rattle.vsd_rule.specs.declared.row_view.RetiredRow.{RetiredRow}
use Rattle.vsd_rule.specs.declared.row_view.Keeping.TheVariants.{Unlinked}
use Rattle.vsd_rule.specs.declared.step.Act.TheVariants.{EpochToRetire, Raise, EpochOf, FreeSwept}
use Rattle.vsd_rule.specs.declared.view.View.{View}
use Rattle.vsd_rule.specs.Layout.{pin_at, row_word_at}
use Rattle.vsd_rule.specs.Zones.{Zones, zones}
use Rattle.vsd_rule.specs.Rows.{Rows, keeping_of}
use Rattle.vsd_rule.specs.Rule.{Rule, row_seat}
use Rattle.vsd_rule.specs.RowSteps.{after_raise, retired, after_epoch_to_retire, swept, after_epoch_of, freed, after_free_swept}
use Rattle.vsd_rule.proofs.Windows.{epoch_word, epoch_written, pin_word, rows_length, row_written}
use Rattle.vsd_rule.proofs.RowPins.{epoch_keeps}
use Rattle.vsd_rule.proofs.RowLimbo.{retire_keeps, epoch_of_keeps, free_swept_keeps}
use Rattle.vsd_rule.proofs.RuleByClaims.{nothing_keeps}
use Rattle.vsd_rule.proofs.RuleByRows as by

module _ (k : Key) (words : List ℕ) (views : List View) (r : Rule k words views) (id : ℕ) (v : View) (at : get_elem? views id ≡ some v) where
  abbrev z : Zones
  z = zones k.sizes words

  abbrev rows : Rows k r.whole.gen r.whole.name z.epoch z.pins z.cells z.rows z.buckets (map row_seat views)
  rows = r.whole.rows

  -- an unlinked row enters limbo with the epoch that is loaded
  pub epoch_to_retire_keeps : (row : ℕ) → row < k.sizes.rows → keeping_of row v.rows.kept ≡ Unlinked → length v.rows.limbo < 16 → Rule k words (set views id (after_epoch_to_retire v row z.epoch))
  epoch_to_retire_keeps row small mine few = by.by_rows k words views r id v at (retired v.rows row z.epoch) (EpochToRetire row) z.epoch
      (retire_keeps k rows id (by.d k words views r id v at) (by.at_row_seat k words views r id v at) row small mine few)

  pub raise_won : (epoch : ℕ) → epoch < 2 ^ 62 → get_or words 0 0 ≡ epoch → Rule k (set words 0 (epoch + 1)) (set views id (after_raise v epoch epoch))
  raise_won epoch small is =
      let now : z.epoch ≡ epoch = epoch_word k.sizes words ∙ is in
      let long : 0 < length words = let sized = r.sized in omega arith in
      by.by_write k words views r id v at 0 (epoch + 1) (record (by.row_zones z) { epoch = epoch + 1 }) v.rows (Raise epoch) epoch (epoch_written k.sizes words (epoch + 1) long)
      (epoch_keeps k rows id (by.d k words views r id v at) (by.at_row_seat k words views r id v at) (epoch + 1) v.rows.epoch (omega arith) (omega arith) (loaded v.rows.epoch (by.mine k words views r id v at).loaded))
    where
      loaded : (o : Option ℕ) → IfSome o (λ (e : ℕ). e ≤ z.epoch) → IfSome o (λ (e : ℕ). e ≤ epoch + 1)
      loaded None h = tt
      loaded (Some e) h = let now : z.epoch ≡ epoch = epoch_word k.sizes words ∙ is in omega arith

  pub raise_lost : (epoch found : ℕ) → Rule k words (set views id (after_raise v epoch found))
  raise_lost epoch found = nothing_keeps k words views r id v at v.rows (Raise epoch) found refl

  -- a sweep loads a caller's epoch word
  pub epoch_of_caller_keeps : (caller : ℕ) → caller < k.sizes.callers → Rule k words (set views id (after_epoch_of v caller (get_or words (pin_at caller) 0)))
  epoch_of_caller_keeps caller small =
      let word : ℕ = get_or words (pin_at caller) 0 in
      by.by_rows k words views r id v at (swept v.rows v.rows.limbo caller word) (EpochOf caller) word
      (epoch_of_keeps k rows id (by.d k words views r id v at) (by.at_row_seat k words views r id v at) caller word small (sym (pin_word k.sizes words caller small)))

  -- every caller was passed
  pub free_oldest_keeps : (oldest : RetiredRow) (others : List RetiredRow) → v.rows.limbo ≡ oldest ∷ others → v.rows.passed ≡ k.sizes.callers
      → Rule k (set words (row_word_at k.sizes oldest.row 0) 0) (set views id (after_free_swept v oldest.row))
  free_oldest_keeps oldest others queue passed =
      let row : ℕ = oldest.row in
      let d = by.d k words views r id v at in
      let there = by.at_row_seat k words views r id v at in
      let small : row < k.sizes.rows = ((by.mine k words views r id v at).limbo 0 oldest (ap (λ (xs : List RetiredRow). get_elem? xs 0) queue)).row in
      let first : 4 * row + 0 ≡ 4 * row = omega arith in
      by.by_write k words views r id v at (row_word_at k.sizes row 0) 0 (record (by.row_zones z) { rows = set z.rows (4 * row + 0) 0 }) (freed v.rows row) (FreeSwept row) 0
      (row_written k.sizes words (4 * row + 0) 0 (omega arith))
      (subst (λ (i : ℕ). by.RowsAre k words views r id v at (record (by.row_zones z) { rows = set z.rows i 0 }) (freed v.rows row)) (sym first)
      (free_swept_keeps k rows id d there oldest others queue passed (rows_length k.sizes words r.sized) (λ seat number e other who. by.callers_below k words views r id v at seat number e other who)))
