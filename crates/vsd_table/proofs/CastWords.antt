-- Each step on the region and on cast rows may be made.
use Rattle.std.proofs.Common.{◌≡◌, ◌≢◌, ℕ, ◌+◌, ◌*◌, ◌%◌, ◌<◌, ◌≤◌, ◌^◌, Bool, Some, List, get_or, set, ap, sym, refl, ◌∙◌, subst, arith}
use mathlib.Core.Option.{some}
use lib.ListN.{get_elem?}
use Rattle.vsd_words.specs.declared.handle.Handle.{Handle}
use Rattle.vsd_words.specs.declared.cast_word.CastWord.{CastWord}
use Rattle.vsd_words.specs.Handle.{IsHandlePacking}
use Rattle.vsd_words.specs.CastWord.{IsCastPacking}
use Rattle.vsd_words.proofs.Packings.{packed_handle-one_to_one, handle_packing-one_to_one, packed_cast-one_to_one, cast_packing-one_to_one}
use Rattle.vsd_rule.specs.declared.cast_view.Written.{Written}
use Rattle.vsd_rule.specs.declared.key.Key.{Key}
use Rattle.vsd_rule.specs.declared.view.View.{View}
use Rattle.vsd_rule.specs.Layout.{region_at, casts_from, cast_row, cast_rows}
use Rattle.vsd_rule.specs.Zones.{zones}
use Rattle.vsd_rule.specs.Casts.{write_of}
use Rattle.vsd_rule.specs.Rule.{Rule}
use Rattle.vsd_rule.specs.Evidence.{HasCastEvidence}
use Rattle.vsd_rule.specs.CastSteps.{after_region, after_grow, after_version, after_source, after_cast_word, after_version_again, after_claim_cast, after_reclaim_cast, after_set_source, after_set_cast, after_publish}
use Rattle.vsd_rule.proofs.Numbering.{cast_row-below, cast_row-one_to_one}
use Rattle.vsd_rule.proofs.Windows.{region_word}
use Rattle.vsd_rule.proofs.RuleByCasts.{unchanged_keeps, region_lawful, load_region_keeps, grow_keeps, version_small, source_packing, word_packing, load_version_keeps, load_source_keeps, load_cast_keeps, load_version_again_keeps, take_won, take_lost, store_source_keeps, store_cast_keeps, store_version_keeps, casts_agree}
use Rattle.vsd_table.specs.CastKinds.{load_region, grow, load_version, load_source, load_cast, load_version_again, claim_cast, reclaim_cast, publish, set_source, set_cast, CastPlace, IsInRegion}
use Rattle.vsd_table.specs.Seating.{key_of, view_of, Belongs}
use Rattle.vsd_table.specs.Stepping.{MayLoad, MayStore, MayExchange}
use Rattle.vsd_table.specs.declared.shared.Shared.{Shared}
use Rattle.vsd_table.specs.declared.seated.Seated.{Seated}
use Rattle.vsd_table.proofs.Kept.{Unique, may_load, may_store, may_exchange}
use Rattle.vsd_table.proofs.Seats.{there_now}

-- ---- the word and the operands say what a step was given

region_unique : Unique load_region
region_unique s v x y word a b fits fits' = refl

grow_unique : Unique grow
grow_unique s v x y word a b fits fits' = a

-- a cast row's word says which cast row it is
same_place : (x y : CastPlace) → cast_row x.region x.row ≡ cast_row y.region y.row → IsInRegion x → IsInRegion y → x ≡ y
same_place x y same fits fits' = let t = cast_row-one_to_one x.region x.row y.region y.row fits fits' same in λ c. record { region = t.0 c; row = t.1 c }

version_unique : Unique load_version
version_unique s v x y word a b fits fits' = same_place x y (omega arith) fits fits'

source_unique : Unique load_source
source_unique s v x y word a b fits fits' = same_place x y (omega arith) fits fits'

cast_unique : Unique load_cast
cast_unique s v x y word a b fits fits' = same_place x y (omega arith) fits fits'

again_unique : Unique load_version_again
again_unique s v x y word a b fits fits' = same_place x y (omega arith) fits fits'

claim_unique : Unique claim_cast
claim_unique s v x y word a b fits fits' = same_place x y (omega arith) fits fits'

reclaim_unique : Unique reclaim_cast
reclaim_unique s v x y word a b fits fits' = let p = same_place x.at y.at (omega arith) fits fits' in λ c. record { at = p c; version = a c }

publish_unique : Unique publish
publish_unique s v x y word a b fits fits' = let p = same_place x.at y.at (omega arith) fits fits' in λ c. record { at = p c; version = a c }

set_source_unique : Unique set_source
set_source_unique s v x y word a b fits fits' =
    let p = same_place x.at y.at (omega arith) fits.0 fits'.0 in
    let h = packed_handle-one_to_one x.source y.source fits.1 fits'.1 a in
    λ c. record { at = p c; source = h c }

set_cast_unique : Unique set_cast
set_cast_unique s v x y word a b fits fits' =
    let p = same_place x.at y.at (omega arith) fits.0 fits'.0 in
    let w = packed_cast-one_to_one x.word y.word fits.1 fits'.1 a in
    λ c. record { at = p c; word = w c }

module _ (table : Shared) (seated : Seated) (belongs : Belongs table seated) where
  abbrev k : Key
  k = key_of table

  abbrev v : View
  v = view_of seated

  abbrev id : ℕ
  id = seated.seat.id

  -- ---- the region

  module _ (index : ℕ) (there : index ≡ region_at k.sizes) where
    -- the region that a step finds is one of the table's
    found_lawful : (words : List ℕ) (views : List View) → Rule k words views → get_elem? views id ≡ some v → get_or words index 0 < v.key.sizes.regions
    found_lawful words views rule at =
        let lawful = region_lawful k words views rule id v at in
        let is : (zones k.sizes words).region ≡ get_or words index 0 = region_word k.sizes words ∙ ap (λ (i : ℕ). get_or words i 0) (sym there) in
        subst (λ (q : Key). get_or words index 0 < q.sizes.regions) (sym belongs.key) (subst (λ (n : ℕ). n < k.sizes.regions) is lawful)

    pub may_load_region : MayLoad load_region table seated index
    may_load_region = may_load load_region region_unique table seated index tt belongs there tt refl refl (λ words views rule at. record {
      after = after_region v (get_or words index 0);
      same = record { key = refl; who = refl };
      stepped = (_, refl, λ split. split);
      rule = load_region_keeps k words views rule id v at (get_or words index 0);
      tells = (refl, found_lawful words views rule at);
    })

    pub may_grow : (region old new : ℕ) → region ≡ old → region + 1 ≡ new → region + 1 < k.sizes.regions → MayExchange grow table seated index old new
    may_grow region old new is_old is_new last = may_exchange grow grow_unique table seated index region belongs there tt old new is_old is_new
        (λ words views rule at found. record {
          after = after_grow v region (get_or words index 0);
          same = record { key = refl; who = refl };
          stepped = (_, refl, λ split. split);
          rule = subst (λ (q : ℕ × ℕ). Rule k (set words q.0 q.1) (set views id (after_grow v region (get_or words index 0)))) (λ c. (sym there c, is_new c))
              (grow_keeps k words views rule id v at region (get_or words index 0) last);
          tells = (refl, found_lawful words views rule at);
        })
        (λ words views rule at found. record {
          after = after_grow v region (get_or words index 0);
          same = record { key = refl; who = refl };
          stepped = (_, refl, λ split. split);
          rule = unchanged_keeps k words views rule id v at _ (get_or words index 0);
          tells = (refl, found_lawful words views rule at);
        })

  -- ---- a cast row

  module _ (region row : ℕ) (lawful : region < k.sizes.regions) (fits : row < 128 * 2 ^ region) where
    abbrev x : CastPlace
    x = record { region = region; row = row }

    small : cast_row region row < cast_rows k.sizes
    small = cast_row-below k.sizes region row lawful fits

    module _ (index : ℕ) (there : index ≡ casts_from k.sizes + 3 * cast_row region row) where
      pub may_load_version : MayLoad load_version table seated index
      may_load_version = may_load load_version version_unique table seated index x belongs there fits refl refl (λ words views rule at. record {
        after = after_version v region row (get_or words index 0);
        same = record { key = refl; who = refl };
        stepped = (_, refl, λ split. split);
        rule = subst (λ (i : ℕ). Rule k words (set views id (after_version v region row (get_or words i 0)))) (sym there) (load_version_keeps k words views rule id v at region row small);
        tells = (refl, subst (λ (i : ℕ). get_or words i 0 ≤ 2 ^ 62) (sym there) (version_small k words views rule id v at region row small));
      })

      pub may_load_version_again : MayLoad load_version_again table seated index
      may_load_version_again = may_load load_version_again again_unique table seated index x belongs there fits refl refl (λ words views rule at.
          let after : View = after_version_again v region row (get_or words index 0) in
          let kept : Rule k words (set views id after) =
          subst (λ (i : ℕ). Rule k words (set views id (after_version_again v region row (get_or words i 0)))) (sym there) (load_version_again_keeps k words views rule id v at region row small) in
          record {
            after = after;
            same = record { key = refl; who = refl };
            stepped = (_, refl, λ split. split);
            rule = kept;
            tells = record { view = refl; agree = casts_agree k words (set views id after) kept id after (there_now views id v after at) };
          })

      -- an exchange from an even version to the next
      claim_won : (words : List ℕ) (views : List View) (rule : Rule k words views) (at : get_elem? views id ≡ some v) → get_or words index 0 ≡ 0
          → Rule k (set words index 1) (set views id (after_claim_cast v region row (get_or words index 0)))
      claim_won words views rule at found =
          subst (λ (i : ℕ). Rule k (set words i 1) (set views id (after_claim_cast v region row (get_or words i 0)))) (sym there)
          (take_won k words views rule id v at region row small 0 _ (omega arith) (omega arith) (ap (λ (i : ℕ). get_or words i 0) (sym there) ∙ found))

      claim_lost : (words : List ℕ) (views : List View) (rule : Rule k words views) (at : get_elem? views id ≡ some v) → get_or words index 0 ≢ 0
          → Rule k words (set views id (after_claim_cast v region row (get_or words index 0)))
      claim_lost words views rule at apart =
          subst (λ (i : ℕ). Rule k words (set views id (after_claim_cast v region row (get_or words i 0)))) (sym there)
          (take_lost k words views rule id v at region row small 0 _ (λ e. apart (ap (λ (i : ℕ). get_or words i 0) there ∙ e)))

      pub may_claim_cast : MayExchange claim_cast table seated index 0 1
      may_claim_cast = may_exchange claim_cast claim_unique table seated index x belongs there fits 0 1 refl refl
          (λ words views rule at found. record {
            after = after_claim_cast v region row (get_or words index 0);
            same = record { key = refl; who = refl };
            stepped = (_, refl, λ split. split);
            rule = claim_won words views rule at found;
            tells = refl;
          })
          (λ words views rule at found. record {
            after = after_claim_cast v region row (get_or words index 0);
            same = record { key = refl; who = refl };
            stepped = (_, refl, λ split. split);
            rule = claim_lost words views rule at found;
            tells = refl;
          })

      pub may_reclaim_cast : (version : ℕ) → version % 2 ≡ 0 → version < 2 ^ 62 → (new : ℕ) → version + 1 ≡ new → MayExchange reclaim_cast table seated index version new
      may_reclaim_cast version even few new is_new = may_exchange reclaim_cast reclaim_unique table seated index (record { at = x; version = version }) belongs there fits version new refl is_new
          (λ words views rule at found. record {
            after = after_reclaim_cast v region row version (get_or words index 0);
            same = record { key = refl; who = refl };
            stepped = (_, refl, λ split. split);
            rule = subst (λ (n : ℕ). Rule k (set words index n) (set views id (after_reclaim_cast v region row version (get_or words index 0)))) is_new (won words views rule at found);
            tells = refl;
          })
          (λ words views rule at found. record {
            after = after_reclaim_cast v region row version (get_or words index 0);
            same = record { key = refl; who = refl };
            stepped = (_, refl, λ split. split);
            rule = lost words views rule at found;
            tells = refl;
          })
        where
          won : (words : List ℕ) (views : List View) (rule : Rule k words views) (at : get_elem? views id ≡ some v) → get_or words index 0 ≡ version
              → Rule k (set words index (version + 1)) (set views id (after_reclaim_cast v region row version (get_or words index 0)))
          won words views rule at found =
              subst (λ (i : ℕ). Rule k (set words i (version + 1)) (set views id (after_reclaim_cast v region row version (get_or words i 0)))) (sym there)
              (take_won k words views rule id v at region row small version _ even few (ap (λ (i : ℕ). get_or words i 0) (sym there) ∙ found))

          lost : (words : List ℕ) (views : List View) (rule : Rule k words views) (at : get_elem? views id ≡ some v) → get_or words index 0 ≢ version
              → Rule k words (set views id (after_reclaim_cast v region row version (get_or words index 0)))
          lost words views rule at apart =
              subst (λ (i : ℕ). Rule k words (set views id (after_reclaim_cast v region row version (get_or words i 0)))) (sym there)
              (take_lost k words views rule id v at region row small version _ (λ e. apart (ap (λ (i : ℕ). get_or words i 0) there ∙ e)))

      -- over a source and a cast word that were stored, and are an evidence
      pub may_publish : (version : ℕ) (w : Written) (h : Handle) (y : CastWord) → write_of (cast_row region row) v.casts.writes ≡ Some w → w.version + 1 ≡ version → w.source ≡ Some h → w.word ≡ Some y
          → HasCastEvidence v h y.target y.yes → MayStore publish table seated index version
      may_publish version w h y mine is_version has_source has_word has = may_store publish publish_unique table seated index (record { at = x; version = version }) belongs there fits version refl refl
          (λ words views rule at. record {
            after = after_publish v region row version;
            same = record { key = refl; who = refl };
            stepped = (_, refl, λ split. split);
            rule = subst (λ (q : ℕ × ℕ). Rule k (set words q.0 q.1) (set views id (after_publish v region row q.1))) (λ c. (sym there c, is_version c))
                (store_version_keeps k words views rule id v at region row small w mine h y has_source has_word has);
            tells = refl;
          })

    module _ (index : ℕ) (there : index ≡ casts_from k.sizes + (3 * cast_row region row + 1)) where
      pub may_load_source : MayLoad load_source table seated index
      may_load_source = may_load load_source source_unique table seated index x belongs there fits refl refl (λ words views rule at.
          let h : Handle = (rule.whole.casts.content (cast_row region row)).source in
          let found : IsHandlePacking h (get_or words index 0) = subst (λ (i : ℕ). IsHandlePacking h (get_or words i 0)) (sym there) (source_packing k words views rule id v at region row small) in
          let after : View = after_source v region row h in
          record {
            after = after;
            same = record { key = refl; who = refl };
            stepped = (_, refl, λ split. split);
            rule = load_source_keeps k words views rule id v at region row small h (source_packing k words views rule id v at region row small);
            tells = record { packs = (h, found); view = λ g packing. ap (after_source v region row) (handle_packing-one_to_one (get_or words index 0) h g found packing) };
          })

      pub may_set_source : (h target : Handle) (given : Bool) (new : ℕ) (w : Written) → write_of (cast_row region row) v.casts.writes ≡ Some w → IsHandlePacking h new → HasCastEvidence v h target given
          → MayStore set_source table seated index new
      may_set_source h target given new w mine packing has = may_store set_source set_source_unique table seated index (record { at = x; source = h }) belongs there (fits, packing.in_range) new (sym packing.packed) refl
          (λ words views rule at. record {
            after = after_set_source v region row h;
            same = record { key = refl; who = refl };
            stepped = (_, refl, λ split. split);
            rule = subst (λ (i : ℕ). Rule k (set words i new) (set views id (after_set_source v region row h))) (sym there)
                (store_source_keeps k words views rule id v at region row small w mine h target given new packing has);
            tells = refl;
          })

    module _ (index : ℕ) (there : index ≡ casts_from k.sizes + (3 * cast_row region row + 2)) where
      pub may_load_cast : MayLoad load_cast table seated index
      may_load_cast = may_load load_cast cast_unique table seated index x belongs there fits refl refl (λ words views rule at.
          let y : CastWord = (rule.whole.casts.content (cast_row region row)).word in
          let found : IsCastPacking y (get_or words index 0) = subst (λ (i : ℕ). IsCastPacking y (get_or words i 0)) (sym there) (word_packing k words views rule id v at region row small) in
          let after : View = after_cast_word v region row y in
          record {
            after = after;
            same = record { key = refl; who = refl };
            stepped = (_, refl, λ split. split);
            rule = load_cast_keeps k words views rule id v at region row small y (word_packing k words views rule id v at region row small);
            tells = record { packs = (y, found); view = λ g packing. ap (after_cast_word v region row) (cast_packing-one_to_one (get_or words index 0) y g found packing) };
          })

      pub may_set_cast : (source : Handle) (y : CastWord) (new : ℕ) (w : Written) → write_of (cast_row region row) v.casts.writes ≡ Some w → IsCastPacking y new → HasCastEvidence v source y.target y.yes
          → MayStore set_cast table seated index new
      may_set_cast source y new w mine packing has = may_store set_cast set_cast_unique table seated index (record { at = x; word = y }) belongs there (fits, packing.in_range) new (sym packing.packed) refl
          (λ words views rule at. record {
            after = after_set_cast v region row y;
            same = record { key = refl; who = refl };
            stepped = (_, refl, λ split. split);
            rule = subst (λ (i : ℕ). Rule k (set words i new) (set views id (after_set_cast v region row y))) (sym there)
                (store_cast_keeps k words views rule id v at region row small w mine source y new packing has);
            tells = refl;
          })
