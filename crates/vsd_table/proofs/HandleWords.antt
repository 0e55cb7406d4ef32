-- Each step on handle words may be made: it keeps the rule, and tells what its kind says.
use Rattle.std.proofs.Common.{◌≡◌, ℕ, ◌+◌, ◌<◌, true, false, get_or, set, ap, sym, refl, subst, arith}
use Rattle.vsd_words.specs.declared.handle_word.HandleWord.{HandleWord}
use Rattle.vsd_words.specs.HandleWord.{HandleWordInRange, packed_handle_word, IsHandleWordPacking}
use Rattle.vsd_words.proofs.Packings.{packed_handle_word-one_to_one, handle_word_packing-one_to_one}
use Rattle.vsd_rule.specs.declared.key.Key.{Key}
use Rattle.vsd_rule.specs.declared.sizes.Sizes.{Sizes}
use Rattle.vsd_rule.specs.declared.view.View.{View}
use Rattle.vsd_rule.specs.Layout.{handles_from, handle_rows}
use Rattle.vsd_rule.specs.Handles.{own_word, owned_word}
use Rattle.vsd_rule.specs.Rule.{Rule}
use Rattle.vsd_rule.specs.Moves.{own_index, after_load_handle, after_bind, after_unbind}
use Rattle.vsd_rule.specs.Facts.{IsOwn, FindsHandle}
use Rattle.vsd_rule.proofs.Steps.{load_keeps, load_tells, loaded_packing, tells_one_binding, bind_keeps, bind_tells_new, unbind_keeps}
use Rattle.vsd_table.specs.HandleKinds.{load_handle, bind, unbind, OwnWord}
use Rattle.vsd_table.specs.Seating.{key_of, view_of, Belongs}
use Rattle.vsd_table.specs.Stepping.{MayLoad, MayStore}
use Rattle.vsd_table.specs.declared.shared.Shared.{Shared}
use Rattle.vsd_table.specs.declared.seated.Seated.{Seated}
use Rattle.vsd_table.proofs.Kept.{Unique, may_load, may_store}
use Rattle.vsd_table.proofs.Seats.{there_now}

load_unique : Unique load_handle
load_unique s v x y word a b fits fits' = omega arith

-- words of two rows at two generations differ
own_unique : (live : _) (s : Sizes) (x y : OwnWord) → handles_from s + x.row ≡ handles_from s + y.row
    → packed_handle_word (own_word x.generation x.number live) ≡ packed_handle_word (own_word y.generation y.number live)
    → HandleWordInRange (own_word x.generation x.number live) → HandleWordInRange (own_word y.generation y.number live) → x ≡ y
own_unique live s x y word packed fits fits' =
    let row : x.row ≡ y.row = omega arith in
    let same : own_word x.generation x.number live ≡ own_word y.generation y.number live = packed_handle_word-one_to_one (own_word x.generation x.number live) (own_word y.generation y.number live) fits fits' packed in
    λ c. record { row = row c; generation = (same c).generation; number = (same c).number }

bind_unique : Unique bind
bind_unique s v x y word a b fits fits' = own_unique true s x y word a fits fits'

unbind_unique : Unique unbind
unbind_unique s v x y word a b fits fits' = own_unique false s x y word a fits fits'

module _ (table : Shared) (seated : Seated) (belongs : Belongs table seated) (row index : ℕ) (there : index ≡ handles_from (key_of table).sizes + row) where
  abbrev k : Key
  k = key_of table

  abbrev v : View
  v = view_of seated

  pub may_load_handle : row < handle_rows k.sizes → MayLoad load_handle table seated index
  may_load_handle small = may_load load_handle load_unique table seated index row belongs there tt refl refl (λ words views rule at.
      let id : ℕ = seated.seat.id in
      let w : HandleWord = rule.whole.handles.handle_word_of row in
      let after : View = after_load_handle v row w in
      let found : IsHandleWordPacking w (get_or words index 0) = subst (λ (i : ℕ). IsHandleWordPacking w (get_or words i 0)) (sym there) (loaded_packing k words views rule id v at row small) in
      let kept : Rule k words (set views id after) = load_keeps k words views rule id v at row small in
      record {
        after = after;
        same = record { key = refl; who = refl };
        stepped = (_, refl, λ split. split);
        rule = kept;
        tells = record {
          packs = (w, found);
          view = λ u packing. ap (after_load_handle v row) (handle_word_packing-one_to_one (get_or words index 0) w u found packing);
          finds = λ u packing. subst (FindsHandle v row) (handle_word_packing-one_to_one (get_or words index 0) w u found packing) (load_tells k words views rule id v at row small);
          one_binding = tells_one_binding k words (set views id after) kept id after (there_now views id v after at);
        };
      })

  module _ (generation number new : ℕ) (own : IsOwn v row) where
    abbrev x : OwnWord
    x = record { row = row; generation = generation; number = number }

    pub may_bind : (owned_word v.handles (own_index v row)).generation + 1 ≡ generation → number < k.world.types → IsHandleWordPacking (own_word generation number true) new → MayStore bind table seated index new
    may_bind next typed packing = may_store bind bind_unique table seated index x belongs there packing.in_range new (sym packing.packed) refl (λ words views rule at.
        let id : ℕ = seated.seat.id in
        let after : View = after_bind v row generation number in
        let kept : Rule k (set words index new) (set views id after) =
        subst (λ (i : ℕ). Rule k (set words i new) (set views id after)) (sym there) (bind_keeps k words views rule id v at row own generation number new next typed packing) in
        record {
          after = after;
          same = record { key = refl; who = refl };
          stepped = (_, refl, λ split. split);
          rule = kept;
          tells = record {
            view = refl;
            fresh = λ any. bind_tells_new k words views rule id v at row own generation any next;
            one_binding = tells_one_binding k (set words index new) (set views id after) kept id after (there_now views id v after at);
          };
        })

    pub may_unbind : (owned_word v.handles (own_index v row)).generation ≡ generation → (owned_word v.handles (own_index v row)).number ≡ number → IsHandleWordPacking (own_word generation number false) new
        → MayStore unbind table seated index new
    may_unbind same_generation same_number packing = may_store unbind unbind_unique table seated index x belongs there packing.in_range new (sym packing.packed) refl (λ words views rule at.
        let id : ℕ = seated.seat.id in
        let after : View = after_unbind v row generation number in
        let kept : Rule k (set words index new) (set views id after) =
        subst (λ (i : ℕ). Rule k (set words i new) (set views id after)) (sym there) (unbind_keeps k words views rule id v at row own generation number new same_generation same_number packing) in
        record {
          after = after;
          same = record { key = refl; who = refl };
          stepped = (_, refl, λ split. split);
          rule = kept;
          tells = record { view = refl; one_binding = tells_one_binding k (set words index new) (set views id after) kept id after (there_now views id v after at) };
        })
