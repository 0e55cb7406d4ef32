-- Each step on a row's words may be made.
use Rattle.std.proofs.Common.{◌≡◌, ℕ, ◌<◌, ◌^◌, get_or, set, ap, sym, refl, ◌∙◌, subst, arith}
use Rattle.std.specs.Prelude.{nat_eq, cond}
use Rattle.vsd_words.specs.declared.handle.Handle.{Handle}
use Rattle.vsd_words.specs.Handle.{IsHandlePacking}
use Rattle.vsd_words.proofs.Packings.{packed_handle-one_to_one}
use Rattle.vsd_rule.specs.declared.key.Key.{Key}
use Rattle.vsd_rule.specs.declared.step.RowWord.{RowWord}
use Rattle.vsd_rule.specs.declared.step.RowWord.TheVariants.{Claim, Token, Target}
use Rattle.vsd_rule.specs.declared.step.RowWord.TheVariants as word
use Rattle.vsd_rule.specs.declared.view.View.{View}
use Rattle.vsd_rule.specs.Layout.{row_word_at}
use Rattle.vsd_rule.specs.Rule.{Rule}
use Rattle.vsd_rule.specs.RowSteps.{offset_of, after_claim, after_set_handle, after_set_token, after_set_target, after_free, after_row_word}
use Rattle.vsd_rule.specs.RowFacts.{IsPrivate, HasSomeEvidence, RowWordInRange, FindsAgain}
use Rattle.vsd_rule.proofs.RuleByClaims.{claim_won, claim_lost, set_handle_keeps, set_token_keeps, set_target_keeps, free_row_keeps, row_word_keeps, found_in_range, found_again}
use Rattle.vsd_table.specs.RowKinds.{claim, load_row_word, set_handle, set_token, set_target, free}
use Rattle.vsd_table.specs.Seating.{key_of, view_of, Belongs}
use Rattle.vsd_table.specs.Stepping.{MayLoad, MayStore, MayExchange}
use Rattle.vsd_table.specs.declared.shared.Shared.{Shared}
use Rattle.vsd_table.specs.declared.seated.Seated.{Seated}
use Rattle.vsd_table.proofs.Kept.{Unique, may_load, may_store, may_exchange}

claim_unique : Unique claim
claim_unique s v x y word a b fits fits' = omega arith

-- which word has the offset
which_at : ℕ → RowWord
which_at n = cond (nat_eq n 0) Claim (cond (nat_eq n 1) word.Handle (cond (nat_eq n 2) Token Target))

which_again : (which : RowWord) → which_at (offset_of which) ≡ which
unfolding which_at
which_again Claim = refl
which_again word.Handle = refl
which_again Token = refl
which_again Target = refl

offset_small : (which : RowWord) → offset_of which < 4
offset_small Claim = omega arith
offset_small word.Handle = omega arith
offset_small Token = omega arith
offset_small Target = omega arith

load_unique : Unique load_row_word
load_unique s v x y same a b fits fits' =
    let row : x.row ≡ y.row = omega (arith, offset_small x.which, offset_small y.which) in
    let offset : offset_of x.which ≡ offset_of y.which = omega (arith, offset_small x.which, offset_small y.which) in
    let which : x.which ≡ y.which = sym (which_again x.which) ∙ (ap which_at offset ∙ which_again y.which) in
    λ c. record { row = row c; which = which c }

set_handle_unique : Unique set_handle
set_handle_unique s v x y word a b fits fits' =
    let row : x.row ≡ y.row = omega arith in
    let handle : x.handle ≡ y.handle = packed_handle-one_to_one x.handle y.handle fits fits' a in
    λ c. record { row = row c; handle = handle c }

set_token_unique : Unique set_token
set_token_unique s v x y word a b fits fits' = let row : x.row ≡ y.row = omega arith in λ c. record { row = row c; number = a c }

set_target_unique : Unique set_target
set_target_unique s v x y word a b fits fits' = let row : x.row ≡ y.row = omega arith in λ c. record { row = row c; number = a c }

free_unique : Unique free
free_unique s v x y word a b fits fits' = omega arith

module _ (table : Shared) (seated : Seated) (belongs : Belongs table seated) (row index : ℕ) (small : row < (key_of table).sizes.rows) where
  abbrev k : Key
  k = key_of table

  abbrev v : View
  v = view_of seated

  abbrev id : ℕ
  id = seated.seat.id

  module _ (which : RowWord) (there : index ≡ row_word_at k.sizes row (offset_of which)) where
    pub may_load_row_word : MayLoad load_row_word table seated index
    may_load_row_word = may_load load_row_word load_unique table seated index (record { row = row; which = which }) belongs there tt refl refl (λ words views rule at. record {
      after = after_row_word v row which (get_or words index 0);
      same = record { key = refl; who = refl };
      stepped = (_, refl, λ split. split);
      rule = subst (λ (i : ℕ). Rule k words (set views id (after_row_word v row which (get_or words i 0)))) (sym there) (row_word_keeps k words views rule id v at row small which);
      tells = record {
        view = refl;
        in_range = subst (λ (i : ℕ). RowWordInRange which (get_or words i 0)) (sym there) (found_in_range k words views rule id v at row small which);
        again = subst (λ (i : ℕ). FindsAgain v row which (get_or words i 0)) (sym there) (found_again k words views rule id v at row small which);
      };
    })

  module _ (there : index ≡ row_word_at k.sizes row 0) where
    pub may_claim : MayExchange claim table seated index 0 1
    may_claim = may_exchange claim claim_unique table seated index row belongs there tt 0 1 refl refl
        (λ words views rule at found. record {
          after = after_claim v row 0;
          same = record { key = refl; who = refl };
          stepped = (_, refl, λ split. split);
          rule = subst (λ (i : ℕ). Rule k (set words i 1) (set views id (after_claim v row 0))) (sym there)
              (claim_won k words views rule id v at row small (ap (λ (i : ℕ). get_or words i 0) (sym there) ∙ found));
          tells = record { view = ap (after_claim v row) (sym found); in_range = omega arith };
        })
        (λ words views rule at other. record {
          after = after_claim v row (get_or words index 0);
          same = record { key = refl; who = refl };
          stepped = (_, refl, λ split. split);
          rule = claim_lost k words views rule id v at row small (get_or words index 0) other;
          tells = record { view = refl; in_range = subst (λ (i : ℕ). get_or words i 0 < 2) (sym there) (found_in_range k words views rule id v at row small Claim) };
        })

    pub may_free : IsPrivate v row → MayStore free table seated index 0
    may_free private = may_store free free_unique table seated index row belongs there tt 0 refl refl (λ words views rule at. record {
      after = after_free v row;
      same = record { key = refl; who = refl };
      stepped = (_, refl, λ split. split);
      rule = subst (λ (i : ℕ). Rule k (set words i 0) (set views id (after_free v row))) (sym there) (free_row_keeps k words views rule id v at row small private.0 private.1);
      tells = refl;
    })

  pub may_set_handle : (h : Handle) (x : ℕ) → index ≡ row_word_at k.sizes row 1 → IsHandlePacking h x → IsPrivate v row → HasSomeEvidence v h → MayStore set_handle table seated index x
  may_set_handle h x there packing private evidence =
      may_store set_handle set_handle_unique table seated index (record { row = row; handle = h }) belongs there packing.in_range x (sym packing.packed) refl (λ words views rule at. record {
        after = after_set_handle v row h;
        same = record { key = refl; who = refl };
        stepped = (_, refl, λ split. split);
        rule = subst (λ (i : ℕ). Rule k (set words i x) (set views id (after_set_handle v row h))) (sym there)
            (set_handle_keeps k words views rule id v at row small private.0 private.1 h x evidence.0 evidence.1 packing evidence.2);
        tells = refl;
      })

  pub may_set_token : (token x : ℕ) → x ≡ token → index ≡ row_word_at k.sizes row 2 → token < 2 ^ 16 → IsPrivate v row → MayStore set_token table seated index x
  may_set_token token x is there fits private = may_store set_token set_token_unique table seated index (record { row = row; number = token }) belongs there tt x (sym is) refl (λ words views rule at. record {
    after = after_set_token v row token;
    same = record { key = refl; who = refl };
    stepped = (_, refl, λ split. split);
    rule = subst (λ (q : ℕ × ℕ). Rule k (set words q.0 q.1) (set views id (after_set_token v row token))) (λ c. (sym there c, sym is c)) (set_token_keeps k words views rule id v at row small private.0 private.1 token fits);
    tells = refl;
  })

  pub may_set_target : (target x : ℕ) → x ≡ target → index ≡ row_word_at k.sizes row 3 → target < 2 ^ 32 → IsPrivate v row → MayStore set_target table seated index x
  may_set_target target x is there fits private = may_store set_target set_target_unique table seated index (record { row = row; number = target }) belongs there tt x (sym is) refl (λ words views rule at. record {
    after = after_set_target v row target;
    same = record { key = refl; who = refl };
    stepped = (_, refl, λ split. split);
    rule = subst (λ (q : ℕ × ℕ). Rule k (set words q.0 q.1) (set views id (after_set_target v row target))) (λ c. (sym there c, sym is c)) (set_target_keeps k words views rule id v at row small private.0 private.1 target fits);
    tells = refl;
  })
