-- Each step on buckets may be made.
use Rattle.std.proofs.Common.{◌≡◌, ℕ, zero, suc, ◌+◌, ◌<◌, ◌≤◌, Option, Some, None, List, get_or, set, ap, sym, refl, ◌∙◌, subst, arith}
use mathlib.Core.Option.{some}
use lib.ListN.{get_elem?}
use Rattle.vsd_rule.specs.declared.key.Key.{Key}
use Rattle.vsd_rule.specs.declared.view.View.{View}
use Rattle.vsd_rule.specs.Layout.{buckets_from}
use Rattle.vsd_rule.specs.Rule.{Rule}
use Rattle.vsd_rule.specs.RowSteps.{packed_bucket, after_bucket, after_put_bucket, after_empty_bucket}
use Rattle.vsd_rule.specs.RowFacts.{IsFilledRow}
use Rattle.vsd_rule.proofs.RuleByCells.{bucket_small, load_bucket_keeps, put_bucket_keeps, empty_bucket_keeps}
use Rattle.vsd_table.specs.BucketKinds.{load_bucket, put_bucket, empty_bucket, FoundInBucket}
use Rattle.vsd_table.specs.Seating.{key_of, view_of, Belongs}
use Rattle.vsd_table.specs.Stepping.{MayLoad, MaySwap}
use Rattle.vsd_table.specs.declared.shared.Shared.{Shared}
use Rattle.vsd_table.specs.declared.seated.Seated.{Seated}
use Rattle.vsd_table.proofs.Kept.{Unique, may_load, may_swap}

load_unique : Unique load_bucket
load_unique s v x y word a b fits fits' = omega arith

put_unique : Unique put_bucket
put_unique s v x y word a b fits fits' = let bucket : x.bucket ≡ y.bucket = omega arith in let row : x.row ≡ y.row = omega arith in λ c. record { bucket = bucket c; row = row c }

empty_unique : Unique empty_bucket
empty_unique s v x y word a b fits fits' = omega arith

-- what a bucket's word names
named_by : ℕ → Option ℕ
named_by zero = None
named_by (suc row) = Some row

named_again : (n : ℕ) → n ≡ packed_bucket (named_by n)
unfolding named_by
named_again zero = refl
named_again (suc row) = omega arith

bucket_one_to_one : (a b : Option ℕ) → packed_bucket a ≡ packed_bucket b → a ≡ b
bucket_one_to_one None None e = refl
bucket_one_to_one None (Some b) e = absurd (omega arith)
bucket_one_to_one (Some a) None e = absurd (omega arith)
bucket_one_to_one (Some a) (Some b) e = let same : a ≡ b = omega arith in ap Some same

found_by : (makes : Option ℕ → View) (v : View) (n : ℕ) → n ≤ v.key.sizes.rows → FoundInBucket makes v n (makes (named_by n))
found_by makes v n small = record { in_table = small; view = λ o is. ap makes (bucket_one_to_one (named_by n) o (sym (named_again n) ∙ is)) }

module _ (table : Shared) (seated : Seated) (belongs : Belongs table seated) (bucket index : ℕ) (small : bucket < (key_of table).sizes.buckets) (there : index ≡ buckets_from (key_of table).sizes + bucket) where
  abbrev k : Key
  k = key_of table

  abbrev v : View
  v = view_of seated

  abbrev id : ℕ
  id = seated.seat.id

  module _ (words : List ℕ) (views : List View) (rule : Rule k words views) (at : get_elem? views id ≡ some v) where
    in_table : get_or words index 0 ≤ v.key.sizes.rows
    in_table = subst (λ (q : ℕ × Key). get_or words q.0 0 ≤ q.1.sizes.rows) (λ c. (sym there c, sym belongs.key c)) (bucket_small k words views rule id v at bucket small)

    named : get_or words (buckets_from k.sizes + bucket) 0 ≡ packed_bucket (named_by (get_or words index 0))
    named = ap (λ (i : ℕ). get_or words i 0) (sym there) ∙ named_again (get_or words index 0)

  pub may_load_bucket : MayLoad load_bucket table seated index
  may_load_bucket = may_load load_bucket load_unique table seated index bucket belongs there tt refl refl (λ words views rule at.
      let n : ℕ = get_or words index 0 in
      record {
        after = after_bucket v bucket (named_by n);
        same = record { key = refl; who = refl };
        stepped = (_, refl, λ split. split);
        rule = load_bucket_keeps k words views rule id v at bucket small (named_by n) (named words views rule at);
        tells = found_by (after_bucket v bucket) v n (in_table words views rule at);
      })

  pub may_put_bucket : (row x : ℕ) → x ≡ row + 1 → row < k.sizes.rows → IsFilledRow v row → MaySwap put_bucket table seated index x
  may_put_bucket row x is inside filled = may_swap put_bucket put_unique table seated index (record { bucket = bucket; row = row }) belongs there tt x (sym is) refl (λ words views rule at.
      let n : ℕ = get_or words index 0 in
      record {
        after = after_put_bucket v bucket row (named_by n);
        same = record { key = refl; who = refl };
        stepped = (_, refl, λ split. split);
        rule = subst (λ (q : ℕ × ℕ). Rule k (set words q.0 q.1) (set views id (after_put_bucket v bucket row (named_by n)))) (λ c. (sym there c, sym is c))
            (put_bucket_keeps k words views rule id v at bucket small row inside filled.handle filled.token filled.target filled.filled.stored filled.filled.evidence (named_by n) (named words views rule at));
        tells = found_by (after_put_bucket v bucket row) v n (in_table words views rule at);
      })

  pub may_empty_bucket : MaySwap empty_bucket table seated index 0
  may_empty_bucket = may_swap empty_bucket empty_unique table seated index bucket belongs there tt 0 refl refl (λ words views rule at.
      let n : ℕ = get_or words index 0 in
      record {
        after = after_empty_bucket v bucket (named_by n);
        same = record { key = refl; who = refl };
        stepped = (_, refl, λ split. split);
        rule = subst (λ (i : ℕ). Rule k (set words i 0) (set views id (after_empty_bucket v bucket (named_by n)))) (sym there)
            (empty_bucket_keeps k words views rule id v at bucket small (named_by n) (named words views rule at));
        tells = found_by (after_empty_bucket v bucket) v n (in_table words views rule at);
      })
