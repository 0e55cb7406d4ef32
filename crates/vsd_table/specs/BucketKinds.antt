-- The kinds of step on buckets.
use Rattle.std.specs.Prelude.{◌≡◌, ℕ, ◌+◌, ◌≤◌, Option}
use Rattle.vsd_rule.specs.declared.view.View.{View}
use Rattle.vsd_rule.specs.Layout.{buckets_from}
use Rattle.vsd_rule.specs.RowSteps.{packed_bucket, after_bucket, after_put_bucket, after_empty_bucket}
use Rattle.vsd_table.specs.StepKind.{Kind}

-- what a step on a bucket makes of its seat's view, by what stood in it
pub record FoundInBucket (makes : Option ℕ → View) (before : View) (found : ℕ) (after : View) : Type 0 where
  pub in_table : found ≤ before.key.sizes.rows
  pub view : (o : Option ℕ) → found ≡ packed_bucket o → after ≡ makes o

abbrev pub load_bucket : Kind
load_bucket = record {
  Given = ℕ;
  word = λ s bucket. buckets_from s + bucket;
  first = λ bucket. 0;
  second = λ bucket. 0;
  Fits = λ v bucket. Unit {0};
  Tells = λ before bucket. FoundInBucket (after_bucket before bucket) before;
}

pub record BucketAndRow : Type 0 where
  pub bucket : ℕ
  pub row : ℕ

abbrev pub put_bucket : Kind
put_bucket = record {
  Given = BucketAndRow;
  word = λ s x. buckets_from s + x.bucket;
  first = λ x. x.row + 1;
  second = λ x. 0;
  Fits = λ v x. Unit {0};
  Tells = λ before x. FoundInBucket (after_put_bucket before x.bucket x.row) before;
}

abbrev pub empty_bucket : Kind
empty_bucket = record {
  Given = ℕ;
  word = λ s bucket. buckets_from s + bucket;
  first = λ bucket. 0;
  second = λ bucket. 0;
  Fits = λ v bucket. Unit {0};
  Tells = λ before bucket. FoundInBucket (after_empty_bucket before bucket) before;
}
