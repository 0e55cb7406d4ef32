-- The kinds of step on the epoch and on the own epoch word.
use Rattle.std.specs.Prelude.{◌≡◌, ℕ, ◌+◌, ◌≤◌, ◌^◌}
use Rattle.vsd_rule.specs.declared.view.View.{View}
use Rattle.vsd_rule.specs.Layout.{pin_at}
use Rattle.vsd_rule.specs.Evidence.{CallsAgree}
use Rattle.vsd_rule.specs.RowSteps.{after_epoch, after_pin, after_unpin}
use Rattle.vsd_table.specs.StepKind.{Kind}

pub record LoadedEpoch (before : View) (found : ℕ) (after : View) : Type 0 where
  pub view : after ≡ after_epoch before found
  pub small : found ≤ 2 ^ 62

abbrev pub load_epoch : Kind
load_epoch = record {
  Given = Unit {0};
  word = λ s x. 0;
  first = λ x. 0;
  second = λ x. 0;
  Fits = λ v x. Unit {0};
  Tells = λ before x found after. LoadedEpoch before found after;
}

-- the caller and the epoch at which it is pinned
pub record PinnedAt : Type 0 where
  pub caller : ℕ
  pub epoch : ℕ

abbrev pub pin : Kind
pin = record {
  Given = PinnedAt;
  word = λ s x. pin_at x.caller;
  first = λ x. x.epoch + 1;
  second = λ x. 0;
  Fits = λ v x. Unit {0};
  Tells = λ before x found after. after ≡ after_pin before x.epoch;
}

pub record Unpinned (before after : View) : Type 0 where
  pub view : after ≡ after_unpin before
  pub agree : CallsAgree after

abbrev pub unpin : Kind
unpin = record {
  Given = ℕ;
  word = λ s caller. pin_at caller;
  first = λ caller. 0;
  second = λ caller. 0;
  Fits = λ v caller. Unit {0};
  Tells = λ before caller found after. Unpinned before after;
}
