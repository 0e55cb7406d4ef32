-- The kinds of step on the region and on cast rows.
use Rattle.std.specs.Prelude.{◌≡◌, ℕ, ◌+◌, ◌*◌, ◌<◌, ◌≤◌, ◌^◌}
use Rattle.vsd_words.specs.declared.handle.Handle.{Handle}
use Rattle.vsd_words.specs.declared.cast_word.CastWord.{CastWord}
use Rattle.vsd_words.specs.Handle.{HandleInRange, packed_handle, IsHandlePacking}
use Rattle.vsd_words.specs.CastWord.{CastWordInRange, packed_cast, IsCastPacking}
use Rattle.vsd_rule.specs.declared.view.View.{View}
use Rattle.vsd_rule.specs.Layout.{region_at, casts_from, cast_row}
use Rattle.vsd_rule.specs.CastSteps.{after_region, after_grow, after_version, after_source, after_cast_word, after_version_again, after_claim_cast, after_reclaim_cast, after_set_source, after_set_cast, after_publish}
use Rattle.vsd_rule.specs.Evidence.{CastsAgree}
use Rattle.vsd_table.specs.StepKind.{Kind}

-- ---- the region

abbrev pub load_region : Kind
load_region = record {
  Given = Unit {0};
  word = λ s x. region_at s;
  first = λ x. 0;
  second = λ x. 0;
  Fits = λ v x. Unit {0};
  Tells = λ before x found after. (after ≡ after_region before found) × (found < before.key.sizes.regions);
}

abbrev pub grow : Kind
grow = record {
  Given = ℕ;
  word = λ s region. region_at s;
  first = λ region. region;
  second = λ region. region + 1;
  Fits = λ v region. Unit {0};
  Tells = λ before region found after. (after ≡ after_grow before region found) × (found < before.key.sizes.regions);
}

-- ---- loads of a cast row's words

-- a cast row by its region and its number there
pub record CastPlace : Type 0 where
  pub region : ℕ
  pub row : ℕ

-- the row is one of its region
abbrev pub IsInRegion : CastPlace → Type 0
IsInRegion x = x.row < 128 * 2 ^ x.region

abbrev pub load_version : Kind
load_version = record {
  Given = CastPlace;
  word = λ s x. casts_from s + 3 * cast_row x.region x.row;
  first = λ x. 0;
  second = λ x. 0;
  Fits = λ v x. IsInRegion x;
  Tells = λ before x found after. (after ≡ after_version before x.region x.row found) × (found ≤ 2 ^ 62);
}

pub record LoadedSource (before : View) (x : CastPlace) (found : ℕ) (after : View) : Type 0 where
  pub packs : (h : Handle) × IsHandlePacking h found
  pub view : (h : Handle) → IsHandlePacking h found → after ≡ after_source before x.region x.row h

abbrev pub load_source : Kind
load_source = record {
  Given = CastPlace;
  word = λ s x. casts_from s + (3 * cast_row x.region x.row + 1);
  first = λ x. 0;
  second = λ x. 0;
  Fits = λ v x. IsInRegion x;
  Tells = LoadedSource;
}

pub record LoadedCast (before : View) (x : CastPlace) (found : ℕ) (after : View) : Type 0 where
  pub packs : (w : CastWord) × IsCastPacking w found
  pub view : (w : CastWord) → IsCastPacking w found → after ≡ after_cast_word before x.region x.row w

abbrev pub load_cast : Kind
load_cast = record {
  Given = CastPlace;
  word = λ s x. casts_from s + (3 * cast_row x.region x.row + 2);
  first = λ x. 0;
  second = λ x. 0;
  Fits = λ v x. IsInRegion x;
  Tells = LoadedCast;
}

pub record LoadedAgain (before : View) (x : CastPlace) (found : ℕ) (after : View) : Type 0 where
  pub view : after ≡ after_version_again before x.region x.row found
  pub agree : CastsAgree after

abbrev pub load_version_again : Kind
load_version_again = record {
  Given = CastPlace;
  word = λ s x. casts_from s + 3 * cast_row x.region x.row;
  first = λ x. 0;
  second = λ x. 0;
  Fits = λ v x. IsInRegion x;
  Tells = LoadedAgain;
}

-- ---- writes of a cast row

abbrev pub claim_cast : Kind
claim_cast = record {
  Given = CastPlace;
  word = λ s x. casts_from s + 3 * cast_row x.region x.row;
  first = λ x. 0;
  second = λ x. 1;
  Fits = λ v x. IsInRegion x;
  Tells = λ before x found after. after ≡ after_claim_cast before x.region x.row found;
}

-- a cast row with a version
pub record CastVersion : Type 0 where
  pub at : CastPlace
  pub version : ℕ

abbrev pub reclaim_cast : Kind
reclaim_cast = record {
  Given = CastVersion;
  word = λ s x. casts_from s + 3 * cast_row x.at.region x.at.row;
  first = λ x. x.version;
  second = λ x. x.version + 1;
  Fits = λ v x. IsInRegion x.at;
  Tells = λ before x found after. after ≡ after_reclaim_cast before x.at.region x.at.row x.version found;
}

abbrev pub publish : Kind
publish = record {
  Given = CastVersion;
  word = λ s x. casts_from s + 3 * cast_row x.at.region x.at.row;
  first = λ x. x.version;
  second = λ x. 0;
  Fits = λ v x. IsInRegion x.at;
  Tells = λ before x found after. after ≡ after_publish before x.at.region x.at.row x.version;
}

-- a cast row with a source
pub record CastSource : Type 0 where
  pub at : CastPlace
  pub source : Handle

abbrev pub set_source : Kind
set_source = record {
  Given = CastSource;
  word = λ s x. casts_from s + (3 * cast_row x.at.region x.at.row + 1);
  first = λ x. packed_handle x.source;
  second = λ x. 0;
  Fits = λ v x. IsInRegion x.at × HandleInRange x.source;
  Tells = λ before x found after. after ≡ after_set_source before x.at.region x.at.row x.source;
}

-- a cast row with a target and an answer
pub record CastAnswer : Type 0 where
  pub at : CastPlace
  pub word : CastWord

abbrev pub set_cast : Kind
set_cast = record {
  Given = CastAnswer;
  word = λ s x. casts_from s + (3 * cast_row x.at.region x.at.row + 2);
  first = λ x. packed_cast x.word;
  second = λ x. 0;
  Fits = λ v x. IsInRegion x.at × CastWordInRange x.word;
  Tells = λ before x found after. after ≡ after_set_cast before x.at.region x.at.row x.word;
}
