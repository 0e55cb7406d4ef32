-- What the answer of a cast tells of its trail: a probe that hit, or that none did.
use Rattle.std.specs.Prelude.{◌≡◌, ◌≢◌, ◌⊎◌, ℕ, ◌<◌, ◌%◌, Bool, true, false, List, [], ◌∷◌, Result, Ok, Err}
use Rattle.vsd_words.specs.declared.handle.Handle.{Handle}
use Rattle.vsd_words.specs.declared.cast_word.CastWord.{CastWord}
use Rattle.vsd_words.specs.Hash.{home_of}
use Rattle.vsd_rule.specs.declared.step.Act.{Act}
use Rattle.vsd_rule.specs.declared.step.Act.TheVariants.{LoadVersion, LoadSource, LoadCast, LoadVersionAgain, LoadRegion}
use Rattle.vsd_rule.specs.RowSteps.{unpacked_handle}
use Rattle.vsd_trails.specs.declared.answers.CastAnswer.{CastAnswer}
use Rattle.vsd_trails.specs.declared.answers.Unloaded.{Unloaded}
use Rattle.vsd_trails.specs.Programs.{TrailStep}
use Rattle.vsd_trails.specs.Words.{unpacked_cast}
use Rattle.vsd_trails.specs.CastTrails.{region_size, probe_row, is_hit}
use Rattle.vsd_trails.specs.CallPaths.{InTurn, ShowsUnloaded}

-- the four loads of a probe: version, source, cast word, and version again
abbrev pub probe_loads : ℕ → ℕ → ℕ → ℕ → ℕ → ℕ → List (Act × ℕ)
probe_loads region row version packed word again = (LoadVersion region row, version) ∷ (LoadSource region row, packed) ∷ (LoadCast region row, word) ∷ (LoadVersionAgain region row, again) ∷ []

-- both versions are the same, even and not 0, and the source and the target are the pair's
pub record HoldsCast (source target : Handle) (version : ℕ) (s : Handle) (w : CastWord) (again : ℕ) : Type 0 where
  pub same : version ≡ again
  pub even : version % 2 ≡ 0
  pub written : version ≢ 0
  pub source_is : s ≡ source
  pub target_is : w.target ≡ target

-- a probe of the region that was loaded is a hit, and its cast word has the answer
pub record ShowsHit (source target : Handle) (trail : List TrailStep) (answer : Bool) : Type 0 where
  pub region : ℕ
  pub i : ℕ
  pub version : ℕ
  pub packed : ℕ
  pub word : ℕ
  pub again : ℕ
  pub region_loaded : InTurn trail ((LoadRegion, region) ∷ [])
  pub probe : i < 8
  pub loads : InTurn trail (probe_loads region (probe_row region (home_of source target (region_size region)) i) version packed word again)
  pub hit : is_hit source target version (unpacked_handle packed) (unpacked_cast word) again ≡ true
  pub is : (unpacked_cast word).yes ≡ answer

-- no probe is a hit
abbrev pub HasNoHit : Handle → Handle → List TrailStep → Type 0
HasNoHit source target trail = (region row version packed word again : ℕ) → InTurn trail (probe_loads region row version packed word again)
    → is_hit source target version (unpacked_handle packed) (unpacked_cast word) again ≡ false

-- By a hit: the probe. By a walk, and where a handle is unloaded: no probe was a hit.
abbrev pub CastAnswerTells : Handle → Handle → List TrailStep → Bool → Bool → Type 0
CastAnswerTells source target trail answer false = ShowsHit source target trail answer
CastAnswerTells source target trail answer true = HasNoHit source target trail

abbrev pub CastTells : Handle → Handle → List TrailStep → Result CastAnswer Unloaded → Type 0
CastTells source target trail (Ok a) = CastAnswerTells source target trail a.yes a.walked
CastTells source target trail (Err u) = HasNoHit source target trail × (ShowsUnloaded source trail u ⊎ ShowsUnloaded target trail u)
