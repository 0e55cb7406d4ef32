-- What the answer of a cast tells of the steps that the caller made.
use Rattle.std.specs.Prelude.{◌≡◌, ◌⊎◌, true, false, List, [], ◌∷◌, ◌++◌, Result, Ok, Err}
use Rattle.vsd_words.specs.declared.handle.Handle.{Handle}
use Rattle.vsd_rule.specs.declared.step.Act.TheVariants.{LoadHandle}
use Rattle.vsd_trails.specs.declared.answers.CastAnswer.{CastAnswer}
use Rattle.vsd_trails.specs.declared.answers.Unloaded.{Unloaded}
use Rattle.vsd_trails.specs.Programs.{TrailStep}
use Rattle.vsd_trails.specs.Words.{unpacked_handle_word, is_live_at}
use Rattle.vsd_trails.specs.CastPaths.{HasNoHit, CastAnswerTells}

-- the step loaded the handle's word, which is the one that is carried, and the handle's type is unloaded
pub record ShowsGone (h : Handle) (load : TrailStep) (u : Unloaded) : Type 0 where
  pub act : load.step.act ≡ LoadHandle h.row
  pub word : unpacked_handle_word load.step.found ≡ u.found
  pub handle : u.handle ≡ h
  pub gone : is_live_at h.generation u.found ≡ false

-- the last step shows that the source is unloaded, so the target's word was not loaded
pub record EndsBySource (source : Handle) (trail : List TrailStep) (u : Unloaded) : Type 0 where
  pub prefix : List TrailStep
  pub last : TrailStep
  pub whole : trail ≡ prefix ++ last ∷ []
  pub shows : ShowsGone source last u

-- the step before the last shows that the source is loaded, and the last one that the target isn't
pub record EndsByTarget (source target : Handle) (trail : List TrailStep) (u : Unloaded) : Type 0 where
  pub prefix : List TrailStep
  pub first : TrailStep
  pub last : TrailStep
  pub whole : trail ≡ prefix ++ first ∷ last ∷ []
  pub act : first.step.act ≡ LoadHandle source.row
  pub live : is_live_at source.generation (unpacked_handle_word first.step.found) ≡ true
  pub shows : ShowsGone target last u

-- By a hit: a probe was one, and its cast word has the answer. By a walk: no probe was a hit. Unloaded: none was, and one of the two is.
abbrev pub AnswerTells : Handle → Handle → List TrailStep → Result CastAnswer Unloaded → Type 0
AnswerTells source target trail (Ok a) = CastAnswerTells source target trail a.yes a.walked
AnswerTells source target trail (Err u) = HasNoHit source target trail × (EndsBySource source trail u ⊎ EndsByTarget source target trail u)
