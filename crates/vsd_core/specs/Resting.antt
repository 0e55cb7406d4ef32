-- What a caller keeps between two operations: a log of what it did, with a reason for each answer in it.
use Rattle.std.specs.Prelude.{ℕ, List, [], ◌∷◌, Result, Ok, Err}
use Rattle.vsd_words.specs.declared.handle.Handle.{Handle}
use Rattle.vsd_rule.specs.declared.view.View.{View}
use Rattle.vsd_rule.specs.Lists.{site_token}
use Rattle.vsd_rule.specs.Facts.{Knows}
use Rattle.vsd_rule.specs.Evidence.{HasEvidence, HasCastEvidence}
use Rattle.vsd_table.specs.declared.seated.Seated.{Seated}
use Rattle.vsd_table.specs.Seating.{view_of}
use Rattle.vsd_trails.specs.declared.answers.Answer.{Answer}
use Rattle.vsd_trails.specs.declared.answers.CastAnswer.{CastAnswer}
use Rattle.vsd_trails.specs.declared.answers.Unloaded.{Unloaded}
use Rattle.vsd_trails.specs.Logs.{Entry}
use Rattle.vsd_trails.specs.Operations.{Event, called, cast_to, loaded, unloaded}
use Rattle.vsd_trails.specs.Laws.{HasLog}
use Rattle.vsd_rows.specs.Makes.{steps_of}

-- the seat has the evidence for the target
abbrev pub IsCallShown : View → ℕ → Handle → Result Answer Unloaded → Type 0
IsCallShown v site h (Ok a) = HasEvidence v h (site_token v.key site) a.target
IsCallShown v site h (Err u) = Unit {0}

abbrev pub IsCastShown : View → Handle → Handle → Result CastAnswer Unloaded → Type 0
IsCastShown v source target (Ok a) = HasCastEvidence v source target a.yes
IsCastShown v source target (Err u) = Unit {0}

-- the seat has the evidence for the answer; of a load it knows the type
abbrev pub IsShown : View → Event → Type 0
IsShown v (called site h answer) = IsCallShown v site h answer
IsShown v (cast_to source target answer) = IsCastShown v source target answer
IsShown v (loaded number h) = Knows v.handles h number
IsShown v (unloaded h) = Unit {0}

abbrev pub AreShown : View → List (Entry Event) → Type 0
AreShown v [] = Unit {0}
AreShown v (x ∷ xs) = IsShown v x.event × AreShown v xs

-- The steps come to whole operations, none of which is unfinished, and each answer is shown.
pub record Rests (s : Seated) : Type 0 where
  pub entries : List (Entry Event)
  pub log : HasLog (view_of s).key (steps_of s) entries
  pub shown : AreShown (view_of s) entries
