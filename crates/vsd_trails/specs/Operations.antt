-- The operations, each with the step that begins it and with its program.
use Rattle.std.specs.Prelude.{ℕ, cond, Bool, true, false, List, [], ◌∷◌, drop, Option, Some, None, Result}
use Rattle.vsd_words.specs.declared.handle.Handle.{Handle}
use Rattle.vsd_rule.specs.declared.key.Key.{Key}
use Rattle.vsd_rule.specs.declared.step.Act.{Act}
use Rattle.vsd_rule.specs.declared.step.Act.TheVariants.{Epoch, LoadRegion, Bind}
use Rattle.vsd_rule.specs.declared.step.Begins.{Begins}
use Rattle.vsd_rule.specs.declared.step.Begins.TheVariants.{Operation, Cast}
use Rattle.vsd_rule.specs.declared.step.Doing.TheVariants.{Nothing, Call, Unload}
use Rattle.vsd_rule.specs.declared.step.Step.{Step}
use Rattle.vsd_trails.specs.declared.answers.Answer.{Answer}
use Rattle.vsd_trails.specs.declared.answers.CastAnswer.{CastAnswer}
use Rattle.vsd_trails.specs.declared.answers.Unloaded.{Unloaded}
use Rattle.vsd_trails.specs.Programs.{TrailStep, Asked, Program, done, ◌>>=◌, ◌>>◌}
use Rattle.vsd_trails.specs.CallTrails.{calling}
use Rattle.vsd_trails.specs.CastTrails.{casting}
use Rattle.vsd_trails.specs.UnloadTrails.{binding, unloading}

-- an operation with its arguments and its answer
pub data Event : Type 0 where
  called : ℕ → Handle → Result Answer Unloaded → Event
  cast_to : Handle → Handle → Result CastAnswer Unloaded → Event
  loaded : ℕ → Handle → Event
  unloaded : Handle → Event

module _ (k : Key) where
  unfoldable pub call_event : ℕ → Handle → Program Event
  call_event site h = calling k site h >>= λ answer. done (called site h answer)

  unfoldable pub cast_event : Handle → Handle → Program Event
  cast_event source target = casting k source target >>= λ answer. done (cast_to source target answer)

  unfoldable pub load_event : ℕ → ℕ → ℕ → Program Event
  load_event row generation number = binding (record { row = row; generation = generation }) number >>= λ h. done (loaded number h)

  unfoldable pub unload_event : Handle → Program Event
  unload_event h = unloading k h >> done (unloaded h)

  -- ---- what a step begins

  -- by the operation that a pin was given
  abbrev pub begun_by_pin : Option Begins → Option (Program Event)
  begun_by_pin (Some (Operation (Call site h))) = Some (call_event site h)
  begun_by_pin (Some (Operation (Unload h))) = Some (unload_event h)
  begun_by_pin (Some (Operation Nothing)) = None
  begun_by_pin (Some (Cast source target)) = None
  begun_by_pin None = None

  -- by the two handles of a cast
  abbrev pub begun_by_region : Option Begins → Option (Program Event)
  begun_by_region (Some (Cast source target)) = Some (cast_event source target)
  begun_by_region (Some (Operation doing)) = None
  begun_by_region None = None

  -- the program whose trail the step begins
  abbrev pub begun_by_act : Act → Option Begins → Option (Program Event)
  begun_by_act Epoch begins = begun_by_pin begins
  begun_by_act LoadRegion begins = begun_by_region begins
  begun_by_act (Bind row generation number) begins = Some (load_event row generation number)
  begun_by_act act begins = None

  abbrev pub begun : Asked → Option (Program Event)
  begun c = begun_by_act c.act c.begins

-- ---- the steps of a view, read with the list of what was begun, both latest first

-- what the step begins is no word of the table's, and stands in the list
abbrev pub is_named : Act → Bool
is_named Epoch = true
is_named LoadRegion = true
is_named act = false

abbrev pub latest : List Begins → Option Begins
latest [] = None
latest (b ∷ bs) = Some b

abbrev pub trail_steps : List Step → List Begins → List TrailStep
trail_steps [] bs = []
trail_steps (x ∷ xs) bs = cond (is_named x.act) (record { step = x; begins = latest bs } ∷ trail_steps xs (drop 1 bs)) (record { step = x; begins = None } ∷ trail_steps xs bs)
