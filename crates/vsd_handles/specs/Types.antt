-- What type a loaded handle word gives a handle.
use Rattle.std.specs.Prelude.{◌≡◌, ℕ, Result}
use Rattle.vsd_words.specs.declared.handle.Handle.{Handle}
use Rattle.vsd_words.specs.declared.handle_word.HandleWord.{HandleWord}
use Rattle.vsd_rule.specs.Moves.{after_load_handle}
use Rattle.vsd_table.specs.Seating.{view_of, Becomes}
use Rattle.vsd_table.specs.declared.seated.Seated.{Seated}
use Rattle.vsd_trails.specs.declared.answers.Unloaded.{Unloaded}
use Rattle.vsd_trails.specs.Words.{type_by}

-- one load of the handle's row found a word, which alone decides the answer
pub record LoadsType (old new : Seated) (h : Handle) (answer : Result ℕ Unloaded) : Type 0 where
  pub found : HandleWord
  pub step : Becomes old new (after_load_handle (view_of old) h.row found)
  pub decides : answer ≡ type_by h found
