-- What an exchange of a cell makes of the caller.
use Rattle.std.specs.Prelude.{◌≡◌, ◌↔◌, Bool, IsTrue}
use Rattle.vsd_words.specs.declared.cell_word.CellWord.{CellWord}
use Rattle.vsd_rule.specs.declared.view.View.{View}
use Rattle.vsd_table.specs.declared.seated.Seated.{Seated}
use Rattle.vsd_table.specs.Seating.{Becomes}

-- one exchange found a cell, and was won where it is the one that was compared with
pub record Exchanges (old new : Seated) (compared : CellWord) (after : CellWord → View) (won : Bool) : Type 0 where
  pub found : CellWord
  pub step : Becomes old new (after found)
  pub decides : IsTrue won ↔ (found ≡ compared)
