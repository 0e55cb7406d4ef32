-- Rows in limbo, as a hand and as a view have them.
use Rattle.std.specs.Prelude.{◌≡◌, ℕ, ◌<◌, List}
use mathlib.Core.Option.{some}
use lib.ListN.{get_elem?}
use Rattle.vsd_rule.specs.declared.key.Key.{Key}
use Rattle.vsd_rule.specs.declared.row_view.RetiredRow.{RetiredRow}
use Rattle.vsd_rows.specs.declared.limbo.Limbo.{Limbo}

-- what a seat's view has of a row in limbo
abbrev pub retired_row : Limbo → RetiredRow
retired_row x = record { row = x.row; epoch = x.epoch }

-- each row in limbo is one of the table's
abbrev pub AreInTable : Key → List Limbo → Type 0
AreInTable k limbo = (i : ℕ) (x : Limbo) → get_elem? limbo i ≡ some x → x.row < k.sizes.rows
