-- The words of indirection cells.
use Rattle.std.specs.Prelude.{ℕ, ◌+◌, ◌<◌}
use Rattle.vsd_words.specs.declared.cell_word.CellWord.{CellWord}
use Rattle.vsd_words.specs.declared.cell_word.CellWord.TheVariants.{Lookup, Resolve, Dispatch}
use Rattle.vsd_words.specs.Packing.{IsPacking}

-- the row that a cell dispatches through is one of 1,024
abbrev pub CellWordInRange : CellWord → Type 0
CellWordInRange Lookup = Unit {0}
CellWordInRange Resolve = Unit {0}
CellWordInRange (Dispatch row) = row < 1024

-- a cell as one number
abbrev pub packed_cell : CellWord → ℕ
packed_cell Lookup = 0
packed_cell Resolve = 1
packed_cell (Dispatch row) = 2 + row

-- the word is the packing of what the cell holds, which is in range
abbrev pub IsCellPacking : CellWord → ℕ → Type 0
IsCellPacking = IsPacking CellWordInRange packed_cell
