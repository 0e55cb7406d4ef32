-- What the words of the table say to whoever loads them.
use Rattle.std.specs.Prelude.{ℕ, zero, suc, ◌+◌, ◌-◌, ◌/◌, ◌%◌, ◌^◌, nat_eq, cond, Bool, ◌&&◌, Option, Some, None, Result, Ok, Err, if◌then◌else◌}
use Rattle.vsd_words.specs.declared.handle.Handle.{Handle}
use Rattle.vsd_words.specs.declared.cell_word.CellWord.{CellWord}
use Rattle.vsd_words.specs.declared.cell_word.CellWord.TheVariants.{Lookup, Resolve, Dispatch}
use Rattle.vsd_words.specs.declared.handle_word.HandleWord.{HandleWord}
use Rattle.vsd_words.specs.declared.cast_word.CastWord.{CastWord}
use Rattle.vsd_rule.specs.RowSteps.{unpacked_handle}
use Rattle.vsd_trails.specs.declared.answers.Unloaded.{Unloaded}

abbrev pub unpacked_cell : ℕ → CellWord
unpacked_cell zero = Lookup
unpacked_cell (suc zero) = Resolve
unpacked_cell (suc (suc row)) = Dispatch row

abbrev pub unpacked_handle_word : ℕ → HandleWord
unpacked_handle_word word = record { generation = word / 262144; number = word / 4 % 65536; immortal = nat_eq (word / 2 % 2) 1; live = nat_eq (word % 2) 1 }

abbrev pub unpacked_cast : ℕ → CastWord
unpacked_cast word = record { target = unpacked_handle (word / 2); yes = nat_eq (word % 2) 1 }

-- the row that a bucket names
abbrev pub unpacked_bucket : ℕ → Option ℕ
unpacked_bucket zero = None
unpacked_bucket (suc row) = Some row

-- the new count where the counter was this; it stands still at its end
abbrev pub counted : ℕ → ℕ
counted word = cond (nat_eq word (2 ^ 64 - 1)) word (word + 1)

abbrev pub same_handle : Handle → Handle → Bool
same_handle g h = nat_eq g.row h.row && nat_eq g.generation h.generation

-- the handle row is live at the generation
abbrev pub is_live_at : ℕ → HandleWord → Bool
is_live_at generation w = w.live && nat_eq w.generation generation

-- the type's number where the handle row is live at the handle's generation, else the word
abbrev pub type_by : Handle → HandleWord → Result ℕ Unloaded
type_by h w = if is_live_at h.generation w then Ok w.number else Err (record { handle = h; found = w })
