-- The programs of the calls on rows and handles, of which the longer ones are made.
use Rattle.std.specs.Prelude.{ℕ, zero, suc, ◌+◌, ◌^◌, min, nat_eq, nat_lt, nat_le, Bool, false, List, [], ◌∷◌, length, Option, Some, None, Result}
use Rattle.vsd_words.specs.declared.handle.Handle.{Handle}
use Rattle.vsd_words.specs.declared.cell_word.CellWord.{CellWord}
use Rattle.vsd_rule.specs.declared.key.Key.{Key}
use Rattle.vsd_rule.specs.declared.row_view.RetiredRow.{RetiredRow}
use Rattle.vsd_rule.specs.declared.step.Act.{Act}
use Rattle.vsd_rule.specs.declared.step.Act.TheVariants.{Epoch, Pin, Unpin, Claim, SetHandle, SetToken, SetTarget, LoadRow, Free, LoadCell, LoadBucket, PutBucket, EmptyBucket, LoadHandle, EpochToRetire, Raise, EpochOf, FreeSwept}
use Rattle.vsd_rule.specs.declared.step.RowWord.TheVariants as row_word
use Rattle.vsd_rule.specs.declared.step.Begins.TheVariants.{Operation}
use Rattle.vsd_rule.specs.declared.step.Doing.{Doing}
use Rattle.vsd_rule.specs.RowSteps.{next_row, unpacked_handle, is_clear}
use Rattle.vsd_trails.specs.declared.answers.Unloaded.{Unloaded}
use Rattle.vsd_trails.specs.declared.answers.Swept.{Swept}
use Rattle.vsd_trails.specs.declared.answers.Swept.TheVariants.{Empty, Blocked, Freed}
use Rattle.vsd_trails.specs.Programs.{Program, done, look, ask, ◌>>=◌, ◌>>◌, when◌then◌else◌}
use Rattle.vsd_trails.specs.Words.{unpacked_cell, unpacked_handle_word, unpacked_bucket, type_by}

-- ---- one step

abbrev pub reading : {A : Type 0} → Act → (ℕ → A) → Program A
reading act read = ask (record { act = act; begins = None }) (λ word. done (read word))

-- a load of a word that is a number
abbrev pub loading : Act → Program ℕ
loading act = reading act (λ word. word)

-- a store, or a step of which no answer is used
abbrev pub making : Act → Program (Unit {0})
making act = reading act (λ word. tt)

-- an exchange, which wins where it finds the word that it compares with
abbrev pub trying : Act → ℕ → Program Bool
trying act expected = reading act (λ word. nat_eq word expected)

-- ---- pins

-- Load the epoch, and store one more in the own epoch word.
unfoldable pub pinning : Doing → Program (Unit {0})
pinning doing = do
  epoch ← ask (record { act = Epoch; begins = Some (Operation doing) }) (λ word. done word)
  making (Pin epoch)

abbrev pub unpinning : Program (Unit {0})
unpinning = making Unpin

-- ---- rows

abbrev pub reading_handle : ℕ → Program Handle
reading_handle row = reading (LoadRow row row_word.Handle) unpacked_handle

abbrev pub reading_token : ℕ → Program ℕ
reading_token row = loading (LoadRow row row_word.Token)

abbrev pub reading_target : ℕ → Program ℕ
reading_target row = loading (LoadRow row row_word.Target)

-- Load the row's claim word, and where it is free try one exchange.
unfoldable pub claiming_row : ℕ → Program Bool
claiming_row row = do
  free ← trying (LoadRow row row_word.Claim) 0
  when free then trying (Claim row) 0 else done false

-- Try so many rows, one after another, round the end.
unfoldable pub claiming_from : Key → ℕ → ℕ → Program (Option ℕ)
claiming_from k zero row = done None
claiming_from k (suc n) row = do
  won ← claiming_row row
  when won then done (Some row) else claiming_from k n (next_row k row)

unfoldable pub claiming : Key → Program (Option ℕ)
claiming k = look (λ f. claiming_from k (min 8 k.sizes.rows) f.cursor)

unfoldable pub filling : ℕ → Handle → ℕ → ℕ → Program (Unit {0})
filling row h token target = do
  making (SetHandle row h)
  making (SetToken row token)
  making (SetTarget row target)

abbrev pub abandoning : ℕ → Program (Unit {0})
abandoning row = making (Free row)

-- ---- limbo

-- two more rows can enter limbo
abbrev pub has_room : List RetiredRow → Bool
has_room limbo = nat_le (length limbo) 14

abbrev pub seeing_room : Program Bool
seeing_room = look (λ f. done (has_room f.limbo))

-- Load the epoch, at which the row enters limbo, and where it can rise try one exchange to the next.
unfoldable pub retiring : ℕ → Program (Unit {0})
retiring row = do
  epoch ← loading (EpochToRetire row)
  when nat_lt epoch (2 ^ 62) then making (Raise epoch) else done tt

-- the row that came out, if any
abbrev pub retiring_any : Option ℕ → Program (Unit {0})
retiring_any None = done tt
retiring_any (Some row) = retiring row

-- Load the epoch words of so many callers, one after another, until one blocks the row. Where none does, free it.
unfoldable pub passing : RetiredRow → ℕ → ℕ → Program Swept
passing x zero caller = do
  making (FreeSwept x.row)
  done (Freed x.row)
passing x (suc n) caller = do
  word ← loading (EpochOf caller)
  when is_clear x.epoch word then passing x n (caller + 1) else done (Blocked caller word)

abbrev pub sweeping_oldest : Key → List RetiredRow → Program Swept
sweeping_oldest k [] = done Empty
sweeping_oldest k (x ∷ xs) = passing x k.sizes.callers 0

unfoldable pub sweeping : Key → Program Swept
sweeping k = look (λ f. sweeping_oldest k f.limbo)

-- ---- cells, buckets and handles

abbrev pub reading_cell : ℕ → Program CellWord
reading_cell site = reading (LoadCell site) unpacked_cell

-- Try one exchange that takes a row out of a cell, and where it wins retire the row.
unfoldable pub unlinking : Act → ℕ → Program (Unit {0})
unlinking act row = do
  won ← trying act (2 + row)
  when won then retiring row else done tt

abbrev pub looking : ℕ → Program (Option ℕ)
looking bucket = reading (LoadBucket bucket) unpacked_bucket

abbrev pub putting_row : ℕ → ℕ → Program (Option ℕ)
putting_row bucket row = reading (PutBucket bucket row) unpacked_bucket

abbrev pub emptying : ℕ → Program (Option ℕ)
emptying bucket = reading (EmptyBucket bucket) unpacked_bucket

-- the type that a handle names, by its handle word
abbrev pub typing : Handle → Program (Result ℕ Unloaded)
typing h = reading (LoadHandle h.row) (λ word. type_by h (unpacked_handle_word word))
