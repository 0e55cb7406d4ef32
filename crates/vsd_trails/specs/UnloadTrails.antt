-- The trails of a load and of an unload.
use Rattle.std.specs.Prelude.{ℕ, zero, suc, ◌+◌, ◌&&◌, Option, Some, None}
use Rattle.vsd_words.specs.declared.handle.Handle.{Handle}
use Rattle.vsd_words.specs.declared.cell_word.CellWord.{CellWord}
use Rattle.vsd_words.specs.declared.cell_word.CellWord.TheVariants.{Lookup, Resolve, Dispatch}
use Rattle.vsd_rule.specs.declared.key.Key.{Key}
use Rattle.vsd_rule.specs.declared.step.Act.TheVariants.{Bind, Unbind, ToLookup}
use Rattle.vsd_rule.specs.declared.step.Doing.TheVariants.{Unload}
use Rattle.vsd_trails.specs.Programs.{Program, done, ◌>>=◌, ◌>>◌, when◌then◌else◌}
use Rattle.vsd_trails.specs.Words.{same_handle}
use Rattle.vsd_trails.specs.RowTrails.{making, pinning, unpinning, reading_handle, seeing_room, retiring_any, sweeping, reading_cell, unlinking, looking, emptying}

-- Store a live handle word.
unfoldable pub binding : Handle → ℕ → Program Handle
binding h number = making (Bind h.row h.generation number) >> done h

-- Store the handle word, not live.
abbrev pub unbinding : Handle → Program (Unit {0})
unbinding h = making (Unbind h.row h.generation 0)

-- ---- the purge

-- Where the row has the handle and limbo has room, try one exchange of the cell to Lookup, and where it wins retire the row.
unfoldable pub purging_cell : Handle → ℕ → CellWord → Program (Unit {0})
purging_cell h site Lookup = done tt
purging_cell h site Resolve = done tt
purging_cell h site (Dispatch row) = do
  g ← reading_handle row
  room ← seeing_room
  when same_handle g h && room then unlinking (ToLookup site row) row else done tt

-- Where the row has the handle and limbo has room, swap the bucket empty, and retire the row that came out.
unfoldable pub purging_bucket : Handle → ℕ → Option ℕ → Program (Unit {0})
purging_bucket h bucket None = done tt
purging_bucket h bucket (Some row) = do
  g ← reading_handle row
  room ← seeing_room
  when same_handle g h && room then (emptying bucket >>= retiring_any) else done tt

-- Load the cells of so many sites, one after another, and purge each.
unfoldable pub purging_cells : Handle → ℕ → ℕ → Program (Unit {0})
purging_cells h zero site = done tt
purging_cells h (suc n) site = do
  cell ← reading_cell site
  purging_cell h site cell
  purging_cells h n (site + 1)

unfoldable pub purging_buckets : Handle → ℕ → ℕ → Program (Unit {0})
purging_buckets h zero bucket = done tt
purging_buckets h (suc n) bucket = do
  named ← looking bucket
  purging_bucket h bucket named
  purging_buckets h n (bucket + 1)

-- ---- an unload

-- Pin, store the handle word, purge each cell and each bucket in order, unpin and sweep.
unfoldable pub unloading : Key → Handle → Program (Unit {0})
unloading k h = do
  pinning (Unload h)
  unbinding h
  purging_cells h k.sizes.sites 0
  purging_buckets h k.sizes.buckets 0
  unpinning
  sweeping k
  done tt
