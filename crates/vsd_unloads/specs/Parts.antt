-- An unload at one row, one cell and one bucket.
use Rattle.std.specs.Prelude.{ℕ, Bool, ◌&&◌}
use Rattle.vsd_words.specs.declared.handle.Handle.{Handle}
use Rattle.vsd_trails.specs.Programs.{Program, done, bind}
use Rattle.vsd_trails.specs.Words.{same_handle}
use Rattle.vsd_trails.specs.RowTrails.{reading_handle, seeing_room, reading_cell, looking}
use Rattle.vsd_trails.specs.UnloadTrails.{purging_cell, purging_bucket}

-- whether the row is to be taken out: it has the handle, and limbo has room
abbrev pub checking : Handle → ℕ → Program Bool
checking h row = bind (reading_handle row) (λ (g : Handle). bind seeing_room (λ (room : Bool). done (same_handle g h && room)))

-- Load the site's cell, and purge it.
abbrev pub purging_site : Handle → ℕ → Program (Unit {0})
purging_site h site = bind (reading_cell site) (purging_cell h site)

-- Load the bucket, and purge it.
abbrev pub purging_one : Handle → ℕ → Program (Unit {0})
purging_one h bucket = bind (looking bucket) (purging_bucket h bucket)
