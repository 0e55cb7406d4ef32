-- What binding and unbinding a handle make of the caller's seat.
use Rattle.std.specs.Prelude.{ℕ}
use Rattle.vsd_words.specs.declared.handle.Handle.{Handle}
use Rattle.vsd_rule.specs.Moves.{after_bind, after_unbind}
use Rattle.vsd_table.specs.declared.seated.Seated.{Seated}
use Rattle.vsd_table.specs.Seating.{view_of, Becomes}
use Rattle.vsd_handles.specs.OwnRows.{own_row_word}

-- one store bound the handle's row to the type, at the handle's generation
abbrev pub Binds : Seated → Seated → ℕ → Handle → Type 0
Binds old new number h = Becomes old new (after_bind (view_of old) h.row h.generation number)

-- one store left the handle's row as it was, but not live
abbrev pub Unbinds : Seated → Seated → Handle → Type 0
Unbinds old new h =
    Becomes old new (after_unbind (view_of old) h.row h.generation (own_row_word (view_of old) h.row).number)
