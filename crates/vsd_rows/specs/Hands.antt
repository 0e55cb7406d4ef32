-- What the calls on rows make of what their caller knows, and what they ask of it.
use Rattle.std.specs.Prelude.{◌≡◌, ℕ, ◌<◌, Bool, true, false, Option, Some, None}
use Rattle.vsd_words.specs.declared.handle.Handle.{Handle}
use Rattle.vsd_words.specs.Handle.{packed_handle}
use Rattle.vsd_rule.specs.declared.row_view.KnownWords.{KnownWords}
use Rattle.vsd_rule.specs.declared.row_view.ProtectedRow.{ProtectedRow}
use Rattle.vsd_rule.specs.declared.row_view.RowView.{RowView}
use Rattle.vsd_rule.specs.declared.row_view.Keeping.TheVariants.{Elsewhere}
use Rattle.vsd_rule.specs.declared.step.Doing.{Doing}
use Rattle.vsd_rule.specs.declared.step.Act.TheVariants.{LoadRow}
use Rattle.vsd_rule.specs.declared.step.RowWord.TheVariants as word
use Rattle.vsd_rule.specs.declared.view.View.{View}
use Rattle.vsd_rule.specs.RowSteps.{after_rows, sees, with_handle, keeps_row, claimed, protected_of, after_epoch, after_pin, after_set_handle, after_set_token, after_set_target, retired, without_oldest}
use Rattle.vsd_table.specs.declared.seated.Seated.{Seated}
use Rattle.vsd_table.specs.Seating.{view_of, BecomesDoing}
use Rattle.vsd_trails.specs.declared.answers.Swept.{Swept}
use Rattle.vsd_trails.specs.declared.answers.Swept.TheVariants.{Empty, Blocked, Freed}

-- the seat loaded the epoch, beginning this, and is pinned at it
pub record Pins (old new : Seated) (doing : Doing) : Type 0 where
  pub epoch : ℕ
  pub step : BecomesDoing old new (after_pin (after_epoch (view_of old) epoch) epoch) doing

-- the caller is pinned, and has loaded the row from a cell or a bucket since
pub record IsProtected (v : View) (row : ℕ) : Type 0 where
  pub pinned : 0 < v.rows.pinned
  pub latest : ProtectedRow
  pub there : protected_of row v.rows.protected ≡ Some latest

-- the latest that the pinned caller has seen of a row that it protects
pub record HasSeen (v : View) (row : ℕ) (site : Option ℕ) (seen : KnownWords) : Type 0 where
  pub pinned : 0 < v.rows.pinned
  pub there : protected_of row v.rows.protected ≡ Some (record { row = row; site = site; seen = seen })

-- the load of the row's handle found this one
abbrev pub after_handle : View → ℕ → Handle → View
after_handle v row h = after_rows v (sees v.rows row (with_handle h)) (LoadRow row word.Handle) (packed_handle h)

-- what was loaded of the row before is what is found now
abbrev pub IsSeenAgain : View → ℕ → (ProtectedRow → Type 0) → Type 0
IsSeenAgain v row Found = (x : ProtectedRow) → protected_of row v.rows.protected ≡ Some x → Found x

-- nothing but what the seat knows of rows and its list of steps has changed
abbrev pub with_rows : View → View → RowView → View
with_rows old new d = record old { rows = d; steps = new.steps }

-- the row that a claim gave, if any, is private
abbrev pub given : RowView → Option ℕ → RowView
given d None = d
given d (Some row) = claimed d row

abbrev pub given_if : Bool → ℕ → Option ℕ
given_if true row = Some row
given_if false row = None

-- a claim moves the cursor, and the row that it gave is private; nothing else has changed
abbrev pub Claims : View → View → Option ℕ → Type 0
Claims old new row = new ≡ with_rows old new (record (given old.rows row) { cursor = new.rows.cursor })

-- the three words were stored in the row
abbrev pub after_fill : View → ℕ → Handle → ℕ → ℕ → View
after_fill v row h token target = after_set_target (after_set_token (after_set_handle v row h) row token) row target

-- the row entered limbo with this epoch; nothing else has changed
abbrev pub Retires : View → View → ℕ → ℕ → Type 0
Retires old new row epoch = new ≡ with_rows old new (retired old.rows row epoch)

-- what a sweep that passed so many callers makes of limbo: the row that it freed leaves it
abbrev pub left_by : RowView → ℕ → Swept → RowView
left_by d passed Empty = d
left_by d passed (Blocked caller epoch) = record d { passed = passed }
left_by d passed (Freed row) = record (keeps_row d row Elsewhere) { limbo = without_oldest d.limbo; passed = passed }

-- a sweep notes how far it has come; nothing else has changed
abbrev pub Sweeps : View → View → Swept → Type 0
Sweeps old new swept = new ≡ with_rows old new (left_by old.rows new.rows.passed swept)
