-- What the parts of an operation leave of their caller's view.
use Rattle.std.specs.Prelude.{◌≡◌}
use Rattle.vsd_rule.specs.declared.view.View.{View}

-- the pin, and all that is known of handles
pub record Goes (old new : View) : Type 0 where
  pub pinned : new.rows.pinned ≡ old.rows.pinned
  pub handles : new.handles ≡ old.handles

-- the pin, and the caller's own handle words
pub record Stays (old new : View) : Type 0 where
  pub pinned : new.rows.pinned ≡ old.rows.pinned
  pub owned : new.handles.owned ≡ old.handles.owned
