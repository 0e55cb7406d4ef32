-- What an unload has done: to cells and buckets, to limbo, and to what its caller knows of handles.
use Rattle.std.specs.Prelude.{◌≡◌, ℕ, ◌<◌, false, List, ◌∷◌, slice_set}
use Rattle.vsd_words.specs.declared.handle.Handle.{Handle}
use Rattle.vsd_rule.specs.declared.key.Key.{Key}
use Rattle.vsd_rule.specs.declared.step.Act.TheVariants.{Epoch, Pin, Unbind}
use Rattle.vsd_rule.specs.declared.view.View.{View}
use Rattle.vsd_rule.specs.Handles.{own_word}
use Rattle.vsd_rule.specs.Moves.{own_index}
use Rattle.vsd_rule.specs.Facts.{IsOwn}
use Rattle.vsd_table.specs.declared.seated.Seated.{Seated}
use Rattle.vsd_trails.specs.Programs.{TrailStep, asked_act, onto}
use Rattle.vsd_trails.specs.Words.{is_live_at}
use Rattle.vsd_trails.specs.Attempts.{SweepsAtEnd, PurgesCell, PurgesBucket}
use Rattle.vsd_rows.specs.Makes.{steps_of, fields_of}
use Rattle.vsd_handles.specs.OwnRows.{own_row_word}

-- The steps that the seat made begin with the load of the epoch, the pin at it, and the store of the handle word, not live.
pub record StoresFirst (h : Handle) (old new : Seated) : Type 0 where
  pub epoch : TrailStep
  pub pin : TrailStep
  pub store : TrailStep
  pub rest : List TrailStep
  pub made : steps_of new ≡ onto (epoch ∷ pin ∷ store ∷ rest) (steps_of old)
  pub epoch_is : epoch.step.act ≡ Epoch
  pub pin_is : pin.step.act ≡ Pin epoch.step.found
  pub store_is : asked_act store.step.act ≡ Unbind h.row h.generation 0

-- The steps that the seat made have for each site and each bucket a load of it. That load, or the one of the handle of the row that it
-- names, shows that it does not hold the handle; or limbo had no room; or the next step tried to take the row out.
pub record PurgesAll (k : Key) (h : Handle) (old new : Seated) : Type 0 where
  pub trail : List TrailStep
  pub made : steps_of new ≡ onto trail (steps_of old)
  pub cells : (site : ℕ) → site < k.sizes.sites → PurgesCell k h site (fields_of old) trail
  pub buckets : (bucket : ℕ) → bucket < k.sizes.buckets → PurgesBucket k h bucket (fields_of old) trail

-- With a row in limbo at the unpin, the last step that the seat made frees the oldest, or is the load of an epoch word that blocks it.
pub record SweepsOldest (k : Key) (old new : Seated) : Type 0 where
  pub trail : List TrailStep
  pub made : steps_of new ≡ onto trail (steps_of old)
  pub ends : SweepsAtEnd k (fields_of old) trail

-- the handle's row is one of the caller's own, and not live at the handle's generation
pub record IsUnloaded (v : View) (h : Handle) : Type 0 where
  pub row : IsOwn v h.row
  pub gone : is_live_at h.generation (own_row_word v h.row) ≡ false

-- Of all that the caller knows of handles, the word of this one's row has changed: it keeps its generation and type, and is not live.
abbrev pub LetsGo : View → View → Handle → Type 0
LetsGo old new h = new.handles ≡ record old.handles {
  owned = slice_set old.handles.owned (own_index old h.row) (own_word h.generation (own_row_word old h.row).number false);
}
