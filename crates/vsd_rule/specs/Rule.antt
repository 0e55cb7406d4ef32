-- The whole rule: what holds of the words and of all seats' views between any two steps.
use Rattle.std.specs.Prelude.{◌≡◌, ℕ, List, map, length}
use mathlib.Core.Option.{some}
use lib.ListN.{get_elem?}
use Rattle.vsd_rule.specs.declared.key.Key.{Key}
use Rattle.vsd_rule.specs.declared.view.View.{View}
use Rattle.vsd_rule.specs.declared.view.Who.{Who}
use Rattle.vsd_rule.specs.declared.cast_view.CastView.{CastView}
use Rattle.vsd_rule.specs.Layout.{word_count}
use Rattle.vsd_rule.specs.Lists.{LawfulKey}
use Rattle.vsd_rule.specs.Zones.{Zones, zones}
use Rattle.vsd_rule.specs.Seats.{Seats}
use Rattle.vsd_rule.specs.Handles.{HandleSeat, Handles}
use Rattle.vsd_rule.specs.Rows.{RowSeat, Rows}
use Rattle.vsd_rule.specs.Casts.{Casts}

abbrev pub who_of : View → Who
who_of v = v.who

abbrev pub handle_seat : View → HandleSeat
handle_seat v = record { who = v.who; handles = v.handles }

abbrev pub row_seat : View → RowSeat
row_seat v = record { who = v.who; rows = v.rows }

abbrev pub cast_view : View → CastView
cast_view v = v.casts

pub record Whole (k : Key) (z : Zones) (views : List View) : Type 0 where
  pub lawful : LawfulKey k
  -- the generation of each handle row, and the type that it names at each generation
  pub gen : ℕ → ℕ
  pub name : ℕ → ℕ → ℕ
  -- all seats know the same world
  pub keyed : (seat : ℕ) (v : View) → get_elem? views seat ≡ some v → v.key ≡ k
  pub seats : Seats k.sizes (map who_of views)
  pub handles : Handles k gen name z.handles (map handle_seat views)
  pub rows : Rows k gen name z.epoch z.pins z.cells z.rows z.buckets (map row_seat views)
  pub casts : Casts k gen name z.region z.casts (map cast_view views)

pub record Rule (k : Key) (words : List ℕ) (views : List View) : Type 0 where
  pub sized : length words ≡ word_count k.sizes
  pub whole : Whole k (zones k.sizes words) views
