-- What each step on the epoch, on rows, cells, counters and buckets keeps of the whole rule: it changes what its seat knows of rows alone.
use Rattle.std.proofs.Common.{◌≡◌, ◌≢◌, ℕ, ◌+◌, ◌<◌, ◌≤◌, ◌^◌, List, [], Option, Some, map, set, ap, sym, refl, ◌∙◌, subst, ⊎_elim, arith, length-set}
use Rattle.std.proofs.lemmas.List.{map-set}
use Rattle.std.specs.Prelude.{IfSome}
use mathlib.Core.Option.{some}
use lib.ListN.{get_elem?}
use Rattle.atomic_table.proofs.Lists.{at_set, set_again, at_map}
use Rattle.vsd_rule.specs.declared.key.Key.{Key}
use Rattle.vsd_rule.specs.declared.row_view.RowView.{RowView}
use Rattle.vsd_rule.specs.declared.step.Act.{Act}
use Rattle.vsd_rule.specs.declared.view.View.{View}
use Rattle.vsd_rule.specs.declared.view.Who.{Who}
use Rattle.vsd_rule.specs.declared.view.Who.TheVariants.{Caller}
use Rattle.vsd_rule.specs.Layout.{pin_at}
use Rattle.vsd_rule.specs.Zones.{Zones, zones}
use Rattle.vsd_rule.specs.Seats.{Seats}
use Rattle.vsd_rule.specs.Handles.{Handles}
use Rattle.vsd_rule.specs.Rows.{RowSeat, Rows, TrueRowView}
use Rattle.vsd_rule.specs.Casts.{Casts}
use Rattle.vsd_rule.specs.Rule.{Whole, Rule, who_of, handle_seat, row_seat, cast_view}
use Rattle.vsd_rule.specs.Facts.{SmallEpoch}
use Rattle.vsd_rule.specs.RowSteps.{after_rows, after_epoch, after_pin, after_unpin}
use Rattle.vsd_rule.proofs.Points.{unseen_set}
use Rattle.vsd_rule.proofs.Windows.{pins_length, pin_written}
use Rattle.vsd_rule.proofs.HandleSteps.{Apart}
use Rattle.vsd_rule.proofs.Steps.{apart_of, whos_of}
use Rattle.vsd_rule.proofs.RowPins.{repinned_keeps, epoch_keeps}

-- the words of the zones on rows, as they are after a step
pub record RowZones : Type 0 where
  pub epoch : ℕ
  pub pins : List ℕ
  pub counts : List ℕ
  pub cells : List ℕ
  pub rows : List ℕ
  pub buckets : List ℕ

abbrev pub row_zones : Zones → RowZones
row_zones z = record { epoch = z.epoch; pins = z.pins; counts = z.counts; cells = z.cells; rows = z.rows; buckets = z.buckets }

abbrev pub with_rows : Zones → RowZones → Zones
with_rows z y = record z { epoch = y.epoch; pins = y.pins; counts = y.counts; cells = y.cells; rows = y.rows; buckets = y.buckets }

module _ (k : Key) (words : List ℕ) (views : List View) (r : Rule k words views) (id : ℕ) (v : View) (at : get_elem? views id ≡ some v) where
  abbrev pub w : Whole k (zones k.sizes words) views
  w = r.whole

  abbrev pub z : Zones
  z = zones k.sizes words

  abbrev pub seats : List RowSeat
  seats = map row_seat views

  abbrev pub d : RowSeat
  d = row_seat v

  pub at_row_seat : get_elem? seats id ≡ some d
  at_row_seat = at_map row_seat views id v at

  pub key_is : v.key ≡ k
  key_is = w.keyed id v at

  abbrev pub RowsAre : RowZones → RowView → Type 0
  RowsAre y rows = Rows k w.gen w.name y.epoch y.pins y.cells y.rows y.buckets (set seats id (record { who = v.who; rows = rows }))

  -- a step that changes words of these zones, and what its seat knows of rows
  pub whole_by_rows : (y : RowZones) (rows : RowView) (act : Act) (found : ℕ) → RowsAre y rows → Whole k (with_rows z y) (set views id (after_rows v rows act found))
  whole_by_rows y rows act found true_rows =
      let v' : View = after_rows v rows act found in
      record {
        lawful = w.lawful;
        gen = w.gen;
        name = w.name;
        keyed = λ seat e there. ⊎_elim
            (λ (t : (seat ≡ id) × (v' ≡ e)). ap (λ (x : View). x.key) (sym t.1) ∙ w.keyed id v at)
            (λ (t : (seat ≢ id) × (get_elem? views seat ≡ some e)). w.keyed seat e t.1)
            (at_set views id seat v' e there);
        seats = subst (Seats k.sizes) (sym (unseen_set who_of views id v v' at refl)) w.seats;
        handles = subst (Handles k w.gen w.name z.handles) (sym (unseen_set handle_seat views id v v' at refl)) w.handles;
        rows = subst (Rows k w.gen w.name y.epoch y.pins y.cells y.rows y.buckets) (sym (map-set row_seat views id v')) true_rows;
        casts = subst (Casts k w.gen w.name z.region z.casts) (sym (unseen_set cast_view views id v v' at refl)) w.casts;
      }

  -- where the seat knows nothing new
  pub rows_still : RowsAre (row_zones z) v.rows
  rows_still = subst (Rows k w.gen w.name z.epoch z.pins z.cells z.rows z.buckets) (sym (set_again seats id d at_row_seat)) w.rows

  -- a step that changes no word
  pub by_rows : (rows : RowView) (act : Act) (found : ℕ) → RowsAre (row_zones z) rows → Rule k words (set views id (after_rows v rows act found))
  by_rows rows act found true_rows = record { sized = r.sized; whole = whole_by_rows (row_zones z) rows act found true_rows }

  -- a step that writes the word at an index
  pub by_write : (index x : ℕ) (y : RowZones) (rows : RowView) (act : Act) (found : ℕ) → zones k.sizes (set words index x) ≡ with_rows z y → RowsAre y rows
      → Rule k (set words index x) (set views id (after_rows v rows act found))
  by_write index x y rows act found written true_rows = record {
    sized = length-set words index x ∙ r.sized;
    whole = subst (λ (q : Zones). Whole k q (set views id (after_rows v rows act found))) (sym written) (whole_by_rows y rows act found true_rows);
  }

  abbrev pub mine : TrueRowView k w.gen w.name w.rows.state w.rows.content z.epoch z.pins id d
  mine = w.rows.each id d at_row_seat

  -- no other caller has this caller's epoch word
  pub apart : (caller : ℕ) → v.who ≡ Caller caller → (seat : ℕ) (e : RowSeat) → seat ≢ id → get_elem? seats seat ≡ some e → Apart caller e.who
  apart caller who seat e other there =
      apart_of k.sizes (map who_of views) w.seats id caller (at_map who_of views id v at ∙ ap some who) seat e.who other
      (sym (ap (λ (ws : List Who). get_elem? ws seat) (whos_of row_seat (λ (d : RowSeat). d.who) (λ v. refl) views)) ∙ at_map (λ (d : RowSeat). d.who) seats seat e there)

  -- each caller's number is in range
  pub callers_below : (seat number : ℕ) (e : RowSeat) → get_elem? seats seat ≡ some e → e.who ≡ Caller number → number < k.sizes.callers
  callers_below seat number e there who =
      w.seats.in_range seat number (sym (ap (λ (ws : List Who). get_elem? ws seat) (whos_of row_seat (λ (d : RowSeat). d.who) (λ v. refl) views)) ∙ (at_map (λ (d : RowSeat). d.who) seats seat e there ∙ ap some who))

  pub caller_below : (caller : ℕ) → v.who ≡ Caller caller → caller < k.sizes.callers
  caller_below caller who = w.seats.in_range id caller (at_map who_of views id v at ∙ ap some who)

  pub small_epoch : SmallEpoch v
  small_epoch e loaded = let small : e ≤ z.epoch = subst (λ (o : Option ℕ). IfSome o (λ (x : ℕ). x ≤ z.epoch)) loaded mine.loaded in omega (arith, w.rows.epoch_small)

  -- ---- the epoch, pins

  pub epoch_small : z.epoch ≤ 2 ^ 62
  epoch_small = w.rows.epoch_small

  pub load_epoch_keeps : Rule k words (set views id (after_epoch v z.epoch))
  load_epoch_keeps = by_rows _ _ _ (epoch_keeps k w.rows id d at_row_seat z.epoch (Some z.epoch) (omega arith) epoch_small (omega arith))

  -- the own epoch word
  repin_keeps : (caller x : ℕ) (act : Act) → v.who ≡ Caller caller → x ≤ z.epoch + 1 → Rule k (set words (pin_at caller) x) (set views id (after_rows v (record v.rows { pinned = x; protected = [] }) act 0))
  repin_keeps caller x act who small =
      let below : caller < k.sizes.callers = caller_below caller who in
      by_write (pin_at caller) x (record (row_zones z) { pins = set z.pins caller x }) (record v.rows { pinned = x; protected = [] }) act 0 (pin_written k.sizes words caller x below r.sized)
      (repinned_keeps k w.rows id d at_row_seat x caller who (omega (arith, pins_length k.sizes words)) small (apart caller who))

  pub pin_keeps : (caller e : ℕ) → v.who ≡ Caller caller → v.rows.epoch ≡ Some e → Rule k (set words (pin_at caller) (e + 1)) (set views id (after_pin v e))
  pin_keeps caller e who loaded = repin_keeps caller (e + 1) _ who
      (let small : e ≤ z.epoch = subst (λ (o : Option ℕ). IfSome o (λ (x : ℕ). x ≤ z.epoch)) loaded mine.loaded in omega arith)

  pub unpin_keeps : (caller : ℕ) → v.who ≡ Caller caller → Rule k (set words (pin_at caller) 0) (set views id (after_unpin v))
  unpin_keeps caller who = repin_keeps caller 0 _ who (omega arith)
