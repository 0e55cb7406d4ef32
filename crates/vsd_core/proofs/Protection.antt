-- A row that a caller protects is not given again, by the rule.
use Rattle.std.proofs.Common.{◌≡◌, ℕ, ◌+◌, ◌*◌, ◌<◌, List, Option, Some, None, IfSome, slice_index, refl, sym, ◌∙◌, ap, subst, arith}
use mathlib.Core.Option.{some}
use lib.ListN.{get_elem?}
use Rattle.atomic_table.proofs.Lists.{at_map}
use Rattle.vsd_words.specs.declared.handle.Handle.{Handle}
use Rattle.vsd_words.specs.Handle.{IsHandlePacking}
use Rattle.vsd_rule.specs.declared.key.Key.{Key}
use Rattle.vsd_rule.specs.declared.row_view.Keeping.{Keeping}
use Rattle.vsd_rule.specs.declared.row_view.Keeping.TheVariants.{Private}
use Rattle.vsd_rule.specs.declared.row_view.ProtectedRow.{ProtectedRow}
use Rattle.vsd_rule.specs.declared.row_view.RetiredRow.{RetiredRow}
use Rattle.vsd_rule.specs.declared.view.View.{View}
use Rattle.vsd_rule.specs.declared.view.Who.{Who}
use Rattle.vsd_rule.specs.declared.view.Who.TheVariants.{Root, Caller}
use Rattle.vsd_rule.specs.RowFacts.{IsPrivate, IsOldest}
use Rattle.vsd_rule.specs.Rows.{RowState, kept, KeepsAsTold, keeping_of, WasPublished, Pins, Protects}
use Rattle.vsd_rule.specs.Zones.{Zones, zones}
use Rattle.vsd_rule.specs.Rule.{Whole, row_seat, who_of}
use Rattle.vsd_rule.proofs.RowFrames.{protects_at}
use Rattle.vsd_rule.proofs.Laws.{protected_claimed}
use Rattle.vsd_core.specs.Protection.{AreThere, StaysGiven, ProtectedRowsStay}

-- the keeper of a private row is told so
private_there : (seat : ℕ) (state : RowState) (keeping : Keeping) (words : _) → keeping ≡ Private words → KeepsAsTold seat state keeping → state ≡ kept seat (Private words)
private_there seat state keeping words is told = subst (λ (q : Keeping). KeepsAsTold seat state q) is told

not_published : (state : RowState) (seat : ℕ) (words : _) → state ≡ kept seat (Private words) → WasPublished state → ⊥
not_published state seat words is published = subst WasPublished is published

-- the words that the rule has are the ones in the table
module _ (seen : Option Handle) (h : Handle) (word : ℕ) where
  handle_there : (s : Option Handle) → IfSome s (λ g. g ≡ h) → IsHandlePacking h word → IfSome s (λ g. IsHandlePacking g word)
  handle_there None is packs = tt
  handle_there (Some g) is packs = subst (λ (q : Handle). IsHandlePacking q word) (sym is) packs

number_there : (s : Option ℕ) (n word : ℕ) → IfSome s (λ g. g ≡ n) → word ≡ n → IfSome s (λ g. word ≡ g)
number_there None n word is same = tt
number_there (Some g) n word is same = same ∙ sym is

-- a pinned seat is a caller's
pinned_caller : (k : Key) (pins : List ℕ) (who : Who) (pinned : ℕ) → Pins k pins who pinned → 0 < pinned → (number : ℕ) × (who ≡ Caller number)
pinned_caller k pins (Root next) pinned has some_ = absurd (omega (arith, has.0))
pinned_caller k pins (Caller number) pinned has some_ = (number, refl)

module _ (k : Key) (z : Zones) (views : List View) (w : Whole k z views) (seat i : ℕ) (v : View) (x : ProtectedRow)
    (at : get_elem? views seat ≡ some v) (pinned : 0 < v.rows.pinned) (sees : get_elem? v.rows.protected i ≡ some x) where
  protects : Protects k w.rows.state w.rows.content v.rows.pinned x
  protects = protects_at k w.rows.state w.rows.content v.rows.pinned v.rows.protected ((w.rows.each seat (row_seat v) (at_map row_seat views seat v at)).protects pinned) i x sees

  there : AreThere z.rows x.row x.seen
  there =
      let p = protects in
      let row = w.rows.row x.row p.row in
      let c = w.rows.content x.row in
      record {
        handle = handle_there x.seen.handle c.handle (slice_index z.rows (4 * x.row + 1)) x.seen.handle p.seen.handle row.handle;
        token = number_there x.seen.token c.token (slice_index z.rows (4 * x.row + 2)) p.seen.token row.token;
        target = number_there x.seen.target c.target (slice_index z.rows (4 * x.row + 3)) p.seen.target row.target;
      }

  not_private : (other : ℕ) (u : View) → get_elem? views other ≡ some u → IsPrivate u x.row → ⊥
  not_private other u there is =
      let p = protects in
      let told = (w.rows.each other (row_seat u) (at_map row_seat views other u there)).keepings x.row p.row in
      not_published (w.rows.state x.row) other is.0 (private_there other (w.rows.state x.row) (keeping_of x.row u.rows.kept) is.0 is.1 told) p.published

  not_freed : (other : ℕ) (u : View) → get_elem? views other ≡ some u → IsOldest u x.row → u.rows.passed ≡ k.sizes.callers → ⊥
  not_freed other u there oldest passed =
      let d = row_seat v in
      let mine = w.rows.each seat d (at_map row_seat views seat v at) in
      let caller = pinned_caller k z.pins v.who v.rows.pinned mine.pin pinned in
      let small = w.seats.in_range seat caller.0 (at_map who_of views seat v at ∙ ap some caller.1) in
      let first : RetiredRow = record { row = x.row; epoch = oldest.epoch } in
      w.rows.swept other seat caller.0 i (row_seat u) d first x (at_map row_seat views other u there) (at_map row_seat views seat v at) caller.1
      (subst (λ (n : ℕ). caller.0 < n) (sym passed) small) (ap (λ (l : List RetiredRow). get_elem? l 0) oldest.queue) sees pinned refl

  pub stays_given : StaysGiven k z.rows views x.row x.seen
  stays_given = record {
    claimed = protected_claimed k z views w seat v at i x pinned sees;
    there = there;
    not_private = not_private;
    not_freed = not_freed;
  }

pub rows_stay : ProtectedRowsStay
rows_stay k words views seat i v x rule at pinned sees = stays_given k (zones k.sizes words) views rule.whole seat i v x at pinned sees
