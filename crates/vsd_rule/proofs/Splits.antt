-- A split of a seat off the root keeps each part of the rule.
use Rattle.std.proofs.Common.{◌≡◌, ◌≢◌, ◌⊎◌, inl, inr, ⊎_elim, ℕ, zero, suc, ◌+◌, ◌*◌, ◌<◌, ◌≤◌, List, [], ◌∷◌, ◌++◌, map, length, set, ap, sym, refl, ◌∙◌, subst, arith, length-set, length-append}
use mathlib.Core.Option.{some, some-injective, some-ne-none}
use lib.ListN.{get_elem?}
use Rattle.std.proofs.lemmas.List.{map-set, map-append}
use Rattle.std.proofs.Math.Nat.{div-lt_iff_lt-mul, mul-lt-mul_of_pos_right}
use Rattle.atomic_table.proofs.Lists.{at_set, at_map}
use Rattle.vsd_rule.specs.declared.sizes.Sizes.{Sizes}
use Rattle.vsd_rule.specs.declared.key.Key.{Key}
use Rattle.vsd_rule.specs.declared.cast_view.CastView.{CastView}
use Rattle.vsd_rule.specs.declared.handle_view.HandleView.{HandleView}
use Rattle.vsd_rule.specs.declared.row_view.RowView.{RowView}
use Rattle.vsd_rule.specs.declared.row_view.ProtectedRow.{ProtectedRow}
use Rattle.vsd_rule.specs.declared.row_view.RetiredRow.{RetiredRow}
use Rattle.vsd_rule.specs.declared.view.View.{View}
use Rattle.vsd_rule.specs.declared.view.Who.{Who}
use Rattle.vsd_rule.specs.declared.view.Who.TheVariants.{Root, Caller}
use Rattle.vsd_rule.specs.Lists.{LawfulKey}
use Rattle.vsd_rule.specs.Zones.{Zones, zones}
use Rattle.vsd_rule.specs.Seats.{Seats, caller_of}
use Rattle.vsd_rule.specs.Handles.{HandleSeat, Handles, TrueHandleView}
use Rattle.vsd_rule.specs.Rows.{RowSeat, Rows, TrueRowView}
use Rattle.vsd_rule.specs.Casts.{Casts, TrueCastView}
use Rattle.vsd_rule.specs.Rule.{Whole, Rule, who_of, handle_seat, row_seat, cast_view}
use Rattle.vsd_rule.specs.Moves.{opening_handle_view, opening_row_view, opening_cast_view, opening_cursor, caller_view, noted, after_split, split_off}
use Rattle.vsd_rule.specs.declared.step.Act.TheVariants.{Split}
use Rattle.vsd_rule.specs.declared.step.Step.{Step}
use Rattle.vsd_rule.proofs.NewSeats.{new_true_handle_view, new_words, new_true_row_view, new_true_cast_view, none_there}

-- ---- one more of a list

-- where the i-th has become `left` and `right` is new, each is `left`, `right` or one that was there
data Which {A : Type 0} (l : List A) (i : ℕ) (left right : A) (j : ℕ) (b : A) : Type 0 where
  is_left : j ≡ i → left ≡ b → Which l i left right j b
  is_right : j ≡ length l → right ≡ b → Which l i left right j b
  is_other : j ≢ i → get_elem? l j ≡ some b → Which l i left right j b

module _ {A : Type 0} where
  pub at_end : (l : List A) (a b : A) (j : ℕ) → get_elem? (l ++ a ∷ []) j ≡ some b → (get_elem? l j ≡ some b) ⊎ ((j ≡ length l) × (a ≡ b))
  at_end [] a b zero e = inr (refl, some-injective a b e)
  at_end [] a b (suc j) e = absurd (some-ne-none b (sym e))
  at_end (x ∷ xs) a b zero e = inl e
  at_end (x ∷ xs) a b (suc j) e = ⊎_elim (λ (t : get_elem? xs j ≡ some b). inl t) (λ (t : (j ≡ length xs) × (a ≡ b)). inr (ap suc t.0, t.1)) (at_end xs a b j e)

  which : (l : List A) (i : ℕ) (left right : A) (j : ℕ) (b : A) → get_elem? (set l i left ++ right ∷ []) j ≡ some b → Which l i left right j b
  which l i left right j b e = ⊎_elim
      (λ (t : get_elem? (set l i left) j ≡ some b). ⊎_elim (λ (u : (j ≡ i) × (left ≡ b)). is_left u.0 u.1) (λ (u : (j ≢ i) × (get_elem? l j ≡ some b)). is_other u.0 u.1) (at_set l i j left b t))
      (λ (t : (j ≡ length (set l i left)) × (right ≡ b)). is_right (t.0 ∙ length-set l i left) t.1)
      (at_end (set l i left) right b j e)

  -- what holds of the two and of each other holds of each
  each_split : (P : ℕ → A → Type 0) (l : List A) (i : ℕ) (left right : A) → P i left → P (length l) right → ((j : ℕ) (b : A) → get_elem? l j ≡ some b → P j b)
      → (j : ℕ) (b : A) → get_elem? (set l i left ++ right ∷ []) j ≡ some b → P j b
  each_split P l i left right of_left of_right of_others j b e = go (which l i left right j b e)
    where
      go : Which l i left right j b → P j b
      go (is_left at is) = subst (λ (x : ℕ × A). P x.0 x.1) (λ c. (sym at c, is c)) of_left
      go (is_right at is) = subst (λ (x : ℕ × A). P x.0 x.1) (λ c. (sym at c, is c)) of_right
      go (is_other _ there) = of_others j b there

  split_length : (l : List A) (i : ℕ) (left right : A) → length (set l i left ++ right ∷ []) ≡ length l + 1
  split_length l i left right = length-append (set l i left) (right ∷ []) ∙ ap (λ (n : ℕ). n + 1) (length-set l i left)

map_split : {A B : Type 0} (f : A → B) (l : List A) (i : ℕ) (left right : A) → map f (set l i left ++ right ∷ []) ≡ set (map f l) i (f left) ++ f right ∷ []
map_split f l i left right = map-append f (set l i left) (right ∷ []) ∙ ap (λ xs. xs ++ f right ∷ []) (map-set f l i left)

-- ---- seats

module _ (s : Sizes) (whos : List Who) (id next : ℕ) (seats : Seats s whos) (at : get_elem? whos id ≡ some (Root next)) (small : next < s.callers) where
  abbrev Of : ℕ → Who → Type 0
  Of = Which whos id (Root (suc next)) (Caller next)

  split_differ : (i j number : ℕ) → Of i (Caller number) → Of j (Caller number) → i ≡ j
  split_differ i j number (is_left a e) other = absurd (cc)
  split_differ i j number one (is_left a e) = absurd (cc)
  split_differ i j number (is_right a e) (is_right b f) = omega arith
  split_differ i j number (is_right a e) (is_other p f) = let same : next ≡ number = cc in absurd (omega (arith, seats.before id j next number at f))
  split_differ i j number (is_other o e) (is_right b f) = let same : next ≡ number = cc in absurd (omega (arith, seats.before id i next number at e))
  split_differ i j number (is_other o e) (is_other p f) = seats.differ i j number e f

  split_one_root : (i j first other : ℕ) → Of i (Root first) → Of j (Root other) → i ≡ j
  split_one_root i j first other (is_right a e) y = absurd (cc)
  split_one_root i j first other x (is_right a e) = absurd (cc)
  split_one_root i j first other (is_left a e) (is_left b f) = omega arith
  split_one_root i j first other (is_left a e) (is_other p f) = a ∙ seats.one_root id j next other at f
  split_one_root i j first other (is_other o e) (is_left b f) = seats.one_root i id first next e at ∙ sym b
  split_one_root i j first other (is_other o e) (is_other p f) = seats.one_root i j first other e f

  split_next : (i first : ℕ) → Of i (Root first) → first ≤ s.callers
  split_next i first (is_left a e) = let same : suc next ≡ first = cc in omega arith
  split_next i first (is_right a e) = absurd (cc)
  split_next i first (is_other o e) = seats.next i first e

  split_before : (i j first number : ℕ) → Of i (Root first) → Of j (Caller number) → number < first
  split_before i j first number (is_right a e) y = absurd (cc)
  split_before i j first number x (is_left a e) = absurd (cc)
  split_before i j first number (is_left a e) (is_right b f) = let one : suc next ≡ first = cc in let two : next ≡ number = cc in omega arith
  split_before i j first number (is_left a e) (is_other p f) = let one : suc next ≡ first = cc in omega (arith, seats.before id j next number at f)
  split_before i j first number (is_other o e) (is_right b f) = absurd (o (seats.one_root i id first next e at))
  split_before i j first number (is_other o e) (is_other p f) = seats.before i j first number e f

  split_in_range : (i number : ℕ) → Of i (Caller number) → number < s.callers
  split_in_range i number (is_left a e) = absurd (cc)
  split_in_range i number (is_right a e) = let same : next ≡ number = cc in omega arith
  split_in_range i number (is_other o e) = seats.in_range i number e

  split_seats : Seats s (set whos id (Root (suc next)) ++ Caller next ∷ [])
  split_seats =
      let of = which whos id (Root (suc next)) (Caller next) in
      record {
        differ = λ i j number e f. split_differ i j number (of i (Caller number) e) (of j (Caller number) f);
        one_root = λ i j first other e f. split_one_root i j first other (of i (Root first) e) (of j (Root other) f);
        next = λ i first e. split_next i first (of i (Root first) e);
        before = λ i j first number e f. split_before i j first number (of i (Root first) e) (of j (Caller number) f);
        in_range = λ i number e. split_in_range i number (of i (Caller number) e);
      }

-- ---- handles, rows and casts

module _ (k : Key) (lawful : LawfulKey k) (gen : ℕ → ℕ) (name : ℕ → ℕ → ℕ) (id next : ℕ) (small : next < k.sizes.callers) where
  abbrev new_handle_seat : HandleSeat
  new_handle_seat = record { who = Caller next; handles = opening_handle_view k }

  module _ (words : List ℕ) (seats : List HandleSeat) (handles : HandleView) (n : Handles k gen name words seats) (at : get_elem? seats id ≡ some (record { who = Root next; handles = handles })) where
    abbrev left_handle_seat : HandleSeat
    left_handle_seat = record { who = Root (suc next); handles = handles }

    abbrev Knows : ℕ → HandleSeat → Type 0
    Knows seat d = TrueHandleView k gen name n.handle_word_of d

    split_handles : Handles k gen name words (set seats id left_handle_seat ++ new_handle_seat ∷ [])
    split_handles =
        let root = n.each id (record { who = Root next; handles = handles }) at in
        let left : TrueHandleView k gen name n.handle_word_of left_handle_seat = record { bindings = root.bindings; words = λ row past inside. root.words row (omega arith) inside } in
        let right = new_true_handle_view k gen name n.handle_word_of lawful (Caller next) n.row n.host (new_words k gen name n.handle_word_of next root.words small) in
        record {
          handle_word_of = n.handle_word_of;
          word = n.word;
          row = n.row;
          host = n.host;
          mortal = n.mortal;
          each = each_split Knows seats id left_handle_seat new_handle_seat left right (λ seat d there. n.each seat d there);
        }

  -- the first row that a new caller's search looks at is one of the rows
  new_cursor : 0 < k.sizes.rows → opening_cursor k next < k.sizes.rows
  new_cursor some_row =
      let less : next * k.sizes.rows < k.sizes.callers * k.sizes.rows = mul-lt-mul_of_pos_right small some_row in
      let turned : next * k.sizes.rows < k.sizes.rows * k.sizes.callers = omega (arith, less) in
      (div-lt_iff_lt-mul {k = k.sizes.callers} {x = next * k.sizes.rows} {y = k.sizes.rows} (omega arith)).1 turned

  abbrev new_row_seat : RowSeat
  new_row_seat = record { who = Caller next; rows = opening_row_view (opening_cursor k next) }

  module _ (epoch : ℕ) (pins cells words buckets : List ℕ) (seats : List RowSeat) (rows : RowView) (r : Rows k gen name epoch pins cells words buckets seats)
      (at : get_elem? seats id ≡ some (record { who = Root next; rows = rows })) where
    abbrev root_row_seat : RowSeat
    root_row_seat = record { who = Root next; rows = rows }

    abbrev left_row_seat : RowSeat
    left_row_seat = record { who = Root (suc next); rows = rows }

    abbrev TrueIn : ℕ → RowSeat → Type 0
    TrueIn seat d = TrueRowView k gen name r.state r.content epoch pins seat d

    left_true_row_view : TrueIn id left_row_seat
    left_true_row_view = let m = r.each id root_row_seat at in record {
      pin = (m.pin.0, λ caller past inside. m.pin.1 caller (omega arith) inside);
      pinned = m.pinned;
      loaded = m.loaded;
      cursor = m.cursor;
      keepings = m.keepings;
      stored = m.stored;
      limbo = m.limbo;
      once = m.once;
      room = m.room;
      passed = m.passed;
      protects = m.protects;
      evidences = m.evidences;
    }

    right_true_row_view : TrueIn (length seats) new_row_seat
    right_true_row_view = let m = r.each id root_row_seat at in
        new_true_row_view k gen name r.state r.content epoch pins (length seats) (Caller next) (opening_cursor k next) (m.pin.1 next (omega arith) small) new_cursor
        (λ row keeping h e. absurd (omega (arith, r.keeper row (length seats) keeping h e)))

    -- the oldest row in limbo of the one isn't protected by the other, where the one has passed it
    abbrev Passes : RowSeat → RowSeat → Type 0
    Passes d e = (number i : ℕ) (x : RetiredRow) (y : ProtectedRow) → e.who ≡ Caller number → number < d.rows.passed → get_elem? d.rows.limbo 0 ≡ some x → get_elem? e.rows.protected i ≡ some y
        → 0 < e.rows.pinned → y.row ≢ x.row

    passes : (seat other : ℕ) (d e : RowSeat) → get_elem? seats seat ≡ some d → get_elem? seats other ≡ some e → Passes d e
    passes seat other d e one two number i x y is passed oldest sees pinned = r.swept seat other number i d e x y one two is passed oldest sees pinned

    root_passes_none : (d : RowSeat) → Passes d left_row_seat
    root_passes_none d number i x y is passed oldest sees pinned = absurd (cc)

    new_sees_none : (d : RowSeat) → Passes d new_row_seat
    new_sees_none d number i x y is passed oldest sees pinned = absurd (none_there y i sees)

    new_passes_none : (e : RowSeat) → Passes new_row_seat e
    new_passes_none e number i x y is passed oldest sees pinned = absurd (omega arith)

    left_passes : (other : ℕ) (e : RowSeat) → get_elem? seats other ≡ some e → Passes left_row_seat e
    left_passes other e there number i x y is passed oldest sees pinned = r.swept id other number i root_row_seat e x y at there is passed oldest sees pinned

    abbrev split_row_seats : List RowSeat
    split_row_seats = set seats id left_row_seat ++ new_row_seat ∷ []

    passes_others : (d : RowSeat) → ((other : ℕ) (e : RowSeat) → get_elem? seats other ≡ some e → Passes d e) → (other : ℕ) (e : RowSeat) → get_elem? split_row_seats other ≡ some e → Passes d e
    passes_others d others = each_split (λ other e. Passes d e) seats id left_row_seat new_row_seat (root_passes_none d) (new_sees_none d) others

    split_swept : (seat : ℕ) (d : RowSeat) → get_elem? split_row_seats seat ≡ some d → (other : ℕ) (e : RowSeat) → get_elem? split_row_seats other ≡ some e → Passes d e
    split_swept = each_split (λ seat d. (other : ℕ) (e : RowSeat) → get_elem? split_row_seats other ≡ some e → Passes d e) seats id left_row_seat new_row_seat
        (passes_others left_row_seat left_passes) (λ other e there. new_passes_none e) (λ seat d one. passes_others d (λ other e two. passes seat other d e one two))

    split_rows : Rows k gen name epoch pins cells words buckets split_row_seats
    split_rows = record {
      state = r.state;
      content = r.content;
      cell_word = r.cell_word;
      epoch_small = r.epoch_small;
      row = r.row;
      keeper = λ row seat keeping h e. omega (arith, r.keeper row seat keeping h e, split_length seats id left_row_seat new_row_seat);
      cell = r.cell;
      cell_names = r.cell_names;
      cell_named = r.cell_named;
      bucket_names = r.bucket_names;
      bucket_named = r.bucket_named;
      each = each_split TrueIn seats id left_row_seat new_row_seat left_true_row_view right_true_row_view r.each;
      swept = λ seat other number i d e x y one two is passed oldest sees pinned. split_swept seat d one other e two number i x y is passed oldest sees pinned;
    }

  module _ (region : ℕ) (words : List ℕ) (seats : List CastView) (d : CastView) (c : Casts k gen name region words seats) (at : get_elem? seats id ≡ some d) where
    abbrev TrueCast : ℕ → CastView → Type 0
    TrueCast seat d = TrueCastView k gen name c.writer c.content words seat d

    split_casts : Casts k gen name region words (set seats id d ++ opening_cast_view ∷ [])
    split_casts =
        let right = new_true_cast_view k gen name c.writer c.content words (length seats) (λ row h e. absurd (omega (arith, c.keeper row (length seats) h e))) in
        record {
          writer = c.writer;
          content = c.content;
          region_in = c.region_in;
          row = c.row;
          keeper = λ row seat h e. omega (arith, c.keeper row seat h e, split_length seats id d opening_cast_view);
          each = each_split TrueCast seats id d opening_cast_view (c.each id d at) right c.each;
        }

-- ---- the whole

module _ (k : Key) (z : Zones) (views : List View) (id next : ℕ) (v : View) (log : List Step) (w : Whole k z views) (at : get_elem? views id ≡ some v) (is : v.who ≡ Root next)
    (small : next < k.sizes.callers) where
  abbrev left_view : View
  left_view = record v { who = Root (suc next); steps = log }

  abbrev split_views : List View
  split_views = set views id left_view ++ caller_view k next ∷ []

  root_handle_seat : get_elem? (map handle_seat views) id ≡ some (record { who = Root next; handles = v.handles })
  root_handle_seat = at_map handle_seat views id v at ∙ ap (λ (who : Who). some (record { who = who; handles = v.handles })) is

  root_row_seat_there : get_elem? (map row_seat views) id ≡ some (record { who = Root next; rows = v.rows })
  root_row_seat_there = at_map row_seat views id v at ∙ ap (λ (who : Who). some (record { who = who; rows = v.rows })) is

  split_keyed : (seat : ℕ) (u : View) → get_elem? split_views seat ≡ some u → u.key ≡ k
  split_keyed = each_split (λ seat u. u.key ≡ k) views id left_view (caller_view k next) (w.keyed id v at) refl w.keyed

  whole_split : Whole k z split_views
  whole_split = record {
    lawful = w.lawful;
    gen = w.gen;
    name = w.name;
    keyed = split_keyed;
    seats = subst (Seats k.sizes) (sym (map_split who_of views id left_view (caller_view k next)))
        (split_seats k.sizes (map who_of views) id next w.seats (at_map who_of views id v at ∙ ap some is) small);
    handles = subst (Handles k w.gen w.name z.handles) (sym (map_split handle_seat views id left_view (caller_view k next)))
        (split_handles k w.lawful w.gen w.name id next small z.handles (map handle_seat views) v.handles w.handles root_handle_seat);
    rows = subst (Rows k w.gen w.name z.epoch z.pins z.cells z.rows z.buckets) (sym (map_split row_seat views id left_view (caller_view k next)))
        (split_rows k w.lawful w.gen w.name id next small z.epoch z.pins z.cells z.rows z.buckets (map row_seat views) v.rows w.rows root_row_seat_there);
    casts = subst (Casts k w.gen w.name z.region z.casts) (sym (map_split cast_view views id left_view (caller_view k next)))
        (split_casts k w.lawful w.gen w.name id next small z.region z.casts (map cast_view views) v.casts w.casts (at_map cast_view views id v at));
  }

-- the rule is kept where the root splits a seat off for the next caller
pub split_keeps : (k : Key) (words : List ℕ) (views : List View) (id : ℕ) (v : View) (next : ℕ) → Rule k words views → get_elem? views id ≡ some v → v.who ≡ Root next → next < k.sizes.callers
    → Rule k words (set views id (after_split v) ++ split_off v ∷ [])
split_keeps k words views id v next rule at is small =
    let caller : caller_of v.who ≡ next = ap caller_of is in
    let left : record v { who = Root (suc next); steps = noted v Split 0 } ≡ after_split v = ap (λ (n : ℕ). record v { who = Root (suc n); steps = noted v Split 0 }) (sym caller) in
    let right : caller_view k next ≡ split_off v = ap (λ (n : ℕ). caller_view k n) (sym caller) ∙ ap (λ (key : Key). caller_view key (caller_of v.who)) (sym (rule.whole.keyed id v at)) in
    let whole = whole_split k (zones k.sizes words) views id next v (noted v Split 0) rule.whole at is small in
    record {
      sized = rule.sized;
      whole = subst (λ (x : View × View). Whole k (zones k.sizes words) (set views id x.0 ++ x.1 ∷ [])) (λ c. (left c, right c)) whole;
    }
