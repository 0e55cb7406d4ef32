-- The rule holds at opening, of the words that opening writes and the root's view.
use Rattle.std.proofs.Common.{◌≡◌, ⊎_elim, ℕ, ◌+◌, ◌-◌, ◌*◌, ◌%◌, ◌<◌, ◌≤◌, Bool, false, cond, List, [], ◌∷◌, ◌++◌, map, length, replicate, get_or, ap, sym, refl, ◌∙◌, subst, arith, Option, None, length-append}
use mathlib.Core.Option.{some}
use lib.ListN.{get_elem?}
use Rattle.std.specs.Prelude.{nat_lt}
use Rattle.std.proofs.lemmas.Bool.{cases_lt, lt-ltb, le-ltb}
use Rattle.std.proofs.lemmas.List.{length-map, length-replicate, get_or-replicate, get_or-map, get_or_append_left, get_or-append_right}
use Rattle.vsd_words.specs.declared.handle_word.HandleWord.{HandleWord}
use Rattle.vsd_words.specs.declared.cell_word.CellWord.TheVariants.{Lookup}
use Rattle.vsd_words.specs.Handle.{packed_handle}
use Rattle.vsd_words.specs.HandleWord.{packed_handle_word, IsHandleWordPacking}
use Rattle.vsd_words.specs.CastWord.{packed_cast}
use Rattle.vsd_rule.specs.declared.sizes.Sizes.{Sizes}
use Rattle.vsd_rule.specs.declared.key.Key.{Key}
use Rattle.vsd_rule.specs.declared.cast_view.CastView.{CastView}
use Rattle.vsd_rule.specs.declared.view.View.{View}
use Rattle.vsd_rule.specs.declared.view.Who.TheVariants.{Root, Caller}
use Rattle.vsd_rule.specs.Layout.{cells_from, rows_from, buckets_from, handles_from, handle_rows, casts_from, cast_rows, word_count}
use Rattle.vsd_rule.specs.Lists.{LawfulKey, host_type}
use Rattle.vsd_rule.specs.Zones.{Zones, zones, window}
use Rattle.vsd_rule.specs.Seats.{Seats}
use Rattle.vsd_rule.specs.Handles.{HandleSeat, Handles, HandleRow, blank_word, host_word, handle, TrueHandleView}
use Rattle.vsd_rule.specs.Rows.{RowSeat, Rows, Row, RowState, free, Content, TrueRowView}
use Rattle.vsd_rule.specs.Casts.{Casts, CastRow, CastContent, TrueCastView}
use Rattle.vsd_rule.specs.Rule.{Whole, Rule, handle_seat, row_seat}
use Rattle.vsd_rule.specs.Moves.{root_view, opening_cast_view}
use Rattle.vsd_rule.specs.Opening.{host_packing, opening_words}
use Rattle.vsd_rule.proofs.Windows.{window_at, eighth_at}
use Rattle.vsd_rule.proofs.NewSeats.{only, new_true_handle_view, new_true_row_view, new_true_cast_view}

-- the first n words of a list are 0
abbrev Blank : ℕ → List ℕ → Type 0
Blank n words = (i : ℕ) → i < n → get_or words i 0 ≡ 0

-- ---- seats

opening_seats : (s : Sizes) → Seats s (Root 0 ∷ [])
opening_seats s = record {
  differ = λ i j number e f. omega (arith, (only (Root 0) (Caller number) i e).0, (only (Root 0) (Caller number) j f).0);
  one_root = λ i j next other e f. omega (arith, (only (Root 0) (Root next) i e).0, (only (Root 0) (Root other) j f).0);
  next = λ i next e. let is = (only (Root 0) (Root next) i e).1 in let z : 0 ≡ next = cc in omega arith;
  before = λ i j next number e f. let is = (only (Root 0) (Caller number) j f).1 in absurd (cc);
  in_range = λ i number e. let is = (only (Root 0) (Caller number) i e).1 in absurd (cc);
}

-- ---- handles

module _ (k : Key) where
  opening_gen : ℕ → ℕ
  opening_gen row = cond (nat_lt row k.sizes.hosts) 1 0

  opening_name : ℕ → ℕ → ℕ
  opening_name row generation = host_type k row

  opening_handle_word : ℕ → HandleWord
  opening_handle_word row = cond (nat_lt row k.sizes.hosts) (host_word k row) blank_word

  gen_of_host : (row : ℕ) → row < k.sizes.hosts → opening_gen row ≡ 1
  unfolding opening_gen
  gen_of_host row h = ap (λ (b : Bool). cond b 1 0) (lt-ltb row k.sizes.hosts h)

  gen_of_other : (row : ℕ) → k.sizes.hosts ≤ row → opening_gen row ≡ 0
  unfolding opening_gen
  gen_of_other row h = ap (λ (b : Bool). cond b 1 0) (le-ltb row k.sizes.hosts h)

  shows_host : (row : ℕ) → row < k.sizes.hosts → opening_handle_word row ≡ host_word k row
  unfolding opening_handle_word
  shows_host row h = ap (λ (b : Bool). cond b (host_word k row) blank_word) (lt-ltb row k.sizes.hosts h)

  shows_other : (row : ℕ) → k.sizes.hosts ≤ row → opening_handle_word row ≡ blank_word
  unfolding opening_handle_word
  shows_other row h = ap (λ (b : Bool). cond b (host_word k row) blank_word) (le-ltb row k.sizes.hosts h)

  -- the words of hosts, and then blank ones
  record OpeningHandles (words : List ℕ) : Type 0 where
    pub hosts : (host : ℕ) → host < k.sizes.hosts → get_or words host 0 ≡ host_packing (host_type k host)
    pub others : (row : ℕ) → k.sizes.hosts ≤ row → row < handle_rows k.sizes → get_or words row 0 ≡ 0

  host_packs : LawfulKey k → (words : List ℕ) → OpeningHandles words → (row : ℕ) → row < k.sizes.hosts → IsHandleWordPacking (host_word k row) (get_or words row 0)
  host_packs lawful words opened row h = record { in_range = record { generation = omega arith; number = lawful.numbers row }; packed = opened.hosts row h }

  blank_packs : (word : ℕ) → word ≡ 0 → IsHandleWordPacking blank_word word
  unfolding packed_handle_word
  blank_packs word e = record { in_range = record { generation = omega arith; number = omega arith }; packed = e }

  opening_packs : LawfulKey k → (words : List ℕ) → OpeningHandles words → (row : ℕ) → row < handle_rows k.sizes → IsHandleWordPacking (opening_handle_word row) (get_or words row 0)
  opening_packs lawful words opened row inside = ⊎_elim
      (λ (h : row < k.sizes.hosts). subst (λ (w : HandleWord). IsHandleWordPacking w (get_or words row 0)) (sym (shows_host row h)) (host_packs lawful words opened row h))
      (λ (h : k.sizes.hosts ≤ row). subst (λ (w : HandleWord). IsHandleWordPacking w (get_or words row 0)) (sym (shows_other row h)) (blank_packs (get_or words row 0) (opened.others row h inside)))
      (cases_lt row k.sizes.hosts)

  opening_handle_row : LawfulKey k → (row : ℕ) → HandleRow k opening_gen opening_name opening_handle_word row
  unfolding opening_name
  opening_handle_row lawful row = ⊎_elim
      (λ (h : row < k.sizes.hosts). let gen = gen_of_host row h in let is = shows_host row h in record {
        generation = ap (λ (w : HandleWord). w.generation) is ∙ sym gen;
        nothing = λ e. absurd (omega arith);
        typed = λ e. subst (λ (w : HandleWord). w.number < k.world.types) (sym is) (lawful.types row h);
        number = λ e. ap (λ (w : HandleWord). w.number) is;
      })
      (λ (h : k.sizes.hosts ≤ row). let gen = gen_of_other row h in let is = shows_other row h in record {
        generation = ap (λ (w : HandleWord). w.generation) is ∙ sym gen;
        nothing = λ e. is;
        typed = λ e. absurd (omega arith);
        number = λ e. absurd (omega arith);
      })
      (cases_lt row k.sizes.hosts)

  opening_handles : LawfulKey k → (words : List ℕ) → OpeningHandles words → Handles k opening_gen opening_name words (handle_seat (root_view k) ∷ [])
  opening_handles lawful words opened = record {
    handle_word_of = opening_handle_word;
    word = opening_packs lawful words opened;
    row = λ row inside. opening_handle_row lawful row;
    host = shows_host;
    mortal = λ row h inside. ap (λ (w : HandleWord). w.immortal) (shows_other row h);
    each = λ seat d e. subst (λ (d : HandleSeat). TrueHandleView k opening_gen opening_name opening_handle_word d) (only (handle_seat (root_view k)) d seat e).1
        (new_true_handle_view k opening_gen opening_name opening_handle_word lawful (Root 0) (λ row inside. opening_handle_row lawful row) shows_host (λ row h inside. shows_other row (omega arith)));
  }

  -- ---- rows

  no_content : Content
  no_content = record { handle = handle 0 0; token = 0; target = 0 }

  all_free : ℕ → RowState
  all_free row = free

  none_filled : ℕ → Content
  none_filled row = no_content

  opening_row : (gen : ℕ → ℕ) (name : ℕ → ℕ → ℕ) → 0 < k.sizes.callers → (words : List ℕ) → Blank (4 * k.sizes.rows) words → (row : ℕ) → row < k.sizes.rows
      → Row k gen name all_free none_filled words row
  unfolding all_free none_filled no_content packed_handle
  opening_row gen name some_caller words blank row h = record {
    unclaimed = λ e. blank (4 * row) (omega arith);
    claimed = λ other. absurd (other refl);
    handle = record { in_range = record { row = omega arith; generation = omega arith }; packed = blank (4 * row + 1) (omega arith) };
    token = blank (4 * row + 2) (omega arith);
    target = blank (4 * row + 3) (omega arith);
    handle_row = omega arith;
    old = omega arith;
    token_fits = omega arith;
    target_fits = omega arith;
    agrees = λ never. absurd never;
  }

  opening_true_row_view : (gen : ℕ → ℕ) (name : ℕ → ℕ → ℕ) (pins : List ℕ) → Blank k.sizes.callers pins → (seat : ℕ)
      → TrueRowView k gen name all_free none_filled 0 pins seat (row_seat (root_view k))
  unfolding all_free
  opening_true_row_view gen name pins blank seat =
      new_true_row_view k gen name all_free none_filled 0 pins seat (Root 0) 0 (refl, λ caller h inside. blank caller inside) (λ h. h) (λ row keeping h e. absurd (cc))

  opening_rows : (gen : ℕ → ℕ) (name : ℕ → ℕ → ℕ) → 0 < k.sizes.callers → (pins cells words buckets : List ℕ) → Blank k.sizes.callers pins → Blank k.sizes.sites cells
      → Blank (4 * k.sizes.rows) words → Blank k.sizes.buckets buckets → Rows k gen name 0 pins cells words buckets (row_seat (root_view k) ∷ [])
  unfolding all_free
  opening_rows gen name some_caller pins cells words buckets no_pins no_cells no_words no_buckets = record {
    state = all_free;
    content = none_filled;
    cell_word = λ site. Lookup;
    epoch_small = omega arith;
    row = opening_row gen name some_caller words no_words;
    keeper = λ row seat keeping h e. absurd (cc);
    cell = λ site h. record { in_range = tt; packed = no_cells site h };
    cell_names = λ site row h e. absurd (cc);
    cell_named = λ site row h e. absurd (cc);
    bucket_names = λ bucket row h e. let z = no_buckets bucket h in absurd (omega arith);
    bucket_named = λ bucket row h e. absurd (cc);
    each = λ seat d e. subst (λ (d : RowSeat). TrueRowView k gen name all_free none_filled 0 pins seat d) (only (row_seat (root_view k)) d seat e).1
        (opening_true_row_view gen name pins no_pins seat);
    swept = λ seat other number i d e x y at there is passed oldest sees pinned same. let who = ap (λ (r : RowSeat). r.who) (only (row_seat (root_view k)) e other there).1 in absurd (cc);
  }

  -- ---- casts

  no_writer : ℕ → Option ℕ
  no_writer row = None

  no_cast : CastContent
  no_cast = record { source = handle 0 0; word = record { target = handle 0 0; yes = false } }

  none_cast : ℕ → CastContent
  none_cast row = no_cast

  opening_cast_row : (gen : ℕ → ℕ) (name : ℕ → ℕ → ℕ) → 0 < k.sizes.callers → (words : List ℕ) → Blank (3 * cast_rows k.sizes) words → (row : ℕ) → row < cast_rows k.sizes
      → CastRow k gen name no_writer none_cast words row
  unfolding no_writer none_cast no_cast packed_handle packed_cast
  opening_cast_row gen name some_caller words blank row h =
      let version : get_or words (3 * row) 0 ≡ 0 = blank (3 * row) (omega arith) in
      record {
        even = λ e. ap (λ (v : ℕ). v % 2) version;
        odd = λ seat e. absurd (cc);
        small = omega arith;
        source = record { in_range = record { row = omega arith; generation = omega arith }; packed = blank (3 * row + 1) (omega arith) };
        word = record { in_range = record { row = omega arith; generation = omega arith }; packed = blank (3 * row + 2) (omega arith) };
        source_old = record { row = omega arith; old = omega arith };
        target_old = record { row = omega arith; old = omega arith };
        agrees = λ e some_version. absurd (omega arith);
      }

  opening_casts : (gen : ℕ → ℕ) (name : ℕ → ℕ → ℕ) → 0 < k.sizes.callers → 0 < k.sizes.regions → (words : List ℕ) → Blank (3 * cast_rows k.sizes) words
      → Casts k gen name 0 words (opening_cast_view ∷ [])
  unfolding no_writer
  opening_casts gen name some_caller some_region words blank = record {
    writer = no_writer;
    content = none_cast;
    region_in = some_region;
    row = opening_cast_row gen name some_caller words blank;
    keeper = λ row seat h e. absurd (cc);
    each = λ seat d e. subst (λ (d : CastView). TrueCastView k gen name no_writer none_cast words seat d) (only opening_cast_view d seat e).1
        (new_true_cast_view k gen name no_writer none_cast words seat (λ row h e. absurd (cc)));
  }

  -- ---- the words

  -- what is below the handle words is 0
  low_word : (i : ℕ) → i < handles_from k.sizes → get_or (opening_words k) i 0 ≡ 0
  unfolding opening_words
  low_word i h =
      let n : ℕ = handles_from k.sizes in
      let zeros : length (replicate {A = ℕ} n 0) ≡ n = length-replicate n 0 in
      get_or_append_left (replicate n 0) (map host_packing k.world.host_types ++ replicate (64 * k.sizes.callers + 1 + 3 * cast_rows k.sizes) 0) 0 i (omega arith) ∙ get_or-replicate n i 0 0 h

  after_low : (j : ℕ) → get_or (opening_words k) (handles_from k.sizes + j) 0 ≡ get_or (map host_packing k.world.host_types ++ replicate (64 * k.sizes.callers + 1 + 3 * cast_rows k.sizes) 0) j 0
  unfolding opening_words
  after_low j =
      let n : ℕ = handles_from k.sizes in
      let rest : List ℕ = map host_packing k.world.host_types ++ replicate (64 * k.sizes.callers + 1 + 3 * cast_rows k.sizes) 0 in
      get_or-append_right (replicate n 0) rest n (n + j) 0 (length-replicate n 0) (omega arith) ∙ ap (λ (z : ℕ). get_or rest z 0) (omega arith)

  host_word_there : LawfulKey k → (host : ℕ) → host < k.sizes.hosts → get_or (opening_words k) (handles_from k.sizes + host) 0 ≡ host_packing (host_type k host)
  host_word_there lawful host h =
      let types : List ℕ = k.world.host_types in
      let inside : host < length types = omega (arith, lawful.hosts) in
      after_low host ∙ (get_or_append_left (map host_packing types) (replicate (64 * k.sizes.callers + 1 + 3 * cast_rows k.sizes) 0) 0 host (omega (arith, length-map types host_packing))
      ∙ get_or-map host_packing types host 0 0 inside)

  -- what is past the hosts' words is 0
  high_word : LawfulKey k → (j : ℕ) → k.sizes.hosts ≤ j → j < handle_rows k.sizes + 1 + 3 * cast_rows k.sizes → get_or (opening_words k) (handles_from k.sizes + j) 0 ≡ 0
  high_word lawful j past inside =
      let types : List ℕ = k.world.host_types in
      let m : ℕ = 64 * k.sizes.callers + 1 + 3 * cast_rows k.sizes in
      let n : ℕ = k.sizes.hosts in
      let e : length (map host_packing types) ≡ n = length-map types host_packing ∙ lawful.hosts in
      after_low j ∙ (get_or-append_right (map host_packing types) (replicate m 0) n j 0 e past ∙ get_or-replicate m (j - n) 0 0 (omega arith))

  opening_length : LawfulKey k → length (opening_words k) ≡ word_count k.sizes
  unfolding opening_words
  opening_length lawful =
      let types : List ℕ = k.world.host_types in
      let m : ℕ = 64 * k.sizes.callers + 1 + 3 * cast_rows k.sizes in
      let n : ℕ = handles_from k.sizes in
      let a = length-append (replicate n 0) (map host_packing types ++ replicate m 0) in
      let b = length-append (map host_packing types) (replicate m 0) in
      let c : length (replicate {A = ℕ} n 0) ≡ n = length-replicate n 0 in
      let d : length (replicate {A = ℕ} m 0) ≡ m = length-replicate m 0 in
      omega (arith, length-map types host_packing, lawful.hosts)

  -- ---- the zones

  blank_window : (words : List ℕ) (a n : ℕ) → ((i : ℕ) → i < n → get_or words (a + i) 0 ≡ 0) → Blank n (window a n words)
  blank_window words a n zeros i h = window_at a n i words h ∙ zeros i h

  blank_pins : Blank k.sizes.callers (zones k.sizes (opening_words k)).pins
  unfolding zones
  blank_pins i h = eighth_at 8 k.sizes.callers i (opening_words k) h ∙ low_word (8 + 8 * i) (omega arith)

  blank_cells : Blank k.sizes.sites (zones k.sizes (opening_words k)).cells
  unfolding zones
  blank_cells = blank_window (opening_words k) (cells_from k.sizes) k.sizes.sites (λ i h. low_word (cells_from k.sizes + i) (omega arith))

  blank_rows : Blank (4 * k.sizes.rows) (zones k.sizes (opening_words k)).rows
  unfolding zones
  blank_rows = blank_window (opening_words k) (rows_from k.sizes) (4 * k.sizes.rows) (λ i h. low_word (rows_from k.sizes + i) (omega arith))

  blank_buckets : Blank k.sizes.buckets (zones k.sizes (opening_words k)).buckets
  unfolding zones
  blank_buckets = blank_window (opening_words k) (buckets_from k.sizes) k.sizes.buckets (λ i h. low_word (buckets_from k.sizes + i) (omega arith))

  epoch_zero : (zones k.sizes (opening_words k)).epoch ≡ 0
  unfolding zones
  epoch_zero = low_word 0 (omega arith)

  region_zero : LawfulKey k → (zones k.sizes (opening_words k)).region ≡ 0
  unfolding zones
  region_zero lawful = high_word lawful (handle_rows k.sizes) (omega arith) (omega arith)

  blank_casts : LawfulKey k → Blank (3 * cast_rows k.sizes) (zones k.sizes (opening_words k)).casts
  unfolding zones
  blank_casts lawful = blank_window (opening_words k) (casts_from k.sizes) (3 * cast_rows k.sizes) (λ i h.
      ap (λ (z : ℕ). get_or (opening_words k) z 0) (omega arith) ∙ high_word lawful (handle_rows k.sizes + 1 + i) (omega arith) (omega arith))

  opening_handle_words : LawfulKey k → OpeningHandles (zones k.sizes (opening_words k)).handles
  unfolding zones
  opening_handle_words lawful = record {
    hosts = λ host h. window_at (handles_from k.sizes) (handle_rows k.sizes) host (opening_words k) (omega arith) ∙ host_word_there lawful host h;
    others = λ row past inside. window_at (handles_from k.sizes) (handle_rows k.sizes) row (opening_words k) inside ∙ high_word lawful row past (omega arith);
  }

  -- ---- the whole

  opening_keyed : (seat : ℕ) (v : View) → get_elem? (root_view k ∷ []) seat ≡ some v → v.key ≡ k
  opening_keyed seat v e = ap (λ (v : View). v.key) (sym (only (root_view k) v seat e).1)

  opening_whole : LawfulKey k → Whole k (zones k.sizes (opening_words k)) (root_view k ∷ [])
  opening_whole lawful =
      let s : Sizes = k.sizes in
      let z : Zones = zones k.sizes (opening_words k) in
      let rows = opening_rows opening_gen opening_name lawful.sizes.counts.some_caller z.pins z.cells z.rows z.buckets blank_pins blank_cells blank_rows blank_buckets in
      let casts = opening_casts opening_gen opening_name lawful.sizes.counts.some_caller lawful.sizes.counts.some_region z.casts (blank_casts lawful) in
      record {
        lawful = lawful;
        gen = opening_gen;
        name = opening_name;
        keyed = opening_keyed;
        seats = opening_seats s;
        handles = opening_handles lawful z.handles (opening_handle_words lawful);
        rows = subst (λ (epoch : ℕ). Rows k opening_gen opening_name epoch z.pins z.cells z.rows z.buckets (row_seat (root_view k) ∷ [])) (sym epoch_zero) rows;
        casts = subst (λ (region : ℕ). Casts k opening_gen opening_name region z.casts (opening_cast_view ∷ [])) (sym (region_zero lawful)) casts;
      }

  pub opening_holds : LawfulKey k → Rule k (opening_words k) (root_view k ∷ [])
  opening_holds lawful = record { sized = opening_length lawful; whole = opening_whole lawful }
