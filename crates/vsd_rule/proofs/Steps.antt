-- What the steps on handle words keep: the whole rule, over the words of a table.
use Rattle.std.proofs.Common.{◌≡◌, ◌≢◌, ℕ, zero, suc, ◌+◌, ◌-◌, ◌<◌, ◌≤◌, true, false, List, [], ◌∷◌, map, get_or, set, ap, sym, refl, ◌∙◌, subst, ⊎_elim, arith, length-set}
use Rattle.std.proofs.lemmas.List.{map-set}
use mathlib.Core.Option.{some, some-injective, some-ne-none}
use lib.ListN.{get_elem?}
use Rattle.atomic_table.proofs.Lists.{at_set, at_map}
use Rattle.vsd_words.specs.declared.handle_word.HandleWord.{HandleWord}
use Rattle.vsd_words.specs.HandleWord.{IsHandleWordPacking}
use Rattle.vsd_rule.specs.declared.key.Key.{Key}
use Rattle.vsd_rule.specs.declared.sizes.Sizes.{Sizes}
use Rattle.vsd_rule.specs.declared.handle_view.Binding.{Binding}
use Rattle.vsd_rule.specs.declared.handle_view.HandleView.{HandleView}
use Rattle.vsd_rule.specs.declared.view.View.{View}
use Rattle.vsd_rule.specs.declared.view.Who.{Who}
use Rattle.vsd_rule.specs.declared.view.Who.TheVariants.{Root, Caller}
use Rattle.vsd_rule.specs.Layout.{handle_rows, first_row, handles_from}
use Rattle.vsd_rule.specs.Zones.{Zones, zones}
use Rattle.vsd_rule.specs.Seats.{Seats, caller_of, is_caller}
use Rattle.vsd_rule.specs.Handles.{HandleSeat, Handles, IsBinding, AreBindings, HandleRow, TrueHandleView, KnowsWords, own_word, host_word, handle, binding_for, owned_word}
use Rattle.vsd_rule.specs.Rows.{Rows}
use Rattle.vsd_rule.specs.Casts.{Casts}
use Rattle.vsd_rule.specs.Rule.{Whole, Rule, who_of, handle_seat, row_seat, cast_view}
use Rattle.vsd_rule.specs.Moves.{own_index, after_load_handle, after_bind, after_unbind}
use Rattle.vsd_rule.specs.Facts.{Knows, KnowsOneBinding, IsOwn, FindsHandle}
use Rattle.vsd_rule.proofs.Points.{put_else, unseen_set}
use Rattle.vsd_rule.proofs.Windows.{handles_length, handle_at, handle_written}
use Rattle.vsd_rule.proofs.HandleSteps.{Grows, grows_none, Apart, bindings_grow, load_keeps_handles, store_keeps_handles, bound_gen, bound_name, bind_grows, bound_row, bound_name_is, unbound_row}
use Rattle.vsd_rule.proofs.Stills.{rows_still, casts_still}

-- the list of what is seen of each view, at a seat
pub at_seen : {A : Type 0} (f : View → A) (views : List View) (id : ℕ) (v : View) → get_elem? views id ≡ some v → get_elem? (map f views) id ≡ some (f v)
at_seen f views id v at = at_map f views id v at

-- a binding that a list has is one of the rule's
pub binding_of_known : (k : Key) (gen : ℕ → ℕ) (name : ℕ → ℕ → ℕ) (xs : List Binding) → AreBindings k gen name xs → (i : ℕ) (x : Binding) → get_elem? xs i ≡ some x → IsBinding k gen name x
binding_of_known k gen name [] all i x is = absurd (some-ne-none x (sym is))
binding_of_known k gen name (y ∷ ys) all zero x is = subst (IsBinding k gen name) (some-injective y x is) all.0
binding_of_known k gen name (y ∷ ys) all (suc i) x is = binding_of_known k gen name ys all.1 i x is

-- two bindings of one handle are one
one_binding : (k : Key) (gen : ℕ → ℕ) (name : ℕ → ℕ → ℕ) (n : HandleView) → AreBindings k gen name n.bindings → KnowsOneBinding n
one_binding k gen name n all h number other knows knows_other =
    let a = binding_of_known k gen name n.bindings all knows.0 (binding_for h number) knows.1 in
    let b = binding_of_known k gen name n.bindings all knows_other.0 (binding_for h other) knows_other.1 in
    a.number ∙ sym b.number

-- whose the seats are, by any part of what they know
pub whos_of : {A : Type 0} (f : View → A) (who : A → Who) → ((v : View) → who (f v) ≡ v.who) → (views : List View) → map who (map f views) ≡ map who_of views
whos_of f who same [] = refl
whos_of f who same (v ∷ vs) = λ c. same v c ∷ whos_of f who same vs c

-- no other seat knows the words of this caller
pub apart_of : (s : Sizes) (whos : List Who) → Seats s whos → (id caller : ℕ) → get_elem? whos id ≡ some (Caller caller) → (seat : ℕ) (who : Who) → seat ≢ id → get_elem? whos seat ≡ some who → Apart caller who
apart_of s whos seats id caller at seat (Root next) other there = seats.before seat id next caller there at
apart_of s whos seats id caller at seat (Caller number) other there =
    λ same. other (seats.differ seat id caller (there ∙ ap (λ (c : ℕ). some (Caller c)) same) at)

-- where one of a caller's own rows lies
pub record OwnIndex (k : Key) (v : View) (row : ℕ) : Type 0 where
  pub caller : ℕ
  pub index : ℕ
  pub small : index < 64
  pub who : v.who ≡ Caller caller
  pub row_is : first_row k.sizes caller + index ≡ row
  pub index_is : index ≡ own_index v row

-- whose seat a caller's is
pub who_is : (who : Who) → is_caller who ≡ true → who ≡ Caller (caller_of who)
who_is (Root next) is = absurd (cc)
who_is (Caller number) is = refl

pub own_index_of : (k : Key) (v : View) (row : ℕ) → v.key ≡ k → IsOwn v row → OwnIndex k v row
own_index_of k v row key own =
    let caller : ℕ = caller_of v.who in
    let from : first_row k.sizes caller ≤ row = subst (λ (q : Key). first_row q.sizes caller ≤ row) key own.from in
    let to : row < first_row k.sizes caller + 64 = subst (λ (q : Key). row < first_row q.sizes caller + 64) key own.to in
    record {
      caller = caller;
      index = row - first_row k.sizes caller;
      small = omega arith;
      who = who_is v.who own.caller;
      row_is = omega arith;
      index_is = λ c. row - first_row (sym key c).sizes caller;
    }

module _ (k : Key) where
  -- A step that changes the handle words and what its seat knows of them alone. More handles may be bound
  pub whole_by_handles : (z : Zones) (views : List View) (w : Whole k z views) (gen' : ℕ → ℕ) (name' : ℕ → ℕ → ℕ) → Grows w.gen w.name gen' name' → (words : List ℕ) (id : ℕ) (v v' : View) → get_elem? views id ≡ some v
      → v'.key ≡ v.key → v'.who ≡ v.who → v'.rows ≡ v.rows → v'.casts ≡ v.casts
      → Handles k gen' name' words (set (map handle_seat views) id (handle_seat v')) → Whole k (record z { handles = words }) (set views id v')
  whole_by_handles z views w gen' name' grows words id v v' at key who rows casts handles = record {
    lawful = w.lawful;
    gen = gen';
    name = name';
    keyed = λ seat e there. ⊎_elim
        (λ (t : (seat ≡ id) × (v' ≡ e)). ap (λ (x : View). x.key) (sym t.1) ∙ (key ∙ w.keyed id v at))
        (λ (t : (seat ≢ id) × (get_elem? views seat ≡ some e)). w.keyed seat e t.1)
        (at_set views id seat v' e there);
    seats = subst (Seats k.sizes) (sym (unseen_set who_of views id v v' at who)) w.seats;
    handles = subst (Handles k gen' name' words) (sym (map-set handle_seat views id v')) handles;
    rows = subst (Rows k gen' name' z.epoch z.pins z.cells z.rows z.buckets) (sym (unseen_set row_seat views id v v' at (λ c. record { who = who c; rows = rows c }))) (rows_still k grows w.rows);
    casts = subst (Casts k gen' name' z.region z.casts) (sym (unseen_set cast_view views id v v' at casts)) (casts_still k grows w.casts);
  }

  module _ (words : List ℕ) (views : List View) (r : Rule k words views) (id : ℕ) (v : View) (at : get_elem? views id ≡ some v) where
    abbrev z : Zones
    z = zones k.sizes words

    abbrev n : Handles k r.whole.gen r.whole.name z.handles (map handle_seat views)
    n = r.whole.handles

    -- ---- a load

    pub load_keeps : (row : ℕ) → row < handle_rows k.sizes → Rule k words (set views id (after_load_handle v row (n.handle_word_of row)))
    load_keeps row small = record {
      sized = r.sized;
      whole = whole_by_handles z views r.whole r.whole.gen r.whole.name (grows_none r.whole.gen r.whole.name) z.handles id v (after_load_handle v row (n.handle_word_of row)) at refl refl refl refl
          (load_keeps_handles k r.whole.gen r.whole.name z.handles (map handle_seat views) n id (handle_seat v) row (at_seen handle_seat views id v at) small);
    }

    pub loaded_packing : (row : ℕ) → row < handle_rows k.sizes → IsHandleWordPacking (n.handle_word_of row) (get_or words (handles_from k.sizes + row) 0)
    loaded_packing row small = subst (IsHandleWordPacking (n.handle_word_of row)) (handle_at k.sizes words row small) (n.word row small)

    -- what the load tells of the word
    pub load_tells : (row : ℕ) → row < handle_rows k.sizes → FindsHandle v row (n.handle_word_of row)
    load_tells row small =
        let key : v.key ≡ k = r.whole.keyed id v at in
        let mine : TrueHandleView k r.whole.gen r.whole.name n.handle_word_of (handle_seat v) = n.each id (handle_seat v) (at_seen handle_seat views id v at) in
        let here = n.row row small in
        record {
          in_range = (n.word row small).in_range;
          typed = λ positive. subst (λ (q : Key). (n.handle_word_of row).number < q.world.types) (sym key) (here.typed (subst (λ (g : ℕ). 0 < g) here.generation positive));
          known = λ number knows.
              let x : Binding = binding_for (handle row (n.handle_word_of row).generation) number in
              let is = binding_of_known k r.whole.gen r.whole.name v.handles.bindings mine.bindings knows.0 x knows.1 in
              let bound : 0 < r.whole.gen row = subst (λ (g : ℕ). 0 < g) here.generation is.bound.some in
              here.number bound ∙ (ap (r.whole.name row) (sym here.generation) ∙ sym is.number);
          host = λ below. n.host row (subst (λ (q : Key). row < q.sizes.hosts) key below) ∙ ap (λ (q : Key). host_word q row) (sym key);
          own = λ own.
              let p = own_index_of k v row key own in
              let knows : KnowsWords k r.whole.gen r.whole.name n.handle_word_of (Caller p.caller) v.handles = subst (λ (w : Who). KnowsWords k r.whole.gen r.whole.name n.handle_word_of w v.handles) p.who mine.words in
              ap n.handle_word_of (sym p.row_is) ∙ (sym (knows.1 p.index p.small) ∙ ap (owned_word v.handles) p.index_is);
        }

    pub tells_one_binding : KnowsOneBinding v.handles
    tells_one_binding = one_binding k r.whole.gen r.whole.name v.handles (n.each id (handle_seat v) (at_seen handle_seat views id v at)).bindings

    -- ---- a store of one of the caller's own words

    module _ (row : ℕ) (own : IsOwn v row) where
      abbrev p : OwnIndex k v row
      p = own_index_of k v row (r.whole.keyed id v at) own

      abbrev here : ℕ
      here = first_row k.sizes p.caller + p.index

      caller_small : p.caller < k.sizes.callers
      caller_small = r.whole.seats.in_range id p.caller (at_seen who_of views id v at ∙ ap some p.who)

      pub own_row : row < handle_rows k.sizes
      own_row = let c = caller_small in let s = p.small in let e = p.row_is in omega arith

      -- what the caller knows of its word
      pub own_shown : owned_word v.handles (own_index v row) ≡ n.handle_word_of row
      own_shown = sym ((load_tells row own_row).own own)

      pub store_keeps : (gen' : ℕ → ℕ) (name' : ℕ → ℕ → ℕ) (grows : Grows r.whole.gen r.whole.name gen' name') (w : HandleWord) (x : ℕ) (bindings : List Binding) (v' : View)
          → ((other : ℕ) → other ≢ here → gen' other ≡ r.whole.gen other) → ((handle_word_of : ℕ → HandleWord) → handle_word_of here ≡ w → HandleRow k gen' name' handle_word_of here)
          → IsHandleWordPacking w x → w.immortal ≡ false → AreBindings k gen' name' bindings
          → v'.key ≡ v.key → v'.who ≡ v.who → v'.rows ≡ v.rows → v'.casts ≡ v.casts → v'.handles ≡ record { bindings = bindings; owned = set v.handles.owned (own_index v row) w }
          → Rule k (set words (handles_from k.sizes + row) x) (set views id v')
      store_keeps gen' name' grows w x bindings v' still shown packing mortal known key who rows casts handles =
          let seats : List HandleSeat = map handle_seat views in
          let stored : Handles k gen' name' (set z.handles here x) (set seats id (record { who = v.who; handles = record { bindings = bindings; owned = set v.handles.owned p.index w } })) =
          store_keeps_handles k r.whole.gen r.whole.name gen' name' grows p.caller p.index p.small w still shown z.handles seats x id (handle_seat v) bindings caller_small (handles_length k.sizes words r.sized) packing mortal
          (at_seen handle_seat views id v at) p.who
          (λ seat e other there. apart_of k.sizes (map who_of views) r.whole.seats id p.caller (at_seen who_of views id v at ∙ ap some p.who) seat e.who other
          (sym (ap (λ (ws : List Who). get_elem? ws seat) (whos_of handle_seat (λ (d : HandleSeat). d.who) (λ v. refl) views)) ∙ at_map (λ (d : HandleSeat). d.who) seats seat e there))
          known n in
          let moved : Handles k gen' name' (set z.handles row x) (set seats id (record { who = v.who; handles = record { bindings = bindings; owned = set v.handles.owned (own_index v row) w } })) =
          subst (λ (q : ℕ × ℕ). Handles k gen' name' (set z.handles q.0 x) (set seats id (record { who = v.who; handles = record { bindings = bindings; owned = set v.handles.owned q.1 w } }))) (λ c. (p.row_is c, p.index_is c)) stored in
          record {
            sized = length-set words (handles_from k.sizes + row) x ∙ r.sized;
            whole = subst (λ (y : Zones). Whole k y (set views id v')) (sym (handle_written k.sizes words row x own_row))
                (whole_by_handles z views r.whole gen' name' grows (set z.handles row x) id v v' at key who rows casts
                (subst (λ (d : HandleSeat). Handles k gen' name' (set z.handles row x) (set seats id d)) (λ c. record { who = sym who c; handles = sym handles c }) moved));
          }

      -- the generation is new
      pub bind_keeps : (generation number x : ℕ) → (owned_word v.handles (own_index v row)).generation + 1 ≡ generation → number < k.world.types → IsHandleWordPacking (own_word generation number true) x
          → Rule k (set words (handles_from k.sizes + row) x) (set views id (after_bind v row generation number))
      bind_keeps generation number x next typed packing =
          let gen : ℕ → ℕ = r.whole.gen in
          let name : ℕ → ℕ → ℕ = r.whole.name in
          let mine = n.each id (handle_seat v) (at_seen handle_seat views id v at) in
          let present : (owned_word v.handles (own_index v row)).generation ≡ gen here =
          ap (λ (w : HandleWord). w.generation) own_shown ∙ ((n.row row own_row).generation ∙ ap gen (sym p.row_is)) in
          let after : generation ≡ gen here + 1 = omega arith in
          let grows = bind_grows k gen name here generation number after in
          let inside : here < handle_rows k.sizes = subst (λ (q : ℕ). q < handle_rows k.sizes) (sym p.row_is) own_row in
          store_keeps (bound_gen k gen name here generation number) (bound_name k gen name here generation number) grows (own_word generation number true) x (binding_for (handle row generation) number ∷ v.handles.bindings)
          (after_bind v row generation number) (put_else gen here generation) (bound_row k gen name here generation number (omega arith) typed) packing refl (
            subst (λ (q : ℕ). IsBinding k (bound_gen k gen name here generation number) (bound_name k gen name here generation number) (binding_for (handle q generation) number)) p.row_is
                (bound_name_is k gen name here generation number inside (omega arith) typed),
            bindings_grow k grows v.handles.bindings mine.bindings,
          )
          refl refl refl refl refl

      pub bind_tells_new : (generation number : ℕ) → (owned_word v.handles (own_index v row)).generation + 1 ≡ generation → ¬ Knows v.handles (handle row generation) number
      bind_tells_new generation number next knows =
          let mine = n.each id (handle_seat v) (at_seen handle_seat views id v at) in
          let is = binding_of_known k r.whole.gen r.whole.name v.handles.bindings mine.bindings knows.0 (binding_for (handle row generation) number) knows.1 in
          let old : generation ≤ r.whole.gen row = is.bound.old in
          let present : (owned_word v.handles (own_index v row)).generation ≡ r.whole.gen row = ap (λ (w : HandleWord). w.generation) own_shown ∙ (n.row row own_row).generation in
          omega arith

      pub unbind_keeps : (generation number x : ℕ) → (owned_word v.handles (own_index v row)).generation ≡ generation → (owned_word v.handles (own_index v row)).number ≡ number
          → IsHandleWordPacking (own_word generation number false) x → Rule k (set words (handles_from k.sizes + row) x) (set views id (after_unbind v row generation number))
      unbind_keeps generation number x same_generation same_number packing =
          let gen : ℕ → ℕ = r.whole.gen in
          let name : ℕ → ℕ → ℕ = r.whole.name in
          let mine = n.each id (handle_seat v) (at_seen handle_seat views id v at) in
          let shown : n.handle_word_of here ≡ owned_word v.handles (own_index v row) = ap n.handle_word_of p.row_is ∙ sym own_shown in
          let inside : here < handle_rows k.sizes = subst (λ (q : ℕ). q < handle_rows k.sizes) (sym p.row_is) own_row in
          store_keeps gen name (grows_none gen name) (own_word generation number false) x v.handles.bindings (after_unbind v row generation number) (λ other apart. refl)
          (λ handle_word_of is. unbound_row k gen name here generation number n.handle_word_of handle_word_of (n.row here inside) (ap (λ (w : HandleWord). w.generation) shown ∙ same_generation) (ap (λ (w : HandleWord). w.number) shown ∙ same_number) is)
          packing refl mine.bindings refl refl refl refl refl
