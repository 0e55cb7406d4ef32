-- What a step on a handle word keeps of the rule on handles.
use Rattle.std.proofs.Common.{◌≡◌, ◌≢◌, ℕ, zero, suc, ◌+◌, ◌<◌, ◌≤◌, Bool, true, false, cond, List, [], ◌∷◌, length, get_or, set, ap, sym, refl, ◌∙◌, subst, ⊎_elim, arith, length-set, get_or-set_other, get_or-set_same}
use mathlib.Core.Logic.{dite}
use mathlib.Core.Option.{some}
use native.Mathlib.Decide.{ℕ_discrete}
use lib.ListN.{get_elem?}
use Rattle.atomic_table.proofs.Lists.{at_set}
use Rattle.vsd_words.specs.declared.handle.Handle.{Handle}
use Rattle.vsd_words.specs.declared.handle_word.HandleWord.{HandleWord}
use Rattle.vsd_words.specs.HandleWord.{IsHandleWordPacking}
use Rattle.vsd_rule.specs.declared.key.Key.{Key}
use Rattle.vsd_rule.specs.declared.handle_view.Binding.{Binding}
use Rattle.vsd_rule.specs.declared.handle_view.HandleView.{HandleView}
use Rattle.vsd_rule.specs.declared.view.Who.{Who}
use Rattle.vsd_rule.specs.declared.view.Who.TheVariants.{Root, Caller}
use Rattle.vsd_rule.specs.Layout.{handle_rows, first_row}
use Rattle.vsd_rule.specs.Handles.{HandleSeat, Handles, WasBound, IsBinding, AreBindings, HandleRow, TrueHandleView, KnowsWords, blank_word, own_word, handle, binding_for}
use Rattle.vsd_rule.specs.Moves.{learnt}
use Rattle.vsd_rule.proofs.Points.{put, put_here, put_else}

-- generations grow, and each handle that was bound keeps its type
pub record Grows (gen : ℕ → ℕ) (name : ℕ → ℕ → ℕ) (gen' : ℕ → ℕ) (name' : ℕ → ℕ → ℕ) : Type 0 where
  pub generation : (row : ℕ) → gen row ≤ gen' row
  pub named : (row generation : ℕ) → generation ≤ gen row → name' row generation ≡ name row generation

pub grows_none : (gen : ℕ → ℕ) (name : ℕ → ℕ → ℕ) → Grows gen name gen name
grows_none gen name = record { generation = λ row. omega arith; named = λ row generation old. refl }

-- another seat does not know this caller's words
abbrev pub Apart : ℕ → Who → Type 0
Apart caller (Root next) = caller < next
Apart caller (Caller number) = number ≢ caller

module _ (k : Key) where
  module _ {gen : ℕ → ℕ} {name : ℕ → ℕ → ℕ} {gen' : ℕ → ℕ} {name' : ℕ → ℕ → ℕ} (grows : Grows gen name gen' name') where
    pub bound_grows : {h : Handle} → WasBound k gen name h → WasBound k gen' name' h
    bound_grows {h} u = let g = grows.generation h.row in let o = u.old in record { row = u.row; some = u.some; old = omega arith }

    pub binding_grows : {x : Binding} → IsBinding k gen name x → IsBinding k gen' name' x
    binding_grows {x} n = record {
      bound = bound_grows n.bound;
      number = n.number ∙ sym (grows.named x.handle.row x.handle.generation n.bound.old);
      typed = n.typed;
    }

    pub bindings_grow : (xs : List Binding) → AreBindings k gen name xs → AreBindings k gen' name' xs
    bindings_grow [] all = tt
    bindings_grow (x ∷ xs) all = (binding_grows all.0, bindings_grow xs all.1)

  module _ (gen : ℕ → ℕ) (name : ℕ → ℕ → ℕ) where
    -- what a seat knows of its own words does not depend on its bindings
    pub words_alone : (handle_word_of : ℕ → HandleWord) (who : Who) (n n' : HandleView) → n'.owned ≡ n.owned → KnowsWords k gen name handle_word_of who n → KnowsWords k gen name handle_word_of who n'
    words_alone handle_word_of (Root next) n n' same knows = knows
    words_alone handle_word_of (Caller number) n n' same knows =
        (ap length same ∙ knows.0, λ i small. ap (λ (ws : List HandleWord). get_or ws i blank_word) same ∙ knows.1 i small)

    -- a handle row whose word is live was bound
    pub live_bound : (handle_word_of : ℕ → HandleWord) (row : ℕ) → HandleRow k gen name handle_word_of row → (handle_word_of row).live ≡ true → 0 < gen row
    live_bound handle_word_of row r live = go (gen row) refl
      where
        go : (g : ℕ) → gen row ≡ g → 0 < gen row
        go zero none = let blank = r.nothing none in absurd (cc)
        go (suc g) more = omega arith

    pub shown_binding : (handle_word_of : ℕ → HandleWord) (row : ℕ) → row < handle_rows k.sizes → HandleRow k gen name handle_word_of row → (handle_word_of row).live ≡ true
        → IsBinding k gen name (binding_for (handle row (handle_word_of row).generation) (handle_word_of row).number)
    shown_binding handle_word_of row small r live = let bound = live_bound handle_word_of row r live in record {
      bound = record { row = small; some = subst (λ (g : ℕ). 0 < g) (sym r.generation) bound; old = let e = r.generation in omega arith };
      number = r.number bound ∙ ap (name row) (sym r.generation);
      typed = r.typed bound;
    }

    pub learnt_bindings : (handle_word_of : ℕ → HandleWord) (row : ℕ) → row < handle_rows k.sizes → HandleRow k gen name handle_word_of row → (bindings : List Binding) → AreBindings k gen name bindings
        → AreBindings k gen name (learnt bindings row (handle_word_of row))
    learnt_bindings handle_word_of row small r bindings all = go (handle_word_of row).live refl
      where
        go : (live : Bool) → (handle_word_of row).live ≡ live → AreBindings k gen name (cond live (binding_for (handle row (handle_word_of row).generation) (handle_word_of row).number ∷ bindings) bindings)
        go true is = (shown_binding handle_word_of row small r is, all)
        go false is = all

    -- a load of a handle word
    pub load_keeps_handles : (words : List ℕ) (seats : List HandleSeat) (handles : Handles k gen name words seats) (id : ℕ) (d : HandleSeat) (row : ℕ) → get_elem? seats id ≡ some d → row < handle_rows k.sizes
        → Handles k gen name words (set seats id (record { who = d.who; handles = record d.handles { bindings = learnt d.handles.bindings row (handles.handle_word_of row) } }))
    load_keeps_handles words seats handles id d row at small =
        let d' : HandleSeat = record { who = d.who; handles = record d.handles { bindings = learnt d.handles.bindings row (handles.handle_word_of row) } } in
        let mine = handles.each id d at in
        record {
          handle_word_of = handles.handle_word_of;
          word = handles.word;
          row = handles.row;
          host = handles.host;
          mortal = handles.mortal;
          each = λ seat e there. ⊎_elim
              (λ (t : (seat ≡ id) × (d' ≡ e)). subst (TrueHandleView k gen name handles.handle_word_of) t.1 (record {
                bindings = learnt_bindings handles.handle_word_of row small (handles.row row small) d.handles.bindings mine.bindings;
                words = words_alone handles.handle_word_of d.who d.handles d'.handles refl mine.words;
              }))
              (λ (t : (seat ≢ id) × (get_elem? seats seat ≡ some e)). handles.each seat e t.1)
              (at_set seats id seat d' e there);
        }

  -- A store of a handle word by the caller whose row it is. The row may get a new generation, bound to a type
  module _ (gen : ℕ → ℕ) (name : ℕ → ℕ → ℕ) (gen' : ℕ → ℕ) (name' : ℕ → ℕ → ℕ) (grows : Grows gen name gen' name') (caller i : ℕ) (small : i < 64) (w : HandleWord) where
    abbrev row : ℕ
    row = first_row k.sizes caller + i

    module _ (still : (other : ℕ) → other ≢ row → gen' other ≡ gen other) (here : (handle_word_of : ℕ → HandleWord) → handle_word_of row ≡ w → HandleRow k gen' name' handle_word_of row) (handle_word_of : ℕ → HandleWord) where
      abbrev after : ℕ → HandleWord
      after = put handle_word_of row w

      pub other_row : (other : ℕ) → other ≢ row → HandleRow k gen name handle_word_of other → HandleRow k gen' name' after other
      other_row other apart r =
          let same : after other ≡ handle_word_of other = put_else handle_word_of row w other apart in
          let g : gen' other ≡ gen other = still other apart in
          record {
            generation = ap (λ (x : HandleWord). x.generation) same ∙ (r.generation ∙ sym g);
            nothing = λ none. same ∙ r.nothing (sym g ∙ none);
            typed = λ some. subst (λ (x : HandleWord). x.number < k.world.types) (sym same) (r.typed (subst (λ (n : ℕ). 0 < n) g some));
            number = λ some. ap (λ (x : HandleWord). x.number) same ∙ (r.number (subst (λ (n : ℕ). 0 < n) g some) ∙ (sym (grows.named other (gen other) (omega arith)) ∙ ap (name' other) (sym g)));
          }

      pub others_know : (who : Who) (n : HandleView) → Apart caller who → KnowsWords k gen name handle_word_of who n → KnowsWords k gen' name' after who n
      others_know (Root next) n apart knows = λ other from to. put_else handle_word_of row w other (λ e. omega arith) ∙ knows other from to
      others_know (Caller number) n apart knows = (knows.0, λ j below. knows.1 j below ∙ sym (put_else handle_word_of row w (first_row k.sizes number + j) (λ e. apart (omega arith))))

      pub owner_knows : (n : HandleView) (bindings : List Binding) → KnowsWords k gen name handle_word_of (Caller caller) n
          → KnowsWords k gen' name' after (Caller caller) (record { bindings = bindings; owned = set n.owned i w })
      owner_knows n bindings knows = let long = knows.0 in (
        length-set n.owned i w ∙ long,
        λ j below. dite (ℕ_discrete j i)
            (λ e. subst (λ (z : ℕ). get_or (set n.owned i w) z blank_word ≡ after (first_row k.sizes caller + z)) (sym e)
            (get_or-set_same n.owned i w blank_word (omega arith) ∙ sym (put_here handle_word_of row w)))
            (λ ne. get_or-set_other n.owned i j w blank_word ne ∙ (knows.1 j below ∙ sym (put_else handle_word_of row w (first_row k.sizes caller + j) (λ e. ne (omega arith))))),
      )

    pub store_keeps_handles : (still : (other : ℕ) → other ≢ row → gen' other ≡ gen other) (here : (handle_word_of : ℕ → HandleWord) → handle_word_of row ≡ w → HandleRow k gen' name' handle_word_of row)
        (words : List ℕ) (seats : List HandleSeat) (x id : ℕ) (d : HandleSeat) (learnt_by : List Binding) → caller < k.sizes.callers → length words ≡ handle_rows k.sizes → IsHandleWordPacking w x → w.immortal ≡ false
        → get_elem? seats id ≡ some d → d.who ≡ Caller caller → ((seat : ℕ) (e : HandleSeat) → seat ≢ id → get_elem? seats seat ≡ some e → Apart caller e.who)
        → AreBindings k gen' name' learnt_by → Handles k gen name words seats
        → Handles k gen' name' (set words row x) (set seats id (record { who = d.who; handles = record { bindings = learnt_by; owned = set d.handles.owned i w } }))
    store_keeps_handles still here words seats x id d learnt_by lawful long packing mortal at who apart known handles =
        let handle_word_of : ℕ → HandleWord = handles.handle_word_of in
        let now : ℕ → HandleWord = put handle_word_of row w in
        let inside : row < handle_rows k.sizes = omega arith in
        let d' : HandleSeat = record { who = d.who; handles = record { bindings = learnt_by; owned = set d.handles.owned i w } } in
        let mine = handles.each id d at in
        record {
          handle_word_of = now;
          word = λ other below. dite (ℕ_discrete other row)
              (λ e. subst (λ (z : ℕ). IsHandleWordPacking (now z) (get_or (set words row x) z 0)) (sym e)
              (subst (λ (z : HandleWord). IsHandleWordPacking z (get_or (set words row x) row 0)) (sym (put_here handle_word_of row w))
              (subst (λ (z : ℕ). IsHandleWordPacking w z) (sym (get_or-set_same words row x 0 (omega arith))) packing)))
              (λ ne. subst (λ (z : HandleWord). IsHandleWordPacking z (get_or (set words row x) other 0)) (sym (put_else handle_word_of row w other ne))
              (subst (λ (z : ℕ). IsHandleWordPacking (handle_word_of other) z) (sym (get_or-set_other words row other x 0 ne)) (handles.word other below)));
          row = λ other below. dite (ℕ_discrete other row)
              (λ e. subst (λ (z : ℕ). HandleRow k gen' name' now z) (sym e) (here now (put_here handle_word_of row w)))
              (λ ne. other_row still here handle_word_of other ne (handles.row other below));
          host = λ host below. put_else handle_word_of row w host (λ e. omega arith) ∙ handles.host host below;
          mortal = λ other from below. dite (ℕ_discrete other row)
              (λ e. ap (λ (z : ℕ). (now z).immortal) e ∙ (ap (λ (z : HandleWord). z.immortal) (put_here handle_word_of row w) ∙ mortal))
              (λ ne. ap (λ (z : HandleWord). z.immortal) (put_else handle_word_of row w other ne) ∙ handles.mortal other from below);
          each = λ seat e there. ⊎_elim
              (λ (t : (seat ≡ id) × (d' ≡ e)). subst (TrueHandleView k gen' name' now) t.1 (record {
                bindings = known;
                words = subst (λ (z : Who). KnowsWords k gen' name' now z d'.handles) (sym who)
                    (owner_knows still here handle_word_of d.handles learnt_by (subst (λ (z : Who). KnowsWords k gen name handle_word_of z d.handles) who mine.words));
              }))
              (λ (t : (seat ≢ id) × (get_elem? seats seat ≡ some e)). let theirs = handles.each seat e t.1 in record {
                bindings = bindings_grow grows e.handles.bindings theirs.bindings;
                words = others_know still here handle_word_of e.who e.handles (apart seat e t.0 t.1) theirs.words;
              })
              (at_set seats id seat d' e there);
        }

  -- a bind gives the row its next generation, bound to a type
  module _ (gen : ℕ → ℕ) (name : ℕ → ℕ → ℕ) (row generation number : ℕ) where
    abbrev pub bound_gen : ℕ → ℕ
    bound_gen = put gen row generation

    abbrev pub bound_name : ℕ → ℕ → ℕ
    bound_name = put name row (put (name row) generation number)

    pub bound_number : bound_name row generation ≡ number
    bound_number = ap (λ (f : ℕ → ℕ). f generation) (put_here name row (put (name row) generation number)) ∙ put_here (name row) generation number

    pub bind_grows : generation ≡ gen row + 1 → Grows gen name bound_gen bound_name
    bind_grows next = record {
      generation = λ other. dite (ℕ_discrete other row)
          (λ e. let now : bound_gen other ≡ generation = ap bound_gen e ∙ put_here gen row generation in let was : gen other ≡ gen row = ap gen e in omega arith)
          (λ ne. let now : bound_gen other ≡ gen other = put_else gen row generation other ne in omega arith);
      named = λ other old before. dite (ℕ_discrete other row)
          (λ e. let was : gen other ≡ gen row = ap gen e in
          let apart : old ≢ generation = λ (same : old ≡ generation). omega arith in
          ap (λ (f : ℕ → ℕ). f old) (ap bound_name e ∙ put_here name row (put (name row) generation number))
          ∙ (put_else (name row) generation number old apart ∙ ap (λ (z : ℕ). name z old) (sym e)))
          (λ ne. ap (λ (f : ℕ → ℕ). f old) (put_else name row (put (name row) generation number) other ne));
    }

    pub bound_row : 0 < generation → number < k.world.types → (handle_word_of : ℕ → HandleWord) → handle_word_of row ≡ own_word generation number true → HandleRow k bound_gen bound_name handle_word_of row
    bound_row positive typed handle_word_of is =
        let now : bound_gen row ≡ generation = put_here gen row generation in
        let is_number : (handle_word_of row).number ≡ number = ap (λ (x : HandleWord). x.number) is in
        record {
          generation = ap (λ (x : HandleWord). x.generation) is ∙ sym now;
          nothing = λ none. absurd (let e : generation ≡ 0 = sym now ∙ none in omega arith);
          typed = λ _. omega arith;
          number = λ _. is_number ∙ (sym bound_number ∙ ap (bound_name row) (sym now));
        }

    pub bound_name_is : row < handle_rows k.sizes → 0 < generation → number < k.world.types → IsBinding k bound_gen bound_name (binding_for (handle row generation) number)
    bound_name_is small positive typed = let now : bound_gen row ≡ generation = put_here gen row generation in record {
      bound = record { row = small; some = positive; old = omega arith };
      number = sym bound_number;
      typed = typed;
    }

  -- an unbind keeps the row's generation and type
  pub unbound_row : (gen : ℕ → ℕ) (name : ℕ → ℕ → ℕ) (row generation number : ℕ) (before handle_word_of : ℕ → HandleWord) → HandleRow k gen name before row
      → (before row).generation ≡ generation → (before row).number ≡ number → handle_word_of row ≡ own_word generation number false → HandleRow k gen name handle_word_of row
  unbound_row gen name row generation number before handle_word_of r g n is =
      let is_number : (handle_word_of row).number ≡ number = ap (λ (x : HandleWord). x.number) is in
      let is_generation : (handle_word_of row).generation ≡ generation = ap (λ (x : HandleWord). x.generation) is in
      record {
        generation = is_generation ∙ (sym g ∙ r.generation);
        nothing = λ none.
            let blank = r.nothing none in
            let g0 : generation ≡ 0 = sym g ∙ ap (λ (x : HandleWord). x.generation) blank in
            let n0 : number ≡ 0 = sym n ∙ ap (λ (x : HandleWord). x.number) blank in
            is ∙ (λ c. own_word (g0 c) (n0 c) false);
        typed = λ some. subst (λ (z : ℕ). z < k.world.types) (n ∙ sym is_number) (r.typed some);
        number = λ some. is_number ∙ (sym n ∙ r.number some);
      }
