-- The words of opening, and that they stay while nobody makes a step.
use Rattle.std.proofs.Common.{◌≡◌, ◌≢◌, ℕ, ◌+◌, ◌-◌, ◌*◌, ◌<◌, ◌≤◌, Bool, true, false, nat_eq, List, [], ◌∷◌, ◌++◌, length, map, replicate, get_or, set, slice_index, Result, Ok, Err, IfOk, refl, sym, ◌∙◌, ap, subst, ⊎_elim, arith}
use Rattle.std.proofs.lemmas.Bool.{eqb-true, eqb-false, cases_lt}
use Rattle.std.proofs.lemmas.List.{length-map, length-append, length-replicate, get_or-replicate, get_or_past, get_or_append_left, get_or-append_right, get_or-map}
use mathlib.Core.Option.{some, some-injective}
use lib.ListN.{get_elem?}
use Rattle.atomic_table.proofs.Lists.{set_here, set_else, at_longer}
use Rattle.vsd_rule.specs.declared.key.Key.{Key}
use Rattle.vsd_rule.specs.declared.view.View.{View}
use Rattle.vsd_rule.specs.Layout.{word_count, handles_from, handle_rows, cast_rows}
use Rattle.vsd_rule.specs.Lists.{LawfulKey}
use Rattle.vsd_rule.specs.Moves.{after_split, split_off}
use Rattle.vsd_rule.specs.Opening.{host_packing, opening_words}
use Rattle.vsd_table.specs.declared.shared.Shared.{Shared}
use Rattle.vsd_table.specs.Opened.{OnlySplits, NoneStepped, Ruled, AreOpening, IsOpened}
use Rattle.vsd_table.proofs.Seats.{below}

-- ---- a split

other_before : (views : List View) (id : ℕ) (v : View) → get_elem? views id ≡ some v → NoneStepped (set views id (after_split v) ++ split_off v ∷ []) → (seat : ℕ) (u : View) → get_elem? views seat ≡ some u
    → (same : Bool) → nat_eq seat id ≡ same → OnlySplits u.steps
other_before views id v at none seat u there true is =
    let here : seat ≡ id = eqb-true seat id is in
    let mine : some u ≡ some v = sym there ∙ (ap (get_elem? views) here ∙ at) in
    let both = none id (after_split v) (at_longer (set views id (after_split v)) (split_off v ∷ []) id (after_split v) (set_here views id (after_split v) (below views id v at))) in
    let same : v ≡ u = some-injective v u (sym mine) in
    subst (λ (x : View). OnlySplits x.steps) same both.1
other_before views id v at none seat u there false is =
    none seat u (at_longer (set views id (after_split v)) (split_off v ∷ []) seat u (set_else views id seat (after_split v) (eqb-false seat id is) ∙ there))

pub none_before : (views : List View) (id : ℕ) (v : View) → get_elem? views id ≡ some v → NoneStepped (set views id (after_split v) ++ split_off v ∷ []) → NoneStepped views
none_before views id v at none seat u there = other_before views id v at none seat u there (nat_eq seat id) refl

-- ---- the words of opening

zeros_at : (n i : ℕ) → get_or {A = ℕ} (replicate n 0) i 0 ≡ 0
zeros_at n i = ⊎_elim
    (λ (h : i < n). get_or-replicate n i 0 0 h)
    (λ (h : n ≤ i). get_or_past (replicate n 0) i 0 (omega (arith, length-replicate {A = ℕ} n 0)))
    (cases_lt i n)

module _ (k : Key) (hosts : length k.world.host_types ≡ k.sizes.hosts) where
  types : List ℕ
  types = k.world.host_types

  low : ℕ
  low = handles_from k.sizes

  high : ℕ
  high = 64 * k.sizes.callers + 1 + 3 * cast_rows k.sizes

  after_low : (j : ℕ) → get_or (opening_words k) (low + j) 0 ≡ get_or (map host_packing types ++ replicate high 0) j 0
  unfolding opening_words low high types
  after_low j = get_or-append_right (replicate low 0) (map host_packing types ++ replicate high 0) low (low + j) 0 (length-replicate low 0) (omega arith) ∙ ap (λ (i : ℕ). get_or (map host_packing types ++ replicate high 0) i 0) (omega arith)

  host_there : (host : ℕ) → host < k.sizes.hosts → get_or (opening_words k) (low + host) 0 ≡ host_packing (get_or types host 0)
  unfolding types
  host_there host h =
      let inside : host < length types = omega (arith, hosts) in
      after_low host ∙ (get_or_append_left (map host_packing types) (replicate high 0) 0 host (omega (arith, length-map types host_packing)) ∙ get_or-map host_packing types host 0 0 inside)

  low_there : (i : ℕ) → i < low → get_or (opening_words k) i 0 ≡ 0
  unfolding opening_words low high types
  low_there i h = get_or_append_left (replicate low 0) (map host_packing types ++ replicate high 0) 0 i (omega (arith, length-replicate {A = ℕ} low 0)) ∙ zeros_at low i

  high_there : (j : ℕ) → k.sizes.hosts ≤ j → get_or (opening_words k) (low + j) 0 ≡ 0
  unfolding types
  high_there j past =
      let e : length (map host_packing types) ≡ k.sizes.hosts = length-map types host_packing ∙ hosts in
      after_low j ∙ (get_or-append_right (map host_packing types) (replicate high 0) k.sizes.hosts j 0 e past ∙ zeros_at high (j - k.sizes.hosts))

  other_there : (i : ℕ) → ((host : ℕ) → host < k.sizes.hosts → i ≢ low + host) → get_or (opening_words k) i 0 ≡ 0
  other_there i none = ⊎_elim
      (λ (h : i < low). low_there i h)
      (λ (h : low ≤ i).
      let is : low + (i - low) ≡ i = omega arith in
      subst (λ (n : ℕ). get_or (opening_words k) n 0 ≡ 0) is (high_there (i - low) (⊎_elim
      (λ (inside : i - low < k.sizes.hosts). absurd (none (i - low) inside (sym is)))
      (λ (past : k.sizes.hosts ≤ i - low). past)
      (cases_lt (i - low) k.sizes.hosts))))
      (cases_lt i low)

opened : (k : Key) (words : List ℕ) (views : List View) → Ruled k words views → NoneStepped views → AreOpening k words
unfolding low types
opened k words views ruled none =
    let is = ruled.opened none in
    let lawful : LawfulKey k = ruled.rule.whole.lawful in
    record {
      long = ruled.rule.sized;
      hosts = λ host h. ap (λ (l : List ℕ). get_or l (handles_from k.sizes + host) 0) is ∙ host_there k lawful.hosts host h;
      others = λ i other. ap (λ (l : List ℕ). get_or l i 0) is ∙ other_there k lawful.hosts i other;
    }

pub opened_ok : {S E : Type 0} (r : Result (Shared × S) E) → IfOk r (λ made. IsOpened made.0)
opened_ok (Ok made) = λ words views ruled none. opened _ words views ruled none
opened_ok (Err e) = tt
