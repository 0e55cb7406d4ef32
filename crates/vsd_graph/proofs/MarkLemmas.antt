-- How the marks change: a place comes onto the way, and gets its level.
use Rattle.std.proofs.Common.{◌≡◌, ◌≢◌, ℕ, ◌+◌, ◌<◌, ◌≤◌, zero, suc, max, true, false, not, cond, List, [], ◌∷◌, ◌++◌, length, map, get_or, set, take, ◌⊎◌, inl, inr, refl, sym, ap, ◌∙◌, subst, arith, Contains}
use Rattle.std.proofs.Math.ListN.{length-set}
use Rattle.std.proofs.lemmas.Bool.{false≢true, cases_order}
use Rattle.std.proofs.lemmas.List.{get_or-set_same, get_or-set_other, take_more}
use Rattle.std.proofs.lemmas.List.Elements.{Contains-push_cases}
use Rattle.std.proofs.lemmas.List.Sums.{sum_by-set, count_by-le-length}
use Rattle.std.specs.Ordering.{ord_max, nat_cmp}
use Rattle.std.proofs.lemmas.Bool.Decides.{nat_tests}
use Rattle.vsd_terms.specs.Size.{greatest}
use Rattle.vsd_graph.specs.declared.levels.Mark.{Mark}
use Rattle.vsd_graph.specs.declared.levels.Mark.TheVariants.{Unseen, Open, Level}
use Rattle.vsd_graph.specs.Graph.{targets, Walk}
use Rattle.vsd_graph.specs.Marks.{mark_at, level_in, level_at, is_level, HasLevel, pending, is_unseen, unseen, AreSound, Extends, LeadsTo}

pub mark_at-same : (ms : List Mark) (at : ℕ) (m : Mark) → at < length ms → mark_at (set ms at m) at ≡ m
mark_at-same ms at m within = get_or-set_same ms at m Unseen within

pub mark_at-other : (ms : List Mark) (at i : ℕ) (m : Mark) → i ≢ at → mark_at (set ms at m) i ≡ mark_at ms i
mark_at-other ms at i m differ = get_or-set_other ms at i m Unseen differ

pub same_or_not : (i j : ℕ) → (i ≡ j) ⊎ (i ≢ j)
same_or_not i j = elim (cases_order i j) [
  | inl e ↦ inl e
  | inr other ↦ inr (λ e. elim other [ inl lt ↦ omega arith | inr gt ↦ omega arith ])
]

-- counts of marks, once one is changed
pub pending-open : (ms : List Mark) (at : ℕ) → at < length ms → is_level (mark_at ms at) ≡ false → pending (set ms at Open) ≡ pending ms
pending-open ms at within not_level =
    let e = sum_by-set (λ (m : Mark). cond (not (is_level m)) 1 0) ms at Open Unseen within in
    let w = ap {B = ℕ} (λ b. cond (not b) 1 0) not_level in
    omega (arith, e, w)

pub pending-level : (ms : List Mark) (at level : ℕ) → at < length ms → is_level (mark_at ms at) ≡ false → pending (set ms at (Level level)) + 1 ≡ pending ms
pending-level ms at level within not_level =
    let e = sum_by-set (λ (m : Mark). cond (not (is_level m)) 1 0) ms at (Level level) Unseen within in
    let w = ap {B = ℕ} (λ b. cond (not b) 1 0) not_level in
    omega (arith, e, w)

pub unseen-open : (ms : List Mark) (at : ℕ) → at < length ms → mark_at ms at ≡ Unseen → unseen (set ms at Open) + 1 ≡ unseen ms
unseen-open ms at within is =
    let e = sum_by-set (λ (m : Mark). cond (is_unseen m) 1 0) ms at Open Unseen within in
    let w = ap {B = ℕ} (λ m. cond (is_unseen m) 1 0) is in
    omega (arith, e, w)

pub unseen-level : (ms : List Mark) (at level : ℕ) → at < length ms → mark_at ms at ≡ Open → unseen (set ms at (Level level)) ≡ unseen ms
unseen-level ms at level within is =
    let e = sum_by-set (λ (m : Mark). cond (is_unseen m) 1 0) ms at (Level level) Unseen within in
    let w = ap {B = ℕ} (λ m. cond (is_unseen m) 1 0) is in
    omega (arith, e, w)

later : {A : Type 0} → (t : A) (ts : List A) (x : A) → Contains ts x → Contains (t ∷ ts) x
later t ts x w = (suc w.0, omega (arith, w.1), w.2)

-- places whose marks stay where they have levels have the levels that they had
pub levels_stay : (old new : List Mark) → ((j : ℕ) → HasLevel old j → mark_at new j ≡ mark_at old j) → (ts : List ℕ) → ((j : ℕ) → Contains ts j → HasLevel old j) → map (level_at new) ts ≡ map (level_at old) ts
levels_stay old new agree [] all = refl
levels_stay old new agree (t ∷ ts) all =
    let here = ap level_in (agree t (all t (0, omega arith, refl))) in
    let rest = levels_stay old new agree ts (λ j w. all j (later t ts j w)) in
    cc

pub greatest-few : (f : ℕ → ℕ) (ts : List ℕ) (p n : ℕ) → p ≤ n → ((j : ℕ) → Contains ts j → f j + p ≤ n) → greatest (map f ts) + p ≤ n
greatest-few f [] p n some each = omega arith
greatest-few f (t ∷ ts) p n some each =
    let here = each t (0, omega arith, refl) in
    let rest = greatest-few f ts p n some (λ j w. each j (later t ts j w)) in
    omega (arith, here, rest)

module _ (g : List (List ℕ)) (ms : List Mark) (at : ℕ) (within : at < length ms) (sound : AreSound g ms) where
  -- a place that comes onto the way
  pub AreSound-open : mark_at ms at ≡ Unseen → AreSound g (set ms at Open)
  AreSound-open is =
      let not_level : is_level (mark_at ms at) ≡ false = ap is_level is in
      let apart : (j : ℕ) → HasLevel ms j → j ≢ at = λ j has e. false≢true (sym not_level ∙ ap (λ i. is_level (mark_at ms i)) (sym e) ∙ has) in
      let agree : (j : ℕ) → HasLevel ms j → mark_at (set ms at Open) j ≡ mark_at ms j = λ j has. mark_at-other ms at j Open (apart j has) in
      let old : (i : ℕ) → HasLevel (set ms at Open) i → HasLevel ms i = λ i has. elim (same_or_not i at) [
        | inl e ↦ absurd (false≢true (sym (ap is_level (mark_at-same ms at Open within)) ∙ ap (λ j. is_level (mark_at (set ms at Open) j)) (sym e) ∙ has))
        | inr differ ↦ sym (ap is_level (mark_at-other ms at i Open differ)) ∙ has
      ] in
      let same = pending-open ms at within not_level in
      record {
        count = length-set ms at Open ∙ sound.count;
        below = λ i j has step. let b = sound.below i j (old i has) step in ap is_level (agree j b) ∙ b;
        right = λ i has.
            let o = old i has in
            let stay = levels_stay ms (set ms at Open) agree (targets g i) (λ j w. sound.below i j o w) in
            ap level_in (agree i o) ∙ sound.right i o ∙ ap (λ ls. suc (greatest ls)) (sym stay);
        few = λ i has. let o = old i has in omega (arith, sound.few i o, ap level_in (agree i o), same, length-set ms at Open);
      }

  -- a place on the way that gets its level
  pub AreSound-level : (level : ℕ) → mark_at ms at ≡ Open → ((j : ℕ) → Contains (targets g at) j → HasLevel ms j) → level ≡ suc (greatest (map (level_at ms) (targets g at))) → AreSound g (set ms at (Level level))
  AreSound-level level is done most =
      let new = set ms at (Level level) in
      let not_level : is_level (mark_at ms at) ≡ false = ap is_level is in
      let apart : (j : ℕ) → HasLevel ms j → j ≢ at = λ j has e. false≢true (sym not_level ∙ ap (λ i. is_level (mark_at ms i)) (sym e) ∙ has) in
      let agree : (j : ℕ) → HasLevel ms j → mark_at new j ≡ mark_at ms j = λ j has. mark_at-other ms at j (Level level) (apart j has) in
      let here : mark_at new at ≡ Level level = mark_at-same ms at (Level level) within in
      let old : (i : ℕ) → i ≢ at → HasLevel new i → HasLevel ms i = λ i differ has. sym (ap is_level (mark_at-other ms at i (Level level) differ)) ∙ has in
      let fewer = pending-level ms at level within not_level in
      let bound : greatest (map (level_at ms) (targets g at)) + pending ms ≤ length ms =
      greatest-few (level_at ms) (targets g at) (pending ms) (length ms) (count_by-le-length (λ (m : Mark). not (is_level m)) ms) (λ j w. sound.few j (done j w)) in
      record {
        count = length-set ms at (Level level) ∙ sound.count;
        below = λ i j has step. elim (same_or_not i at) [
          | inl e ↦ (let b = done j (subst (λ (k : ℕ). Contains (targets g k) j) e step) in ap is_level (agree j b) ∙ b)
          | inr differ ↦ (let b = sound.below i j (old i differ has) step in ap is_level (agree j b) ∙ b)
        ];
        right = λ i has. elim (same_or_not i at) [
          | inl e ↦ subst (λ (k : ℕ). level_at new k ≡ suc (greatest (map (level_at new) (targets g k)))) (sym e) (ap level_in here ∙ most ∙ ap (λ ls. suc (greatest ls)) (sym (levels_stay ms new agree (targets g at) done)))
          | inr differ ↦ (let o = old i differ has in
              let stay = levels_stay ms new agree (targets g i) (λ j w. sound.below i j o w) in
              ap level_in (agree i o) ∙ sound.right i o ∙ ap (λ ls. suc (greatest ls)) (sym stay))
        ];
        few = λ i has. elim (same_or_not i at) [
          | inl e ↦ omega (arith, ap (level_at new) e, ap level_in here, bound, most, fewer, length-set ms at (Level level))
          | inr differ ↦ (let o = old i differ has in omega (arith, sound.few i o, ap level_in (agree i o), fewer, length-set ms at (Level level)))
        ];
      }

-- marks that extend marks that extend marks
pub Extends-trans : (a b c : List Mark) → Extends a b → Extends b c → Extends a c
Extends-trans a b c p q = record {
  kept = λ i seen. let e = p.kept i seen in q.kept i (ap is_unseen e ∙ seen) ∙ e;
  on_the_way = λ i is. p.on_the_way i (q.on_the_way i is);
  fewer = omega (arith, p.fewer, q.fewer);
}

pub Extends-same : (a : List Mark) → Extends a a
Extends-same a = record { kept = λ i seen. refl; on_the_way = λ i is. is; fewer = omega arith }

pub level_is_seen : (m : Mark) → is_level m ≡ true → is_unseen m ≡ false
level_is_seen Unseen is = absurd (false≢true is)
level_is_seen Open is = refl
level_is_seen (Level n) is = refl

-- what has a level keeps it
pub Extends-level : (old new : List Mark) → Extends old new → (j : ℕ) → HasLevel old j → mark_at new j ≡ mark_at old j
Extends-level old new e j has = e.kept j (level_is_seen (mark_at old j) has)

pub greatest-push : (f : ℕ → ℕ) (ts : List ℕ) (y : ℕ) → greatest (map f (ts ++ y ∷ [])) ≡ max (greatest (map f ts)) (f y)
greatest-push f [] y = omega arith
greatest-push f (t ∷ ts) y = omega (arith, greatest-push f ts y)

-- once each target so far has a level, and then this one
module _ (old new : List Mark) (ts : List ℕ) (n next : ℕ) (within : n < length ts) (here : next ≡ get_or ts n 0) (extends : Extends old new) (level : ℕ) (settled : mark_at new next ≡ Level level) (done : (j : ℕ) → Contains (take n ts) j → HasLevel old j) where
  more : take (n + 1) ts ≡ take n ts ++ next ∷ []
  more = take_more ts n 0 within ∙ ap (λ y. take n ts ++ y ∷ []) (sym here)

  pub done_more : (j : ℕ) → Contains (take (n + 1) ts) j → HasLevel new j
  done_more j w = elim (Contains-push_cases (take n ts) next j (subst (λ (xs : List ℕ). Contains xs j) more w)) [
    | inl early ↦ (let has = done j early in ap is_level (Extends-level old new extends j has) ∙ has)
    | inr e ↦ ap (λ k. is_level (mark_at new k)) (sym e) ∙ ap is_level settled
  ]

  pub most_more : (most : ℕ) → most ≡ greatest (map (level_at old) (take n ts)) → max most level ≡ greatest (map (level_at new) (take (n + 1) ts))
  most_more most is =
      let stay = levels_stay old new (Extends-level old new extends) (take n ts) done in
      let pushed = ap (λ xs. greatest (map (level_at new) xs)) more ∙ greatest-push (level_at new) (take n ts) next in
      omega (arith, is, ap greatest stay, pushed, ap level_in settled)

-- a place that comes onto the way, what is settled meanwhile, and then its own level
pub Extends-visit : (old ms : List Mark) (at level : ℕ) → at < length old → at < length ms → mark_at old at ≡ Unseen → mark_at ms at ≡ Open → Extends (set old at Open) ms → Extends old (set ms at (Level level))
Extends-visit old ms at level within after is now e = record {
  kept = λ i seen. elim (same_or_not i at) [
    | inl same ↦ absurd (false≢true (sym seen ∙ ap (λ k. is_unseen (mark_at old k)) same ∙ ap is_unseen is))
    | inr differ ↦ mark_at-other ms at i (Level level) differ ∙ e.kept i (ap is_unseen (mark_at-other old at i Open differ) ∙ seen) ∙ mark_at-other old at i Open differ
  ];
  on_the_way = λ i open_there. elim (same_or_not i at) [
    | inl same ↦ absurd (false≢true (ap is_level (sym open_there ∙ ap (mark_at (set ms at (Level level))) same ∙ mark_at-same ms at (Level level) after)))
    | inr differ ↦ sym (mark_at-other old at i Open differ) ∙ e.on_the_way i (sym (mark_at-other ms at i (Level level) differ) ∙ open_there)
  ];
  fewer = omega (arith, e.fewer, unseen-open old at within is, unseen-level ms at level after now);
}

-- what is on the way while a place is visited leads to it
pub LeadsTo-visit : (g : List (List ℕ)) (old ms : List Mark) (at : ℕ) → LeadsTo g old at → Extends (set old at Open) ms → LeadsTo g ms at
LeadsTo-visit g old ms at leads e i is = elim (same_or_not i at) [
  | inl same ↦ (0, same)
  | inr differ ↦ leads i (sym (mark_at-other old at i Open differ) ∙ e.on_the_way i is)
]

-- a walk with one step more
pub Walk-push : (g : List (List ℕ)) (k i j m : ℕ) → Walk g k i j → Contains (targets g j) m → Walk g (suc k) i m
Walk-push g zero i j m walk step = (m, subst (λ (p : ℕ). Contains (targets g p) m) (sym walk) step, refl)
Walk-push g (suc k) i j m walk step = (walk.0, walk.1, Walk-push g k walk.0 j m walk.2 step)

-- `max` as `Ord` has it
pub ord_max-max : (a b : ℕ) → ord_max nat_cmp a b ≡ max a b
ord_max-max a b = grind (arith, nat_tests)
