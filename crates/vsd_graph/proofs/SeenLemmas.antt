-- How marking what is reached goes on, and what it comes to.
use Rattle.std.proofs.Common.{◌≡◌, ◌≢◌, ℕ, ◌+◌, ◌<◌, ◌↔◌, zero, suc, Bool, true, false, not, cond, List, [], ◌∷◌, ◌++◌, length, get_or, set, take, replicate, inl, inr, refl, sym, ap, ◌∙◌, subst, arith, Contains}
use Rattle.std.proofs.Math.ListN.{length-set}
use Rattle.std.proofs.lemmas.Bool.{false≢true}
use Rattle.std.proofs.lemmas.List.{get_or-set_same, get_or-set_other, take_more}
use Rattle.std.proofs.lemmas.List.Elements.{Contains-push_cases}
use Rattle.std.proofs.lemmas.List.Sums.{sum_by-set}
use Rattle.vsd_graph.specs.Graph.{targets, Walk, ReachesItself}
use Rattle.vsd_graph.specs.Seen.{is_seen, unseen_count, Marks, Sees, Follows}
use Rattle.vsd_graph.proofs.MarkLemmas.{same_or_not}

seen-same : (seen : List Bool) (at : ℕ) → at < length seen → is_seen (set seen at true) at ≡ true
seen-same seen at within = get_or-set_same seen at true false within

seen-other : (seen : List Bool) (at i : ℕ) → i ≢ at → is_seen (set seen at true) i ≡ is_seen seen i
seen-other seen at i differ = get_or-set_other seen at i true false differ

pub unseen-set : (seen : List Bool) (at : ℕ) → at < length seen → is_seen seen at ≡ false → unseen_count (set seen at true) + 1 ≡ unseen_count seen
unseen-set seen at within is =
    let e = sum_by-set (λ b. cond (not b) 1 0) seen at true false within in
    let w = ap {B = ℕ} (λ b. cond (not b) 1 0) is in
    omega (arith, e, w)

-- a place is marked, and then what can be reached from it
pub Sees-follow : (g : List (List ℕ)) (old new : List Bool) (at : ℕ) → at < length old → is_seen old at ≡ false → Follows g (set old at true) new at → Sees g old new at
Sees-follow g old new at within not_yet f = record {
  marks = record {
    count = f.marks.count ∙ length-set old at true;
    kept = λ i is. f.marks.kept i (elim (same_or_not i at) [
      | inl e ↦ ap (is_seen (set old at true)) e ∙ seen-same old at within
      | inr differ ↦ seen-other old at i differ ∙ is
    ]);
    reached = λ i is. elim (f.marks.reached i is) [
      | inl marked ↦ (elim (same_or_not i at) [
        | inl e ↦ inr (0, sym e)
        | inr differ ↦ inl (sym (seen-other old at i differ) ∙ marked)
      ])
      | inr walk ↦ inr (suc walk.0, walk.1)
    ];
    followed = λ i is. elim (f.marks.followed i is) [
      | inl marked ↦ (elim (same_or_not i at) [
        | inl e ↦ inr (λ j step. f.targets_seen j (subst (λ (k : ℕ). Contains (targets g k) j) e step))
        | inr differ ↦ inl (sym (seen-other old at i differ) ∙ marked)
      ])
      | inr all ↦ inr all
    ];
    fewer = omega (arith, f.marks.fewer, unseen-set old at within not_yet);
  };
  here = f.marks.kept at (seen-same old at within);
}

-- nothing is done at a place that is marked
pub Sees-nothing : (g : List (List ℕ)) (old : List Bool) (at : ℕ) → is_seen old at ≡ true → Sees g old old at
Sees-nothing g old at is = record {
  marks = record { count = refl; kept = λ i h. h; reached = λ i h. inl h; followed = λ i h. inl h; fewer = omega arith };
  here = is;
}

abbrev pub On : List (List ℕ) → ℕ → ℕ → Type 0
On g at i = (k : ℕ) × Walk g (suc k) at i

pub Marks-start : (g : List (List ℕ)) (old : List Bool) (at : ℕ) → Marks g old old (On g at)
Marks-start g old at = record { count = refl; kept = λ i h. h; reached = λ i h. inl h; followed = λ i h. inl h; fewer = omega arith }

-- one target more
pub Marks-next : (g : List (List ℕ)) (old mid new : List Bool) (at next : ℕ) → Contains (targets g at) next → Marks g old mid (On g at) → Sees g mid new next → Marks g old new (On g at)
Marks-next g old mid new at next step before s = record {
  count = s.marks.count ∙ before.count;
  kept = λ i is. s.marks.kept i (before.kept i is);
  reached = λ i is. elim (s.marks.reached i is) [
    | inl marked ↦ before.reached i marked
    | inr walk ↦ inr (walk.0, (next, step, walk.1))
  ];
  followed = λ i is. elim (s.marks.followed i is) [
    | inl marked ↦ (elim (before.followed i marked) [ inl early ↦ inl early | inr all ↦ inr (λ j there. s.marks.kept j (all j there)) ])
    | inr all ↦ inr all
  ];
  fewer = omega (arith, s.marks.fewer, before.fewer);
}

pub targets-next : (ts : List ℕ) (n next : ℕ) (mid new : List Bool) → n < length ts → next ≡ get_or ts n 0 → ((i : ℕ) → is_seen mid i ≡ true → is_seen new i ≡ true) → is_seen new next ≡ true → ((j : ℕ) → Contains (take n ts) j → is_seen mid j ≡ true) → (j : ℕ) → Contains (take (n + 1) ts) j → is_seen new j ≡ true
targets-next ts n next mid new within is kept here so_far j w =
    let more = take_more ts n 0 within ∙ ap (λ y. take n ts ++ y ∷ []) (sym is) in
    elim (Contains-push_cases (take n ts) next j (subst (λ (xs : List ℕ). Contains xs j) more w)) [
      | inl early ↦ kept j (so_far j early)
      | inr e ↦ ap (is_seen new) (sym e) ∙ here
    ]

-- what is marked from nothing is what a walk of at least one step leads to
module _ (g : List (List ℕ)) (old new : List Bool) (at : ℕ) (none : (i : ℕ) → is_seen old i ≡ false) (f : Follows g old new at) where
  walked : (k i j : ℕ) → is_seen new i ≡ true → Walk g k i j → is_seen new j ≡ true
  walked zero i j is walk = ap (is_seen new) (sym walk) ∙ is
  walked (suc k) i j is walk = elim (f.marks.followed i is) [
    | inl early ↦ absurd (false≢true (sym (none i) ∙ early))
    | inr all ↦ walked k walk.0 j (all walk.0 walk.1) walk.2
  ]

  pub comes_back : (is_seen new at ≡ true) ↔ ReachesItself g at
  comes_back = (
    λ is. elim (f.marks.reached at is) [
      | inl early ↦ absurd (false≢true (sym (none at) ∙ early))
      | inr walk ↦ walk
    ],
    λ r. walked r.0 r.1.0 at (f.targets_seen r.1.0 r.1.1) r.1.2,
  )

-- nothing is seen at first
pub none_seen : (n i : ℕ) → is_seen (replicate n false) i ≡ false
none_seen zero i = refl
none_seen (suc n) zero = refl
none_seen (suc n) (suc i) = none_seen n i
