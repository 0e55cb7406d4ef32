-- Which variables are live, place by place.
use Rattle.std.proofs.Common.{◌≡◌, ℕ, suc, ◌+◌, ◌<◌, ◌≤◌, cond, List, [], ◌∷◌, ◌++◌, length, take, drop, get_or, ap, sym, refl, ◌∙◌, arith, append_assoc, eqb}
use Rattle.std.proofs.Math.Seq.{drop-cons}
use Rattle.std.proofs.lemmas.Bool.{eq-eqb, ne_eqb}
use Rattle.std.proofs.lemmas.List.{append-nil, drop_all, take_all, take_more}
use Rattle.vsd_lanes.specs.declared.tree.Live.{Live}
use Rattle.vsd_lanes.specs.Meaning.{without}

without-cons : (l : Live) (ls : List Live) (v : ℕ) → without (l ∷ ls) v ≡ cond (eqb l.variable v) ls (l ∷ without ls v)
unfolding without
without-cons l ls v = refl

opened : (live : List Live) (i : ℕ) (d : Live) → i < length live → drop i live ≡ get_or live i d ∷ drop (i + 1) live
opened live i d h =
    let n : suc i ≡ i + 1 = omega arith in
    drop-cons live i d h ∙ ap (λ k. get_or live i d ∷ drop k live) n

pub without_here : (live : List Live) (i v : ℕ) (d : Live) → i < length live → (get_or live i d).variable ≡ v → without (drop i live) v ≡ drop (i + 1) live
without_here live i v d h e =
    ap (λ l. without l v) (opened live i d h) ∙ without-cons (get_or live i d) (drop (i + 1) live) v
    ∙ ap (λ b. cond b (drop (i + 1) live) (get_or live i d ∷ without (drop (i + 1) live) v)) (eq-eqb (get_or live i d).variable v e)

pub without_later : (live : List Live) (i v : ℕ) (d : Live) → i < length live → ((get_or live i d).variable ≡ v → ⊥)
    → take i live ++ without (drop i live) v ≡ take (i + 1) live ++ without (drop (i + 1) live) v
without_later live i v d h e =
    let n = take_more live i d h in
    ap (λ l. take i live ++ without l v) (opened live i d h) ∙ ap (λ l. take i live ++ l) (without-cons (get_or live i d) (drop (i + 1) live) v)
    ∙ ap (λ b. take i live ++ cond b (drop (i + 1) live) (get_or live i d ∷ without (drop (i + 1) live) v)) (ne_eqb (get_or live i d).variable v e)
    ∙ sym (append_assoc (take i live) (get_or live i d ∷ []) (without (drop (i + 1) live) v))
    ∙ ap (λ l. l ++ without (drop (i + 1) live) v) (sym n)

pub without_none : (live : List Live) (i v : ℕ) → length live ≤ i → take i live ++ without (drop i live) v ≡ live
unfolding without
without_none live i v h = ap (λ l. take i live ++ without l v) (drop_all i live h) ∙ append-nil (take i live) ∙ take_all i live h
