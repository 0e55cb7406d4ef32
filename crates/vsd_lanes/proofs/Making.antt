-- Operations that are made one after another.
use Rattle.std.proofs.Common.{◌≡◌, ℕ, suc, ◌+◌, ◌-◌, ◌<◌, ◌≤◌, List, [], ◌∷◌, ◌++◌, length, map, drop, get_or, Result, Ok, Err, refl, ap, sym, ◌∙◌, arith}
use Rattle.std.proofs.Math.Seq.{drop-cons}
use Rattle.std.proofs.lemmas.List.{drop_all}
use Rattle.vsd_lanes.specs.declared.tree.Written.{Written}
use Rattle.vsd_lanes.specs.declared.tree.Item.{Item}
use Rattle.vsd_lanes.specs.declared.tree.Item.TheFolds.{fold-roll-Item}
use Rattle.vsd_lanes.specs.declared.tree.Item.TheOpen as layer
use Rattle.vsd_lanes.specs.declared.tree.Item.TheVariants.{Once, Repeat, rolls-Once, rolls-Repeat}
use Rattle.vsd_lanes.specs.declared.tree.Running.{Running}
use Rattle.vsd_lanes.specs.declared.tree.Refusal.{Refusal}
use Rattle.vsd_lanes.specs.declared.tree.Halt.{Halt}
use Rattle.vsd_lanes.specs.declared.tree.Halt.TheVariants as halt
use Rattle.vsd_lanes.specs.Meaning.{and_then, once, makes, times_of, joined, written_of, written_step, Does}

-- ---- what stands in an item

pub written_of-Once : (w : Written) → written_of (Once w) ≡ w ∷ []
written_of-Once w = ap written_of (sym (rolls-Once w)) ∙ fold-roll-Item (List Written) written_step (layer.Once w)

pub written_of-Repeat : (times : ℕ) (body : List Item) → written_of (Repeat times body) ≡ times_of times (joined (map written_of body))
written_of-Repeat times body = ap written_of (sym (rolls-Repeat times body)) ∙ fold-roll-Item (List Written) written_step (layer.Repeat times body)

-- ---- one list after another

pub makes_append : (room : ℕ) (xs ys : List Written) (s : Running) → makes room (xs ++ ys) s ≡ and_then (makes room xs s) (makes room ys)
unfolding makes
makes_append room [] ys s = refl
makes_append room (x ∷ xs) ys s = go (λ t. makes_append room xs ys t) (once room x s)
  where
    go : ((t : Running) → makes room (xs ++ ys) t ≡ and_then (makes room xs t) (makes room ys)) → (o : Result Running Refusal)
        → and_then o (makes room (xs ++ ys)) ≡ and_then (and_then o (makes room xs)) (makes room ys)
    go rest (Ok t) = rest t
    go rest (Err r) = refl

pub makes_one : (room : ℕ) (w : Written) (s : Running) → makes room (w ∷ []) s ≡ once room w s
unfolding makes
makes_one room w s = go (once room w s)
  where
    go : (o : Result Running Refusal) → and_then o (makes room []) ≡ o
    go (Ok t) = refl
    go (Err r) = refl

pub makes_none : (room : ℕ) (s : Running) → makes room [] s ≡ Ok s
unfolding makes
makes_none room s = refl

-- ---- what a call of the code tells

-- the same outcome, told of another
pub does_as : (o p : Result Running Refusal) (r : Result (Unit {0}) Halt) (t : Running) → o ≡ p → Does p r t → Does o r t
does_as o p (Ok x) t e d = e ∙ d
does_as o p (Err halt.Memory) t e d = tt
does_as o p (Err (halt.Refused r)) t e d = e ∙ d

-- the first of two lists was made
pub makes_on : (o : Result Running Refusal) (room : ℕ) (xs ys : List Written) (s t : Running) → o ≡ makes room (xs ++ ys) s → makes room xs s ≡ Ok t → o ≡ makes room ys t
makes_on o room xs ys s t e d = e ∙ makes_append room xs ys s ∙ ap (λ p. and_then p (makes room ys)) d

-- the first of two lists can't be made
pub makes_stop : (o : Result Running Refusal) (room : ℕ) (xs ys : List Written) (s m n : Running) (h : Halt) → o ≡ makes room (xs ++ ys) s → Does (makes room xs s) (Err h) m → Does o (Err h) n
makes_stop o room xs ys s m n halt.Memory e d = tt
makes_stop o room xs ys s m n (halt.Refused r) e d = e ∙ makes_append room xs ys s ∙ ap (λ p. and_then p (makes room ys)) d

-- ---- rounds

pub times_of-suc : (n : ℕ) (ws : List Written) → times_of (suc n) ws ≡ ws ++ times_of n ws
unfolding times_of
times_of-suc n ws = refl

pub times_of-zero : (ws : List Written) → times_of 0 ws ≡ []
unfolding times_of
times_of-zero ws = refl

pub rounds_left : (end at : ℕ) (ws : List Written) → at < end → times_of (end - at) ws ≡ ws ++ times_of (end - (at + 1)) ws
rounds_left end at ws h =
    let e : end - at ≡ suc (end - (at + 1)) = omega arith in
    ap (λ n. times_of n ws) e ∙ times_of-suc (end - (at + 1)) ws

pub no_rounds_left : (end at : ℕ) (ws : List Written) → end ≤ at → times_of (end - at) ws ≡ []
no_rounds_left end at ws h =
    let e : end - at ≡ 0 = omega arith in
    ap (λ n. times_of n ws) e ∙ times_of-zero ws

-- ---- items

pub joined-cons : (xs : List Written) (rest : List (List Written)) → joined (xs ∷ rest) ≡ xs ++ joined rest
unfolding joined
joined-cons xs rest = refl

pub items_left : (items : List Item) (i : ℕ) (x : Item) → i < length items → x ≡ get_or items i x → joined (map written_of (drop i items)) ≡ written_of x ++ joined (map written_of (drop (i + 1) items))
items_left items i x h e =
    let first = drop-cons items i x h in
    let n : suc i ≡ i + 1 = omega arith in
    ap (λ l. joined (map written_of l)) (first ∙ ap (λ k. get_or items i x ∷ drop k items) n ∙ ap (λ y. y ∷ drop (i + 1) items) (sym e)) ∙ joined-cons (written_of x) (map written_of (drop (i + 1) items))

pub no_items_left : (items : List Item) (i : ℕ) → length items ≤ i → joined (map written_of (drop i items)) ≡ []
unfolding joined
no_items_left items i h = ap (λ l. joined (map written_of l)) (drop_all i items h)
