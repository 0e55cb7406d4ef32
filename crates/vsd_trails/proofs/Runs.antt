-- The laws of runs, each by induction on the program or the list of steps.
use Rattle.std.proofs.Common.{◌≡◌, ℕ, ◌≤◌, List, [], ◌∷◌, ◌++◌, length, refl, sym, ◌∙◌, ap, subst, arith}
use Rattle.vsd_rule.specs.declared.key.Key.{Key}
use Rattle.vsd_trails.specs.Programs.{Fields, TrailStep, Asked, Program, done, look, ask, bind, after_step, after_steps, Runs, onto, AtMost, AsksOnly, EachStep}
use Rattle.vsd_trails.specs.Laws.{TwoRuns}

pub one_answer : {A : Type 0} (k : Key) (f : Fields) (p : Program A) (xs : List TrailStep) (a b : A) → Runs k f p xs a → Runs k f p xs b → a ≡ b
one_answer k f (done c) [] a b r s = sym r ∙ s
one_answer k f (done c) (x ∷ xs) a b r s = absurd r
one_answer k f (look p) xs a b r s = one_answer k f (p f) xs a b r s
one_answer k f (ask c p) [] a b r s = absurd r
one_answer k f (ask c p) (x ∷ xs) a b r s = one_answer k (after_step k f x) (p x.step.found) xs a b r.2 s.2

pub ends_once : {A : Type 0} (k : Key) (f : Fields) (p : Program A) (xs : List TrailStep) (y : TrailStep) (ys : List TrailStep) (a b : A) → Runs k f p xs a → Runs k f p (xs ++ y ∷ ys) b → ⊥
ends_once k f (done c) [] y ys a b r s = s
ends_once k f (done c) (x ∷ xs) y ys a b r s = r
ends_once k f (look p) xs y ys a b r s = ends_once k f (p f) xs y ys a b r s
ends_once k f (ask c p) [] y ys a b r s = r
ends_once k f (ask c p) (x ∷ xs) y ys a b r s = ends_once k (after_step k f x) (p x.step.found) xs y ys a b r.2 s.2

pub joins : {A B : Type 0} (k : Key) (f : Fields) (p : Program A) (g : A → Program B) (xs ys : List TrailStep) (a : A) (b : B) → Runs k f p xs a → Runs k (after_steps k f xs) (g a) ys b → Runs k f (bind p g) (xs ++ ys) b
unfolding bind
joins k f (done c) g [] ys a b r s = subst (λ (v : _). Runs k f (g v) ys b) (sym r) s
joins k f (done c) g (x ∷ xs) ys a b r s = absurd r
joins k f (look p) g xs ys a b r s = joins k f (p f) g xs ys a b r s
joins k f (ask c p) g [] ys a b r s = absurd r
joins k f (ask c p) g (x ∷ xs) ys a b r s = (r.0, r.1, joins k (after_step k f x) (p x.step.found) g xs ys a b r.2 s)

-- a run with its answer mapped
pub maps : {A B : Type 0} (k : Key) (f : Fields) (p : Program A) (g : A → B) (xs : List TrailStep) (a : A) → Runs k f p xs a → Runs k f (bind p (λ b. done (g b))) xs (g a)
unfolding bind
maps k f (done c) g [] a r = ap g r
maps k f (done c) g (x ∷ xs) a r = absurd r
maps k f (look p) g xs a r = maps k f (p f) g xs a r
maps k f (ask c p) g [] a r = absurd r
maps k f (ask c p) g (x ∷ xs) a r = (r.0, r.1, maps k (after_step k f x) (p x.step.found) g xs a r.2)

pub splits : {A B : Type 0} (k : Key) (f : Fields) (p : Program A) (g : A → Program B) (zs : List TrailStep) (b : B) → Runs k f (bind p g) zs b → TwoRuns A B k f p g zs b
unfolding bind
splits k f (done a) g zs b r = record { prefix = []; rest = zs; answer = a; whole = refl; first = refl; second = r }
splits k f (look p) g zs b r =
    let t = splits k f (p f) g zs b r in
    record { prefix = t.prefix; rest = t.rest; answer = t.answer; whole = t.whole; first = t.first; second = t.second }
splits k f (ask c p) g [] b r = absurd r
splits k f (ask c p) g (x ∷ xs) b r =
    let t = splits k (after_step k f x) (p x.step.found) g xs b r.2 in
    record { prefix = x ∷ t.prefix; rest = t.rest; answer = t.answer; whole = ap (λ (l : List TrailStep). x ∷ l) t.whole; first = (r.0, r.1, t.first); second = t.second }

pub is_bounded : {A : Type 0} (n : ℕ) (k : Key) (f : Fields) (p : Program A) (xs : List TrailStep) (a : A) → AtMost n p → Runs k f p xs a → length xs ≤ n
is_bounded n k f (done c) [] a few r = omega arith
is_bounded n k f (done c) (x ∷ xs) a few r = absurd r
is_bounded n k f (look p) xs a few r = is_bounded n k f (p f) xs a (few f) r
is_bounded n k f (ask c p) [] a few r = absurd r
is_bounded n k f (ask c p) (x ∷ xs) a few r =
    let shorter = is_bounded few.0 k (after_step k f x) (p x.step.found) xs a (few.2 x.step.found) r.2 in
    let room = few.1 in
    omega arith

pub makes_only : {A : Type 0} (P : Asked → Type 0) (k : Key) (f : Fields) (p : Program A) (xs : List TrailStep) (a : A) → AsksOnly P p → Runs k f p xs a → EachStep P xs
makes_only P k f (done c) [] a only r = tt
makes_only P k f (done c) (x ∷ xs) a only r = absurd r
makes_only P k f (look p) xs a only r = makes_only P k f (p f) xs a (only f) r
makes_only P k f (ask c p) [] a only r = absurd r
makes_only P k f (ask c p) (x ∷ xs) a only r = (subst P (sym r.0) only.0, makes_only P k (after_step k f x) (p x.step.found) xs a (only.1 x.step.found) r.2)

-- ---- lists as views have them

pub onto_after : (xs ys old : List TrailStep) → onto (xs ++ ys) old ≡ onto ys (onto xs old)
onto_after [] ys old = refl
onto_after (x ∷ xs) ys old = onto_after xs ys (x ∷ old)

pub after_steps-append : (k : Key) (f : Fields) (xs ys : List TrailStep) → after_steps k f (xs ++ ys) ≡ after_steps k (after_steps k f xs) ys
after_steps-append k f [] ys = refl
after_steps-append k f (x ∷ xs) ys = after_steps-append k (after_step k f x) xs ys
