-- The most steps that a program takes, by its parts.
use Rattle.std.proofs.Common.{ℕ, zero, suc, ◌+◌, ◌*◌, ◌≤◌, min, Bool, true, false, List, [], ◌∷◌, Option, Some, None, arith}
use Rattle.std.proofs.Math.Nat.{min-le_left}
use Rattle.vsd_words.specs.declared.handle.Handle.{Handle}
use Rattle.vsd_rule.specs.declared.key.Key.{Key}
use Rattle.vsd_rule.specs.declared.row_view.RetiredRow.{RetiredRow}
use Rattle.vsd_rule.specs.declared.step.Act.{Act}
use Rattle.vsd_rule.specs.declared.step.Doing.{Doing}
use Rattle.vsd_trails.specs.Programs.{Fields, Asked, Program, done, look, ask, bind, when◌then◌else◌, AtMost}
use Rattle.vsd_trails.specs.RowTrails.{pinning, claiming_row, claiming_from, claiming, filling, seeing_room, retiring, retiring_any, passing, sweeping_oldest, sweeping, unlinking}

-- ---- programs in general

more : {A : Type 0} (n m : ℕ) (p : Program A) → n ≤ m → AtMost n p → AtMost m p
more n m (done a) le few = tt
more n m (look p) le few = λ f. more n m (p f) le (few f)
more n m (ask c p) le few = let room = few.1 in (few.0, omega arith, few.2)

at_bind : {A B : Type 0} (n m : ℕ) (p : Program A) (g : A → Program B) → AtMost n p → ((a : A) → AtMost m (g a)) → AtMost (n + m) (bind p g)
unfolding bind
at_bind n m (done a) g few next = more m (n + m) (g a) (omega arith) (next a)
at_bind n m (look p) g few next = λ f. at_bind n m (p f) g (few f) next
at_bind n m (ask c p) g few next = let room = few.1 in (few.0 + m, omega arith, λ word. at_bind few.0 m (p word) g (few.2 word) next)

pub record Few {A : Type 0} (n : ℕ) (p : Program A) : Type 0 where
  pub few : AtMost n p

pub within : {A : Type 0} {n m : ℕ} {p : Program A} → n ≤ m → Few n p → Few m p
within {A} {n} {m} {p} le f = record { few = more n m p le f.few }

pub nothing : {A : Type 0} (n : ℕ) {a : A} → Few n (done a)
nothing n = record { few = tt }

pub one : {A : Type 0} {c : Asked} {read : ℕ → A} → Few 1 (ask c (λ word. done (read word)))
one = record { few = (0, omega arith, λ word. tt) }

pub sees : {A : Type 0} {n : ℕ} {p : Fields → Program A} → ((f : Fields) → Few n (p f)) → Few n (look p)
sees each = record { few = λ f. (each f).few }

pub and_then : {A B : Type 0} {n m : ℕ} {p : Program A} {g : A → Program B} → Few n p → ((a : A) → Few m (g a)) → Few (n + m) (bind p g)
and_then {n = n} {m = m} {p = p} {g = g} f next = record { few = at_bind n m p g f.few (λ a. (next a).few) }

pub either : {A : Type 0} {n : ℕ} {p q : Program A} (b : Bool) → Few n p → Few n q → Few n (when b then p else q)
unfolding when◌then◌else◌
either true f g = record { few = f.few }
either false f g = record { few = g.few }

-- ---- pins, rows and limbo

pub at_pinning : (doing : Doing) → Few 2 (pinning doing)
unfolding pinning
at_pinning doing = and_then one (λ epoch. one)

at_claiming_row : (row : ℕ) → Few 2 (claiming_row row)
unfolding claiming_row
at_claiming_row row = and_then one (λ free. either free one (nothing 1))

at_claiming_from : (k : Key) (n row : ℕ) → Few (2 * n) (claiming_from k n row)
unfolding claiming_from
at_claiming_from k zero row = nothing (2 * zero)
at_claiming_from k (suc n) row = within (omega arith) (and_then (at_claiming_row row) (λ won. either won (nothing (2 * n)) (at_claiming_from k n _)))

pub at_claiming : (k : Key) → Few 16 (claiming k)
unfolding claiming
at_claiming k = let few = min-le_left 8 k.sizes.rows in sees (λ f. within (omega arith) (at_claiming_from k (min 8 k.sizes.rows) f.cursor))

pub at_filling : (row : ℕ) (h : Handle) (token target : ℕ) → Few 3 (filling row h token target)
unfolding filling
at_filling row h token target = and_then one (λ a. and_then one (λ b. one))

pub at_seeing_room : Few 0 seeing_room
at_seeing_room = sees (λ f. nothing 0)

pub at_retiring : (row : ℕ) → Few 2 (retiring row)
unfolding retiring
at_retiring row = and_then one (λ epoch. either _ one (nothing 1))

pub at_retiring_any : (out : Option ℕ) → Few 2 (retiring_any out)
at_retiring_any None = nothing 2
at_retiring_any (Some row) = at_retiring row

pub at_unlinking : (act : Act) (row : ℕ) → Few 3 (unlinking act row)
unfolding unlinking
at_unlinking act row = and_then one (λ won. either won (at_retiring row) (nothing 2))

at_passing : (x : RetiredRow) (n caller : ℕ) → Few (n + 1) (passing x n caller)
unfolding passing
at_passing x zero caller = within (omega arith) (and_then one (λ u. nothing 0))
at_passing x (suc n) caller = within (omega arith) (and_then one (λ word. either _ (at_passing x n (caller + 1)) (nothing (n + 1))))

at_sweeping_oldest : (k : Key) (limbo : List RetiredRow) → Few (k.sizes.callers + 1) (sweeping_oldest k limbo)
at_sweeping_oldest k [] = nothing (k.sizes.callers + 1)
at_sweeping_oldest k (x ∷ xs) = at_passing x k.sizes.callers 0

pub at_sweeping : (k : Key) → Few (k.sizes.callers + 1) (sweeping k)
unfolding sweeping
at_sweeping k = sees (λ f. at_sweeping_oldest k f.limbo)
