-- What programs ask for, by their parts.
use Rattle.std.proofs.Common.{ℕ, Bool, true, false}
use Rattle.vsd_trails.specs.Programs.{Fields, Asked, Program, done, look, ask, bind, when◌then◌else◌, AsksOnly}

module _ (P : Asked → Type 0) where
  bind_asks : {A B : Type 0} (p : Program A) (g : A → Program B) → AsksOnly P p → ((a : A) → AsksOnly P (g a)) → AsksOnly P (bind p g)
  unfolding bind
  bind_asks (done a) g only next = next a
  bind_asks (look p) g only next = λ f. bind_asks (p f) g (only f) next
  bind_asks (ask c p) g only next = (only.0, λ word. bind_asks (p word) g (only.1 word) next)

  -- the program asks for such steps alone
  pub record Only {A : Type 0} (p : Program A) : Type 0 where
    pub only : AsksOnly P p

  pub nothing : {A : Type 0} {a : A} → Only (done a)
  nothing = record { only = tt }

  pub one : {A : Type 0} {c : Asked} {read : ℕ → A} → P c → Only (ask c (λ word. done (read word)))
  one is = record { only = (is, λ word. tt) }

  pub sees : {A : Type 0} {p : Fields → Program A} → ((f : Fields) → Only (p f)) → Only (look p)
  sees each = record { only = λ f. (each f).only }

  pub and_then : {A B : Type 0} {p : Program A} {g : A → Program B} → Only p → ((a : A) → Only (g a)) → Only (bind p g)
  and_then {p = p} {g = g} f next = record { only = bind_asks p g f.only (λ a. (next a).only) }

  pub either : {A : Type 0} {p q : Program A} (b : Bool) → Only p → Only q → Only (when b then p else q)
  unfolding when◌then◌else◌
  either true f g = record { only = f.only }
  either false f g = record { only = g.only }

weaker_asks : {A : Type 0} (P Q : Asked → Type 0) → ((c : Asked) → P c → Q c) → (p : Program A) → AsksOnly P p → AsksOnly Q p
weaker_asks P Q weaker (done a) only = tt
weaker_asks P Q weaker (look p) only = λ f. weaker_asks P Q weaker (p f) (only f)
weaker_asks P Q weaker (ask c p) only = (weaker c only.0, λ word. weaker_asks P Q weaker (p word) (only.1 word))

pub only_weaker : {A : Type 0} (P Q : Asked → Type 0) {p : Program A} → ((c : Asked) → P c → Q c) → Only P p → Only Q p
only_weaker P Q {p} weaker f = record { only = weaker_asks P Q weaker p f.only }
