-- What the generic loops are told of the closures that they are given.
use Rattle.std.specs.Prelude.{◌≡◌, ℕ, List, Result, Ok, nat_lt}
use denote.Ref.{Bor, MutBor}
use Rattle.vsd_grammar.specs.declared.syntax_error.Stop.{Stop}
use Rattle.vsd_grammar.specs.Input.{Input}
use Rattle.vsd_grammar.specs.Grammar.{Outcome, and_then, after_turn}
use Rattle.vsd_grammar.specs.Productions.{Reads}

-- each call of the closure gives the value of this function
abbrev pub Computes : {A B : Type 0} → (A → B → Type 0) → (A → B) → Type 0
Computes {A} {B} post f = (x : A) (y : B) → post x y → y ≡ f x

-- each call of the closure with a class and bytes gives the value of this function
abbrev pub ComputesOfToken : {A C : Type 0} → (A → Bor (List ℕ) → C → Type 0) → (A → List ℕ → C) → Type 0
ComputesOfToken {A} {C} post f = (x : A) (b : Bor (List ℕ)) (y : C) → post x b y → y ≡ f x b.now

-- each call of the closure gives the value of this function, whatever else that takes
abbrev pub ComputesFirst : {A S B : Type 0} → (A → B → Type 0) → (A → S → B) → Type 0
ComputesFirst {A} {S} {B} post f = (x : A) (s : S) (y : B) → post x y → y ≡ f x s

abbrev pub Computes₂ : {A B C : Type 0} → (A → B → C → Type 0) → (A → B → C) → Type 0
Computes₂ {A} {B} {C} post f = (x : A) (y : B) (z : C) → post x y z → z ≡ f x y

-- each call of the closure reads as this reading does
abbrev pub ReadsAs : {A : Type 0} → (MutBor Input → Result A Stop → MutBor Input → Type 0) → (Input → Outcome A) → Type 0
ReadsAs {A} post p = (old : MutBor Input) (r : Result A Stop) (new : MutBor Input) → post old r new → Reads (p old.now) r new.now

abbrev pub ReadsFrom : {S : Type 0} → (MutBor Input → S → Result S Stop → MutBor Input → Type 0) → (S → Input → Outcome S) → Type 0
ReadsFrom {S} post step = (old : MutBor Input) (s : S) (r : Result S Stop) (new : MutBor Input) → post old s r new → Reads (step s old.now) r new.now

-- one item, which has to take a token
abbrev pub one_turn : {S : Type 0} → (S → Input → Outcome S) → S → Input → Outcome S
one_turn step s i = and_then (step s i) (λ t k. after_turn (nat_lt i.at k.at) k (Ok (t, k)))
