-- What is known of questions whether classes have owners.
use Rattle.std.specs.Prelude.{◌≡◌, ℕ, ◌+◌, ◌-◌, ◌<◌, ◌≤◌, ◌↔◌, ◌⊎◌, ◌&&◌, nat_eq, Bool, List, length, Option, Some, All, Contains, IsSome, IsTrue, slice_get}
use denote.Ref.{Bor}
use Rattle.vsd_terms.specs.declared.term.Term.{Term}
use Rattle.vsd_terms.specs.Equality.{term_eq}
use Rattle.vsd_ast.specs.declared.declarations.Decl.{Decl}
use Rattle.vsd_ast.specs.declared.declarations.Override.{Override}
use Rattle.vsd_ways.specs.Known.{owners_at_once, IsMarked, Way}
use Rattle.vsd_ways.specs.Ways.{AreWays}
use Rattle.vsd_overrides.specs.Implements.{HasOwner}
use Rattle.vsd_overrides.specs.declared.asked.Question.{Question}
use Rattle.vsd_overrides.specs.declared.numbered.Numbered.{Numbered}

-- what `==` of questions computes
abbrev pub same_question : Question → Question → Bool
same_question a b = nat_eq a.class b.class && term_eq a.owner.now b.owner.now

-- what is found of a question is whether its class has its owner
pub record AreKnown (ds : List Decl) (find : Question → Option Bool) : Type 0 where
  pub each : (q : Question) (has : Bool) → find q ≡ Some has → IsTrue has ↔ HasOwner ds q.class q.owner.now

-- the classes that are asked are there
abbrev pub AreWithin : ℕ → List Question → Type 0
AreWithin count asked = All (λ (q : Question). q.class < count) asked

-- the question is asked, or its answer is known
abbrev pub IsAskedOrKnown : (Question → Bool) → (Question → Option Bool) → Question → Type 0
IsAskedOrKnown asks find q = IsTrue (asks q) ⊎ IsSome (find q)

-- so is that of each owner of the overrides of a class
abbrev pub AreAskedOrKnown : (Question → Bool) → (Question → Option Bool) → ℕ → List Override → Type 0
AreAskedOrKnown asks find class overrides = (i : ℕ) (o : Override) → slice_get overrides i ≡ Some o
    → (q : Question) → q.class ≡ class → q.owner.now ≡ o.owner → IsAskedOrKnown asks find q

-- whether the class has the owner is known
abbrev pub Knows : (Question → Option Bool) → ℕ → Term → Type 0
Knows find class owner = (q : Question) → q.class ≡ class → q.owner.now ≡ owner → IsSome (find q)

-- so it is of each owner of the overrides of a class
abbrev pub KnowsEach : (Question → Option Bool) → ℕ → List Override → Type 0
KnowsEach find class overrides = (i : ℕ) (o : Override) → slice_get overrides i ≡ Some o → Knows find class o.owner

-- ---- questions with the numbers of their owners

-- the class that is asked is there, and the owner has its number
pub record IsNumbered (count : ℕ) (owners : List (Bor Term)) (n : Numbered) : Type 0 where
  pub class : n.question.class < count
  pub owner : Bor Term
  pub there : slice_get owners n.number ≡ Some owner
  pub same : owner.now ≡ n.question.owner.now

abbrev pub AreNumbered : ℕ → List (Bor Term) → List Numbered → Type 0
AreNumbered count owners asked = All (IsNumbered count owners) asked

-- the question is one of these
pub record HasQuestion (asked : List Numbered) (q : Question) : Type 0 where
  pub numbered : Numbered
  pub there : Contains asked numbered
  pub is : numbered.question ≡ q

-- the answer to the question at this place is known
abbrev pub KnowsAt : (Question → Option Bool) → List Numbered → ℕ → Type 0
KnowsAt find asked o = (n : Numbered) → slice_get asked o ≡ Some n → Knows find n.question.class n.question.owner.now

-- the questions at these places are to the class of the first of them
abbrev pub IsOneClass : List Numbered → ℕ → ℕ → Type 0
IsOneClass asked from to = (o : ℕ) (a b : Numbered) → from ≤ o → o < to
    → slice_get asked from ≡ Some a → slice_get asked o ≡ Some b → b.question.class ≡ a.question.class

-- this owner is asked for where the one of the first number is the first
abbrev pub IsNear : ℕ → Numbered → Type 0
IsNear first n = (first ≤ n.number) × (n.number < first + owners_at_once)

-- the owners of the questions are asked for at once
abbrev pub AreNear : ℕ → List Numbered → Type 0
AreNear first asked = (o : ℕ) (n : Numbered) → slice_get asked o ≡ Some n → IsNear first n

-- so are those of the questions at these places, where that of the first of them is the first
abbrev pub AreNearFrom : List Numbered → ℕ → ℕ → Type 0
AreNearFrom asked from to = (o : ℕ) (a b : Numbered) → from ≤ o → o < to
    → slice_get asked from ≡ Some a → slice_get asked o ≡ Some b → IsNear a.number b

-- the marks, the first of which is that of the owner of the first number, tell the answers
abbrev pub TellsOf : List Decl → List Numbered → ℕ → List Bool → Type 0
TellsOf ds asked first had = (o : ℕ) (n : Numbered) → slice_get asked o ≡ Some n
    → IsMarked had (n.number - first) ↔ HasOwner ds n.question.class n.question.owner.now

-- the class that is asked is there, and the owner is one of these, the first of which has the first number
pub record IsOwnerOf (count : ℕ) (owners : List Term) (first : ℕ) (n : Numbered) : Type 0 where
  pub class : n.question.class < count
  pub near : IsNear first n
  pub there : slice_get owners (n.number - first) ≡ Some n.question.owner.now

-- the table has the ways of the owners of the questions
pub record IsTableFor (ds : List Decl) (asked : List Numbered) (first : ℕ) (table : List (List Way)) : Type 0 where
  pub owners : List Term
  pub ways : AreWays ds owners table
  pub asks : (o : ℕ) (n : Numbered) → slice_get asked o ≡ Some n → IsOwnerOf (length ds) owners first n
