-- Programs over the shared table, as data, and the lists of steps that are runs of them.
use Rattle.std.specs.Prelude.{◌≡◌, ℕ, ◌+◌, ◌≤◌, Bool, true, false, List, [], ◌∷◌, ◌++◌, Option}
use Rattle.vsd_rule.specs.declared.key.Key.{Key}
use Rattle.vsd_rule.specs.declared.row_view.RetiredRow.{RetiredRow}
use Rattle.vsd_rule.specs.declared.step.Act.{Act}
use Rattle.vsd_rule.specs.declared.step.Act.TheVariants.{LoadRow, Unbind, EpochToRetire, FreeSwept}
use Rattle.vsd_rule.specs.declared.step.RowWord.TheVariants.{Claim}
use Rattle.vsd_rule.specs.declared.step.Begins.{Begins}
use Rattle.vsd_rule.specs.declared.step.Step.{Step}
use Rattle.vsd_rule.specs.RowSteps.{next_row, without_oldest}

-- what a view has that decides which step comes next
pub record Fields : Type 0 where
  pub cursor : ℕ
  pub limbo : List RetiredRow

-- a step that was made, with what it began where no word tells it
pub record TrailStep : Type 0 where
  pub step : Step
  pub begins : Option Begins

-- a step that a program asks for
pub record Asked : Type 0 where
  pub act : Act
  pub begins : Option Begins

-- A program that ends in a value of type A.
pub data Program (A : Type 0) : Type 0 where
  -- makes no more step, and answers this
  done : A → Program A
  -- goes on by the cursor and the limbo as they stand
  look : (Fields → Program A) → Program A
  -- makes one step, and goes on by the word that it finds
  ask : Asked → (ℕ → Program A) → Program A

-- one program, and then one that goes on by its answer
unfoldable pub bind : {A B : Type 0} → Program A → (A → Program B) → Program B
bind (done a) g = g a
bind (look p) g = look (λ f. bind (p f) g)
bind (ask c p) g = ask c (λ word. bind (p word) g)

infixl 10 ◌>>=◌ ◌>>◌
abbrev pub ◌>>=◌ : {A B : Type 0} → Program A → (A → Program B) → Program B
p >>= g = bind p g

-- one program, and then one that needs no answer of it
abbrev pub ◌>>◌ : {A B : Type 0} → Program A → Program B → Program B
p >> q = bind p (λ answer. q)

-- one program or another, by a test
infix 5 when◌then◌else◌
unfoldable pub when◌then◌else◌ : {A : Type 0} → Bool → Program A → Program A → Program A
when◌then◌else◌ true p q = p
when◌then◌else◌ false p q = q

-- ---- what a step is asked to be, and what it makes of the fields

-- the type's number in a store of an own handle word is the one that the word had, so no program asks for it
abbrev pub asked_act : Act → Act
asked_act (Unbind row generation number) = Unbind row generation 0
asked_act act = act

abbrev pub asked_of : TrailStep → Asked
asked_of x = record { act = asked_act x.step.act; begins = x.begins }

abbrev pub fields_at : TrailStep → Fields
fields_at x = record { cursor = x.step.cursor; limbo = x.step.limbo }

-- The cursor moves past each row whose claim word is loaded. A row enters limbo at the end, and leaves it at the front.
abbrev pub after_act : Key → Fields → Act → ℕ → Fields
after_act k f (LoadRow row Claim) found = record f { cursor = next_row k row }
after_act k f (EpochToRetire row) found = record f { limbo = f.limbo ++ record { row = row; epoch = found } ∷ [] }
after_act k f (FreeSwept row) found = record f { limbo = without_oldest f.limbo }
after_act k f act found = f

abbrev pub after_step : Key → Fields → TrailStep → Fields
after_step k f x = after_act k f x.step.act x.step.found

abbrev pub after_steps : Key → Fields → List TrailStep → Fields
after_steps k f [] = f
after_steps k f (x ∷ xs) = after_steps k (after_step k f x) xs

-- ---- runs

-- The steps, the first one first, are a whole run of the program that begins at these fields and ends in this answer.
abbrev pub Runs : {A : Type 0} → Key → Fields → Program A → List TrailStep → A → Type 0
Runs k f (done b) [] a = b ≡ a
Runs k f (done b) (x ∷ xs) a = ⊥
Runs k f (look p) xs a = Runs k f (p f) xs a
Runs k f (ask c p) [] a = ⊥
Runs k f (ask c p) (x ∷ xs) a = (asked_of x ≡ c) × (fields_at x ≡ f) × Runs k (after_step k f x) (p x.step.found) xs a

-- a list of steps as a view has it, the latest first, with more steps, of which the first was made first
abbrev pub onto : List TrailStep → List TrailStep → List TrailStep
onto [] old = old
onto (x ∷ xs) old = onto xs (x ∷ old)

-- ---- what is said of all runs of a program

-- no run has more steps
abbrev pub AtMost : {A : Type 0} → ℕ → Program A → Type 0
AtMost n (done a) = Unit {0}
AtMost n (look p) = (f : Fields) → AtMost n (p f)
AtMost n (ask c p) = (m : ℕ) × (m + 1 ≤ n) × ((word : ℕ) → AtMost m (p word))

-- each step that it asks for has the property
abbrev pub AsksOnly : {A : Type 0} → (Asked → Type 0) → Program A → Type 0
AsksOnly P (done a) = Unit {0}
AsksOnly P (look p) = (f : Fields) → AsksOnly P (p f)
AsksOnly P (ask c p) = P c × ((word : ℕ) → AsksOnly P (p word))

abbrev pub EachStep : (Asked → Type 0) → List TrailStep → Type 0
EachStep P [] = Unit {0}
EachStep P (x ∷ xs) = P (asked_of x) × EachStep P xs
