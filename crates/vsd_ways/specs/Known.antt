-- What is known of the arguments of a type, place by place, and for which owners.
use Rattle.std.specs.Prelude.{◌≡◌, ℕ, ◌<◌, Bool, true, List, map, take, length, Option, Some, None, slice_get}
use Rattle.std.specs.Cmp.Lexicographic.{pointwise}
use Rattle.std.specs.Option.{option_eq}
use Rattle.std.specs.Global.{Vec}
use denote.Ref.{Bor}
use Rattle.vsd_terms.specs.declared.term.Term.{Term}
use Rattle.vsd_terms.specs.Equality.{term_eq}
use Rattle.vsd_ways.specs.Found.{SomeOf}

-- the argument is the one that is wanted, where one is
abbrev pub Wants : Option Term → Term → Type 0
Wants None t = Unit {0}
Wants (Some wanted) t = t ≡ wanted

-- the arguments are as many as the places, and each is the one that is known of its place
pub record Meets (known : List (Option Term)) (args : List Term) : Type 0 where
  pub long : length args ≡ length known
  pub there : (i : ℕ) (wanted : Option Term) (t : Term) → slice_get known i ≡ Some wanted → slice_get args i ≡ Some t → Wants wanted t

-- the same of the places before n alone, whatever the lengths
pub record MeetsBefore (n : ℕ) (known : List (Option Term)) (args : List Term) : Type 0 where
  pub there : (i : ℕ) (wanted : Option Term) (t : Term) → i < n → slice_get known i ≡ Some wanted → slice_get args i ≡ Some t → Wants wanted t

abbrev pub MeetsSome : Option (Vec (Option Term)) → List Term → Type 0
MeetsSome None args = ⊥
MeetsSome (Some known) args = Meets known.items args

-- the row of marks has one for the owner of this number
abbrev pub IsMarked : List Bool → ℕ → Type 0
IsMarked marks o = slice_get marks o ≡ Some true

-- a way: what is known of the arguments, and the row of marks of the owners for which it is one
abbrev pub Way : Type 0
Way = List (Option Term) × List Bool

-- the way is one for the owner of this number, and the arguments meet it
abbrev pub Serves : ℕ → List Term → Way → Type 0
Serves o args way = IsMarked way.1 o × Meets way.0 args

-- the arguments meet a way that is marked for the owner of this number
abbrev pub MeetsFor : List Way → ℕ → List Term → Type 0
MeetsFor ways o args = SomeOf (Serves o args) ways

abbrev pub ways_in : List (Vec (Option Term) × List Bool) → List Way
ways_in entries = map (λ e. (e.0.items, e.1)) entries

-- what `==` of what is known computes
abbrev pub same_known : List (Option Term) → List (Option Term) → Bool
same_known = pointwise (option_eq term_eq)

-- so many owners are asked for at once
abbrev pub owners_at_once : ℕ
owners_at_once = 64

-- the owners that are asked for at once: the first of these
unfoldable pub owners_in : List (Bor Term) → List Term
owners_in owners = take owners_at_once (map (λ owner. owner.now) owners)
