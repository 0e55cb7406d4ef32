-- What may be done to a word by a step of a kind, and what stays of a seat over any step.
use Rattle.std.specs.Prelude.{◌≡◌, ℕ, ◌+◌, ◌%◌, ◌^◌, ◌==◌}
use mathlib.Core.Option.{none}
use prog.Atomic.{either}
use Rattle.atomic_table.specs.Table.{State, Me, step, Allows}
use Rattle.vsd_rule.specs.declared.view.View.{View}
use Rattle.vsd_table.specs.Opened.{Ruled}
use Rattle.vsd_table.specs.StepKind.{Kind, made}
use Rattle.vsd_table.specs.Seating.{key_of}
use Rattle.vsd_table.specs.declared.shared.Shared.{Shared}
use Rattle.vsd_table.specs.declared.seated.Seated.{Seated}

-- how many words the table has in memory
abbrev pub words_of : Shared → ℕ
words_of table = table.table.shared.table_id.words

-- the seat's table and its number among the seats stay, and so does what it has begun
pub record StaysSeat (old new : Seated) : Type 0 where
  pub table_id : new.seat.table_id ≡ old.seat.table_id
  pub seat : new.seat.id ≡ old.seat.id
  pub begun : new.begun ≡ old.begun

-- a step of the kind that makes of the word at the index what the function gives keeps the rule, and tells what its kind says
abbrev pub May : Kind → Shared → Seated → ℕ → (ℕ → ℕ) → (ℕ → Me (Unit {0}) View → Type 0) → Type 0
May kind table seated index becomes tells =
    Allows (λ (s : State (Unit {0}) View). Ruled (key_of table) s.words s.views) table.table.shared.table_id.slots seated.seat.id seated.seat.me index becomes tells

module _ (kind : Kind) (table : Shared) (seated : Seated) (index : ℕ) where
  abbrev slots : ℕ
  slots = table.table.shared.table_id.slots

  abbrev pub MayLoad : Type 0
  MayLoad = May kind table seated index (λ n. n) (made kind (step slots index 0 0 none) seated.seat.me)

  abbrev pub MayStore : ℕ → Type 0
  MayStore new = May kind table seated index (λ _. new) (λ _. made kind (step slots index new 0 none) seated.seat.me new)

  abbrev pub MaySwap : ℕ → Type 0
  MaySwap new = May kind table seated index (λ _. new) (made kind (step slots index new 0 none) seated.seat.me)

  abbrev pub MayExchange : ℕ → ℕ → Type 0
  MayExchange old new = May kind table seated index (λ n. either (n == old) new n) (made kind (step slots index old new none) seated.seat.me)

  abbrev pub MayAdd : ℕ → Type 0
  MayAdd k = May kind table seated index (λ n. (n + k) % 2 ^ 64) (made kind (step slots index k 0 none) seated.seat.me)
