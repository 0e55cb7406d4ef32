-- Whose the seats are. Only a split changes it.
use Rattle.std.specs.Prelude.{◌≡◌, ℕ, ◌<◌, ◌≤◌, Bool, true, false, List}
use mathlib.Core.Option.{some}
use lib.ListN.{get_elem?}
use Rattle.vsd_rule.specs.declared.sizes.Sizes.{Sizes}
use Rattle.vsd_rule.specs.declared.view.Who.{Who}
use Rattle.vsd_rule.specs.declared.view.Who.TheVariants.{Root, Caller}

-- the caller's number; of the root the next caller's
abbrev pub caller_of : Who → ℕ
caller_of (Root next) = next
caller_of (Caller number) = number

-- it is a caller's seat, and not the root
abbrev pub is_caller : Who → Bool
is_caller (Root next) = false
is_caller (Caller number) = true

pub record Seats (s : Sizes) (whos : List Who) : Type 0 where
  -- callers' numbers differ
  pub differ : (i j number : ℕ) → get_elem? whos i ≡ some (Caller number) → get_elem? whos j ≡ some (Caller number) → i ≡ j
  pub one_root : (i j next other : ℕ) → get_elem? whos i ≡ some (Root next) → get_elem? whos j ≡ some (Root other) → i ≡ j
  pub next : (i next : ℕ) → get_elem? whos i ≡ some (Root next) → next ≤ s.callers
  -- the root gives the numbers out in order
  pub before : (i j next number : ℕ) → get_elem? whos i ≡ some (Root next) → get_elem? whos j ≡ some (Caller number) → number < next
  pub in_range : (i number : ℕ) → get_elem? whos i ≡ some (Caller number) → number < s.callers
