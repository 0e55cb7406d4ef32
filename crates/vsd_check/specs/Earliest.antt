-- The first of what shows in one pass.
use Rattle.std.specs.Prelude.{ℕ, cond, nat_lt, Option, Some, None, IfSome}
use Rattle.std.specs.Option.{IsSomeAnd}
use Rattle.vsd_check.specs.Refusals.{NoLater}
use Rattle.vsd_check.specs.declared.refusal.Cause.{Cause}
use Rattle.vsd_check.specs.declared.refusal.Shown.{Shown}

-- the answer shows; and where something shows, there is an answer, which is no later
pub record IsFirst (P : Shown → Type 0) (answer : Option Shown) : Type 0 where
  pub shows : IfSome answer P
  pub first : (s : Shown) → P s → IsSomeAnd answer (λ found. NoLater found s)

-- what was found so far, or this cause at a line before it
abbrev pub sooner_of : Option Shown → Cause → Option ℕ → Option Shown
sooner_of found c None = found
sooner_of None c (Some line) = Some (record { line = line; cause = c })
sooner_of (Some f) c (Some line) = cond (nat_lt line f.line) (Some (record { line = line; cause = c })) (Some f)
