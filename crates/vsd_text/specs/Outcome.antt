-- What a call may answer that reads something and may run out of memory.
use Rattle.std.specs.Prelude.{◌≡◌, Option, Result, Ok, Err, IfSome}

-- The outcome is what the reading says, seen through `view`: its value, or the refusal that it found.
-- An error that is no refusal (`refusal` gives None for it) is want of memory, which may come in place of either.
abbrev pub Gives : {V E A R : Type 0} → (V → A) → (E → Option R) → Result V E → Result A R → Type 0
Gives view refusal (Ok v) reading = reading ≡ Ok (view v)
Gives view refusal (Err e) reading = IfSome (refusal e) (λ r. reading ≡ Err r)
