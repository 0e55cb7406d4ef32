-- What a refusal tells, and which one counts.
use Rattle.std.specs.Prelude.{◌≡◌, ℕ, ◌<◌, ◌≤◌, ◌⊎◌, Option, Some, None}
use Rattle.vsd_check.specs.declared.refusal.Cause.{Cause}
use Rattle.vsd_check.specs.declared.refusal.Cause.TheVariants as cause
use Rattle.vsd_check.specs.declared.refusal.CheckError.{CheckError}
use Rattle.vsd_check.specs.declared.refusal.CheckError.TheVariants.{Twice, UnknownType, Arity, Cycle, BadBase, BadInterface, VarianceMisplaced, VariantClass, OverridesFinal, AbstractInConcrete, OverrideUnknown, OverrideTwice, Memory}
use Rattle.vsd_check.specs.declared.refusal.Shown.{Shown}

abbrev pub at_line : ℕ → Cause → Option Shown
at_line line c = Some (record { line = line; cause = c })

-- what shows at which line; nothing where memory is out
abbrev pub refusal_of : CheckError → Option Shown
refusal_of (Twice line) = at_line line cause.Twice
refusal_of (UnknownType line) = at_line line cause.UnknownType
refusal_of (Arity line) = at_line line cause.Arity
refusal_of (Cycle line) = at_line line cause.Cycle
refusal_of (BadBase line) = at_line line cause.BadBase
refusal_of (BadInterface line) = at_line line cause.BadInterface
refusal_of (VarianceMisplaced line) = at_line line cause.VarianceMisplaced
refusal_of (VariantClass line) = at_line line cause.VariantClass
refusal_of (OverridesFinal line) = at_line line cause.OverridesFinal
refusal_of (AbstractInConcrete line) = at_line line cause.AbstractInConcrete
refusal_of (OverrideUnknown line) = at_line line cause.OverrideUnknown
refusal_of (OverrideTwice line) = at_line line cause.OverrideTwice
refusal_of Memory = None

-- the number under which a refusal is printed, by which those of one pass and line are ordered
abbrev pub number_of : Cause → ℕ
number_of cause.Twice = 30
number_of cause.UnknownType = 31
number_of cause.Arity = 32
number_of cause.Cycle = 33
number_of cause.BadBase = 34
number_of cause.BadInterface = 35
number_of cause.VarianceMisplaced = 36
number_of cause.VariantClass = 37
number_of cause.OverridesFinal = 38
number_of cause.AbstractInConcrete = 39
number_of cause.OverrideUnknown = 40
number_of cause.OverrideTwice = 41

-- the pass that looks for it
abbrev pub pass_of : Cause → ℕ
pass_of cause.Twice = 1
pass_of cause.UnknownType = 1
pass_of cause.Arity = 1
pass_of cause.VariantClass = 1
pass_of cause.Cycle = 2
pass_of cause.BadBase = 2
pass_of cause.BadInterface = 2
pass_of cause.VarianceMisplaced = 3
pass_of cause.OverridesFinal = 3
pass_of cause.AbstractInConcrete = 3
pass_of cause.OverrideUnknown = 3
pass_of cause.OverrideTwice = 3

-- at an earlier line, or at the same with no greater number
abbrev pub NoLater : Shown → Shown → Type 0
NoLater a b = (a.line < b.line) ⊎ ((a.line ≡ b.line) × (number_of a.cause ≤ number_of b.cause))

-- in an earlier pass, or in the same and no later there
abbrev pub ComesFirst : Shown → Shown → Type 0
ComesFirst a b = (pass_of a.cause < pass_of b.cause) ⊎ ((pass_of a.cause ≡ pass_of b.cause) × NoLater a b)
