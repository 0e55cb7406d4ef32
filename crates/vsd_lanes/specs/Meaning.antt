-- What a lane means: its operations one after another, with repeats written out.
use Rattle.std.specs.Prelude.{◌≡◌, ℕ, zero, suc, nat_lt, nat_eq, if◌then◌else◌, List, [], ◌∷◌, ◌++◌, length, Option, Some, None, Result, Ok, Err}
use Rattle.vsd_ast.specs.declared.scripts.Op.{Op}
use Rattle.vsd_ast.specs.declared.scripts.Op.TheVariants as op
use Rattle.vsd_ast.specs.declared.scripts.Var.{Var}
use Rattle.vsd_ast.specs.declared.scripts.Var.TheVariants.{Host, Own}
use Rattle.vsd_grammar.specs.declared.cause.Cause.{Cause}
use Rattle.vsd_grammar.specs.declared.cause.Cause.TheVariants.{UnknownName, Twice, TooManyLive, TooManyOperations, NotConcrete}
use Rattle.vsd_lanes.specs.declared.tree.Written.{Written}
use Rattle.vsd_lanes.specs.declared.tree.Written.TheVariants.{Load, Unload, Call, Cast}
use Rattle.vsd_lanes.specs.declared.tree.Item.{Item}
use Rattle.vsd_lanes.specs.declared.tree.Item.TheOpen as layer
use Rattle.vsd_lanes.specs.declared.tree.Item.TheFolds.{fold-Item}
use Rattle.vsd_lanes.specs.declared.tree.Live.{Live}
use Rattle.vsd_lanes.specs.declared.tree.Running.{Running}
use Rattle.vsd_lanes.specs.declared.tree.Refusal.{Refusal}
use Rattle.vsd_lanes.specs.declared.tree.Halt.{Halt}
use Rattle.vsd_lanes.specs.declared.tree.Halt.TheVariants as halt

-- ---- which variables are live

-- the live variable of this number
unfoldable pub find : List Live → ℕ → Option Live
find [] variable = None
find (l ∷ ls) variable = if nat_eq l.variable variable then Some l else find ls variable

-- the live variables without that of this number
unfoldable pub without : List Live → ℕ → List Live
without [] variable = []
without (l ∷ ls) variable = if nat_eq l.variable variable then ls else l ∷ without ls variable

-- ---- why an operation can't be made

-- the most live variables of a lane
abbrev pub most_live : ℕ
most_live = 32

-- no further operation may be made, where earlier lanes left room for so many
abbrev pub begins : ℕ → Running → Option Cause
begins room s = if nat_lt (length s.ops) room then None else Some TooManyOperations

-- a variable that is loaded isn't live, and 31 others at most are
abbrev pub fresh_by : Option Live → List Live → Option Cause
fresh_by (Some l) live = Some Twice
fresh_by None live = if nat_lt (length live) most_live then None else Some TooManyLive

abbrev pub fresh : List Live → ℕ → Option Cause
fresh live variable = fresh_by (find live variable) live

-- a variable that is used is live
abbrev pub known_by : Option Live → Option Cause
known_by None = Some UnknownName
known_by (Some l) = None

abbrev pub known : List Live → ℕ → Option Cause
known live variable = known_by (find live variable)

abbrev pub castable : List Live → Var → Option Cause
castable live (Host h) = None
castable live (Own v) = known live v

-- the type of an object is a class that isn't abstract; that of a host stands in the text
abbrev pub callable_by : Option Live → Option Cause
callable_by None = Some UnknownName
callable_by (Some l) = if l.concrete then None else Some NotConcrete

abbrev pub callable : List Live → Var → Option Cause
callable live (Host h) = None
callable live (Own v) = callable_by (find live v)

-- ---- one operation

abbrev pub shown : ℕ → Option Cause → Result (Unit {0}) Refusal
shown at None = Ok tt
shown at (Some cause) = Err (record { at = at; cause = cause })

abbrev pub and_then : {A B E : Type 0} → Result A E → (A → Result B E) → Result B E
and_then (Ok a) f = f a
and_then (Err e) f = Err e

-- the index of its word
abbrev pub word_of : Written → ℕ
word_of (Load word at variable root concrete) = word
word_of (Unload word at variable) = word
word_of (Call word site at object) = word
word_of (Cast word at source target_at target) = word

-- what has to hold of what is live, at which of its tokens, in the order of the text
abbrev pub allowed : Written → List Live → Result (Unit {0}) Refusal
allowed (Load word at variable root concrete) live = shown at (fresh live variable)
allowed (Unload word at variable) live = shown at (known live variable)
allowed (Call word site at object) live = shown at (callable live object)
allowed (Cast word at source target_at target) live = and_then (shown at (castable live source)) (λ _. shown target_at (castable live target))

-- what is live after it
abbrev pub live_after : Written → List Live → List Live
live_after (Load word at variable root concrete) live = live ++ record { variable = variable; concrete = concrete } ∷ []
live_after (Unload word at variable) live = without live variable
live_after (Call word site at object) live = live
live_after (Cast word at source target_at target) live = live

-- the operation itself
abbrev pub op_of : Written → Op
op_of (Load word at variable root concrete) = op.Load variable root
op_of (Unload word at variable) = op.Unload variable
op_of (Call word site at object) = op.Call site object
op_of (Cast word at source target_at target) = op.Cast source target

abbrev pub does : Written → Running → Running
does w s = record { live = live_after w s.live; ops = s.ops ++ op_of w ∷ [] }

-- one operation after those made so far, where earlier lanes left room for so many
unfoldable pub once : ℕ → Written → Running → Result Running Refusal
once room w s = and_then (shown (word_of w) (begins room s)) (λ _. and_then (allowed w s.live) (λ _. Ok (does w s)))

-- ---- many operations

-- one after another, up to the first that can't be made
unfoldable pub makes : ℕ → List Written → Running → Result Running Refusal
makes room [] s = Ok s
makes room (w ∷ ws) s = and_then (once room w s) (makes room ws)

-- a list so many times
unfoldable pub times_of : ℕ → List Written → List Written
times_of zero ws = []
times_of (suc n) ws = ws ++ times_of n ws

unfoldable pub joined : List (List Written) → List Written
joined [] = []
joined (ws ∷ rest) = ws ++ joined rest

abbrev pub written_step : layer.Item-F (List Written) → List Written
written_step (layer.Once w) = w ∷ []
written_step (layer.Repeat times body) = times_of times (joined body)

-- what stands in an item, with repeats written out
abbrev pub written_of : Item → List Written
written_of = fold-Item (List Written) written_step

-- ---- what the code ensures

-- The outcome of operations, unless memory fails.
abbrev pub Does : Result Running Refusal → Result (Unit {0}) Halt → Running → Type 0
Does outcome (Ok x) new = outcome ≡ Ok new
Does outcome (Err halt.Memory) new = Unit {0}
Does outcome (Err (halt.Refused r)) new = outcome ≡ Err r

-- a test that was made
abbrev pub halted : Result (Unit {0}) Refusal → Result (Unit {0}) Halt
halted (Ok x) = Ok x
halted (Err r) = Err (halt.Refused r)
