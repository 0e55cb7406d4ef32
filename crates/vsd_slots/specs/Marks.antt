-- Which methods of an interface a class may have something of its own for. A bucket of names is marked where the class has a
-- method whose name falls into it, or an override for a method whose name does.
use Rattle.std.specs.Prelude.{◌≡◌, ℕ, ◌<◌, Bool, true, false, List, length, Option, Some, None, slice_get, slice_index_or}
use Rattle.vsd_ast.specs.declared.declarations.Method.{Method}
use Rattle.vsd_types.specs.TypeList.{TypeList}
use Rattle.vsd_methods.specs.Givens.{answer_of}
use Rattle.vsd_methods.specs.Methods.{first_given}
use Rattle.vsd_methods.specs.declared.overriding.Given.{Given}
use Rattle.vsd_slots.specs.Entries.{HasNothing}
use Rattle.vsd_slots.specs.Named.{bucket}

-- a bucket that there is, and that isn't marked
abbrev pub IsFree : List Bool → ℕ → Type 0
IsFree marks n = slice_index_or marks n true ≡ false

-- what was marked still is
abbrev pub StaysMarked : List Bool → List Bool → Type 0
StaysMarked old new = (n : ℕ) → IsFree new n → IsFree old n

-- the buckets of the names of methods are marked
abbrev pub AreNamesMarked : List Method → List Bool → Type 0
AreNamesMarked methods marks = (k : ℕ) (p : Method) → slice_get methods k ≡ Some p → IsFree marks (bucket p.name) → ⊥

-- overrides give nothing for a method of an interface
abbrev pub GiveNothing : List (Option Given) → ℕ → ℕ → Type 0
GiveNothing given i m = first_given (λ g. answer_of g i m) given ≡ None

-- overrides give nothing for the methods of an interface whose buckets aren't marked
abbrev pub AreGivenMarked : List (Option Given) → ℕ → List ℕ → List Bool → Type 0
AreGivenMarked given i buckets marks = (m : ℕ) → m < length buckets → IsFree marks (slice_index_or buckets m 0) → GiveNothing given i m

-- nor has the class anything else of its own for them
abbrev pub AreMarked : TypeList → ℕ → ℕ → List ℕ → List Bool → Type 0
AreMarked c t i buckets marks = (m : ℕ) → m < length buckets → IsFree marks (slice_index_or buckets m 0) → HasNothing c t i m
