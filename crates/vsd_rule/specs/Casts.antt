-- The rule on the cast cache: who writes each cast row, and what its words are.
use Rattle.std.specs.Prelude.{◌≡◌, ◌≢◌, ℕ, ◌+◌, ◌*◌, ◌%◌, ◌<◌, ◌≤◌, ◌^◌, Bool, List, [], ◌∷◌, length, slice_index, Option, Some, None, IfSome, nat_eq, cond}
use mathlib.Core.Option.{some}
use lib.ListN.{get_elem?}
use Rattle.std.specs.Int.{from_bool}
use Rattle.vsd_words.specs.declared.handle.Handle.{Handle}
use Rattle.vsd_words.specs.declared.cast_word.CastWord.{CastWord}
use Rattle.vsd_words.specs.Handle.{IsHandlePacking}
use Rattle.vsd_words.specs.CastWord.{IsCastPacking}
use Rattle.vsd_rule.specs.declared.key.Key.{Key}
use Rattle.vsd_rule.specs.declared.cast_view.Probe.{Probe}
use Rattle.vsd_rule.specs.declared.cast_view.Written.{Written}
use Rattle.vsd_rule.specs.declared.cast_view.CastRowWrite.{CastRowWrite}
use Rattle.vsd_rule.specs.declared.cast_view.CastEvidence.{CastEvidence}
use Rattle.vsd_rule.specs.declared.cast_view.CastView.{CastView}
use Rattle.vsd_rule.specs.Layout.{handle_rows, cast_rows}
use Rattle.vsd_rule.specs.Lists.{compatible}
use Rattle.vsd_rule.specs.Handles.{WasBound}

-- what a cast row's source and cast word say
pub record CastContent : Type 0 where
  pub source : Handle
  pub word : CastWord

-- what the seat has stored in the cast row, where it is writing it
abbrev pub write_of : ℕ → List CastRowWrite → Option Written
write_of row [] = None
write_of row (x ∷ xs) = cond (nat_eq x.row row) x.written (write_of row xs)

abbrev pub version_of : List ℕ → ℕ → ℕ
version_of words row = slice_index words (3 * row)

module _ (k : Key) where
  module _ (writer : ℕ → Option ℕ) (content : ℕ → CastContent) (words : List ℕ) where
    -- the seat writes the row as its view tells, and its stores are the row's words
    abbrev pub WritesAsTold : ℕ → ℕ → Option Written → Type 0
    WritesAsTold seat row None = writer row ≢ Some seat
    WritesAsTold seat row (Some w) = (writer row ≡ Some seat) × (version_of words row ≡ w.version) × IfSome w.source (λ h. h ≡ (content row).source) × IfSome w.word (λ x. x ≡ (content row).word)

    -- while the version is the even one that was loaded first, what was loaded is what the row says
    pub record Probed (p : Probe) : Type 0 where
      pub row : p.row < cast_rows k.sizes
      pub version : p.version ≤ version_of words p.row
      pub source : p.version ≡ version_of words p.row → p.version % 2 ≡ 0 → IfSome p.source (λ h. h ≡ (content p.row).source)
      pub word : p.version ≡ version_of words p.row → p.version % 2 ≡ 0 → IfSome p.word (λ x. x ≡ (content p.row).word)

  module _ (gen : ℕ → ℕ) (name : ℕ → ℕ → ℕ) where
    -- the handle can be a word of a cast row, of any version
    pub record IsOld (h : Handle) : Type 0 where
      pub row : h.row < handle_rows k.sizes
      pub old : h.generation ≤ gen h.row

    -- the answer is the world's, for the types that the two handles name
    pub record CastAgrees (source target : Handle) (yes : Bool) : Type 0 where
      pub source_bound : WasBound k gen name source
      pub target_bound : WasBound k gen name target
      pub answer : from_bool yes ≡ compatible k (name source.row source.generation) (name target.row target.generation)

    abbrev pub AreCastEvidences : List CastEvidence → Type 0
    AreCastEvidences [] = Unit {0}
    AreCastEvidences (x ∷ xs) = CastAgrees x.source x.target x.yes × AreCastEvidences xs

    -- `writer` is the one seat that writes the row, if any: the version is odd exactly then
    module _ (writer : ℕ → Option ℕ) (content : ℕ → CastContent) (words : List ℕ) where
      pub record CastRow (row : ℕ) : Type 0 where
        pub even : writer row ≡ None → version_of words row % 2 ≡ 0
        pub odd : (seat : ℕ) → writer row ≡ Some seat → version_of words row % 2 ≡ 1
        pub small : version_of words row ≤ 2 ^ 62
        pub source : IsHandlePacking (content row).source (slice_index words (3 * row + 1))
        pub word : IsCastPacking (content row).word (slice_index words (3 * row + 2))
        pub source_old : IsOld (content row).source
        pub target_old : IsOld (content row).word.target
        pub agrees : writer row ≡ None → 0 < version_of words row → CastAgrees (content row).source (content row).word.target (content row).word.yes

      pub record TrueCastView (seat : ℕ) (d : CastView) : Type 0 where
        pub probe : IfSome d.probe (Probed writer content words)
        pub writes : (row : ℕ) → row < cast_rows k.sizes → WritesAsTold writer content words seat row (write_of row d.writes)
        pub evidences : AreCastEvidences d.evidences

pub record Casts (k : Key) (gen : ℕ → ℕ) (name : ℕ → ℕ → ℕ) (region : ℕ) (words : List ℕ) (seats : List CastView) : Type 0 where
  pub writer : ℕ → Option ℕ
  pub content : ℕ → CastContent
  pub region_in : region < k.sizes.regions
  pub row : (row : ℕ) → row < cast_rows k.sizes → CastRow k gen name writer content words row
  pub keeper : (row seat : ℕ) → row < cast_rows k.sizes → writer row ≡ Some seat → seat < length seats
  pub each : (seat : ℕ) (d : CastView) → get_elem? seats seat ≡ some d → TrueCastView k gen name writer content words seat d
