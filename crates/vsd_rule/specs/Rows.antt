-- The rule on rows: the state of each row, who protects it, and what its words are.
use Rattle.std.specs.Prelude.{◌≡◌, ◌≢◌, ℕ, ◌+◌, ◌*◌, ◌<◌, ◌≤◌, ◌^◌, List, [], ◌∷◌, length, slice_index, IfSome, nat_eq, cond}
use mathlib.Core.Option.{some}
use lib.ListN.{get_elem?}
use Rattle.vsd_words.specs.declared.handle.Handle.{Handle}
use Rattle.vsd_words.specs.declared.cell_word.CellWord.{CellWord}
use Rattle.vsd_words.specs.declared.cell_word.CellWord.TheVariants.{Dispatch}
use Rattle.vsd_words.specs.Handle.{IsHandlePacking}
use Rattle.vsd_words.specs.CellWord.{IsCellPacking}
use Rattle.vsd_rule.specs.declared.key.Key.{Key}
use Rattle.vsd_rule.specs.declared.row_view.KnownWords.{KnownWords}
use Rattle.vsd_rule.specs.declared.row_view.ProtectedRow.{ProtectedRow}
use Rattle.vsd_rule.specs.declared.row_view.Keeping.{Keeping}
use Rattle.vsd_rule.specs.declared.row_view.Keeping.TheVariants.{Elsewhere, Private, Unlinked, Retired}
use Rattle.vsd_rule.specs.declared.row_view.KeptRow.{KeptRow}
use Rattle.vsd_rule.specs.declared.row_view.RetiredRow.{RetiredRow}
use Rattle.vsd_rule.specs.declared.row_view.Evidence.{Evidence}
use Rattle.vsd_rule.specs.declared.row_view.RowView.{RowView}
use Rattle.vsd_rule.specs.declared.view.Who.{Who}
use Rattle.vsd_rule.specs.declared.view.Who.TheVariants.{Root, Caller}
use Rattle.vsd_rule.specs.Layout.{handle_rows}
use Rattle.vsd_rule.specs.Lists.{target_of, site_token}
use Rattle.vsd_rule.specs.Handles.{WasBound}

-- what a seat knows of rows, and whose seat it is
pub record RowSeat : Type 0 where
  pub who : Who
  pub rows : RowView

-- The state of a row: free, published in one cell or one bucket, or kept by one seat. It is one function of the row, so no row is in two of these.
pub data RowState : Type 0 where
  free : RowState
  in_cell : ℕ → RowState
  in_bucket : ℕ → RowState
  kept : ℕ → Keeping → RowState

-- what a row's handle, token and target words say
pub record Content : Type 0 where
  pub handle : Handle
  pub token : ℕ
  pub target : ℕ

-- how a seat keeps the row, by the latest entry
abbrev pub keeping_of : ℕ → List KeptRow → Keeping
keeping_of row [] = Elsewhere
keeping_of row (x ∷ xs) = cond (nat_eq x.row row) x.keeping (keeping_of row xs)

-- the known words are the row's
pub record TrueWords (f : KnownWords) (c : Content) : Type 0 where
  pub handle : IfSome f.handle (λ h. h ≡ c.handle)
  pub token : IfSome f.token (λ t. t ≡ c.token)
  pub target : IfSome f.target (λ x. x ≡ c.target)

-- a cell or a bucket has named the row since its claim
abbrev pub WasPublished : RowState → Type 0
WasPublished free = ⊥
WasPublished (in_cell site) = Unit {0}
WasPublished (in_bucket bucket) = Unit {0}
WasPublished (kept seat Elsewhere) = ⊥
WasPublished (kept seat (Private words)) = ⊥
WasPublished (kept seat Unlinked) = Unit {0}
WasPublished (kept seat (Retired epoch)) = Unit {0}

-- the seat keeps the row as its view tells
abbrev pub KeepsAsTold : ℕ → RowState → Keeping → Type 0
KeepsAsTold seat state Elsewhere = (keeping : Keeping) → state ≢ kept seat keeping
KeepsAsTold seat state (Private words) = state ≡ kept seat (Private words)
KeepsAsTold seat state Unlinked = state ≡ kept seat Unlinked
KeepsAsTold seat state (Retired epoch) = state ≡ kept seat (Retired epoch)

module _ (k : Key) where
  -- the own epoch word; the root has none, and those of callers to come are 0
  abbrev pub Pins : List ℕ → Who → ℕ → Type 0
  Pins pins (Root next) pinned = (pinned ≡ 0) × ((caller : ℕ) → next ≤ caller → caller < k.sizes.callers → slice_index pins caller ≡ 0)
  Pins pins (Caller number) pinned = slice_index pins number ≡ pinned

  -- a row in the queue of limbo
  pub record IsRetired (epoch : ℕ) (keepings : List KeptRow) (x : RetiredRow) : Type 0 where
    pub row : x.row < k.sizes.rows
    pub keeping : keeping_of x.row keepings ≡ Retired x.epoch
    pub since : x.epoch ≤ epoch

  module _ (state : ℕ → RowState) (content : ℕ → Content) where
    -- a row that a pinned seat protects
    pub record Protects (pinned : ℕ) (x : ProtectedRow) : Type 0 where
      pub row : x.row < k.sizes.rows
      pub published : WasPublished (state x.row)
      pub seen : TrueWords x.seen (content x.row)
      pub site : IfSome x.site (λ s. (content x.row).token ≡ site_token k s)
      -- in limbo since the epoch e, it is protected by pins at e or before alone
      pub before : (seat epoch : ℕ) → state x.row ≡ kept seat (Retired epoch) → pinned ≤ epoch + 1

    abbrev pub ProtectsAll : ℕ → List ProtectedRow → Type 0
    ProtectsAll pinned [] = Unit {0}
    ProtectsAll pinned (x ∷ xs) = Protects pinned x × ProtectsAll pinned xs

  module _ (gen : ℕ → ℕ) (name : ℕ → ℕ → ℕ) where
    -- the target is the world's, for the type that the handle names
    pub record Agrees (h : Handle) (token target : ℕ) : Type 0 where
      pub bound : WasBound k gen name h
      pub token_in : token < k.sizes.tokens
      pub answer : target ≡ target_of k (name h.row h.generation) token

    abbrev pub AreEvidences : List Evidence → Type 0
    AreEvidences [] = Unit {0}
    AreEvidences (x ∷ xs) = Agrees x.handle x.token x.target × AreEvidences xs

    module _ (state : ℕ → RowState) (content : ℕ → Content) where
      -- Of a row: the claim word is 0 exactly where it is free. The words are in range, in a free row too
      pub record Row (words : List ℕ) (row : ℕ) : Type 0 where
        pub unclaimed : state row ≡ free → slice_index words (4 * row) ≡ 0
        pub claimed : state row ≢ free → slice_index words (4 * row) ≡ 1
        pub handle : IsHandlePacking (content row).handle (slice_index words (4 * row + 1))
        pub token : slice_index words (4 * row + 2) ≡ (content row).token
        pub target : slice_index words (4 * row + 3) ≡ (content row).target
        pub handle_row : (content row).handle.row < handle_rows k.sizes
        pub old : (content row).handle.generation ≤ gen (content row).handle.row
        pub token_fits : (content row).token < 2 ^ 16
        pub target_fits : (content row).target < 2 ^ 32
        pub agrees : WasPublished (state row) → Agrees (content row).handle (content row).token (content row).target

      -- of a seat: its view tells the truth of its epoch word, its rows and its limbo
      pub record TrueRowView (epoch : ℕ) (pins : List ℕ) (seat : ℕ) (d : RowSeat) : Type 0 where
        pub pin : Pins pins d.who d.rows.pinned
        pub pinned : d.rows.pinned ≤ epoch + 1
        pub loaded : IfSome d.rows.epoch (λ e. e ≤ epoch)
        pub cursor : 0 < k.sizes.rows → d.rows.cursor < k.sizes.rows
        pub keepings : (row : ℕ) → row < k.sizes.rows → KeepsAsTold seat (state row) (keeping_of row d.rows.kept)
        pub stored : (row : ℕ) (f : KnownWords) → row < k.sizes.rows → keeping_of row d.rows.kept ≡ Private f → TrueWords f (content row)
        pub limbo : (i : ℕ) (x : RetiredRow) → get_elem? d.rows.limbo i ≡ some x → IsRetired epoch d.rows.kept x
        pub once : (i j : ℕ) (x y : RetiredRow) → get_elem? d.rows.limbo i ≡ some x → get_elem? d.rows.limbo j ≡ some y → x.row ≡ y.row → i ≡ j
        pub room : length d.rows.limbo ≤ 16
        pub passed : d.rows.passed ≤ k.sizes.callers
        pub protects : 0 < d.rows.pinned → ProtectsAll state content d.rows.pinned d.rows.protected
        pub evidences : AreEvidences d.rows.evidences

pub record Rows (k : Key) (gen : ℕ → ℕ) (name : ℕ → ℕ → ℕ) (epoch : ℕ) (pins cells words buckets : List ℕ) (seats : List RowSeat) : Type 0 where
  pub state : ℕ → RowState
  pub content : ℕ → Content
  pub cell_word : ℕ → CellWord
  pub epoch_small : epoch ≤ 2 ^ 62
  pub row : (row : ℕ) → row < k.sizes.rows → Row k gen name state content words row
  pub keeper : (row seat : ℕ) (keeping : Keeping) → row < k.sizes.rows → state row ≡ kept seat keeping → seat < length seats
  pub cell : (site : ℕ) → site < k.sizes.sites → IsCellPacking (cell_word site) (slice_index cells site)
  pub cell_names : (site row : ℕ) → site < k.sizes.sites → cell_word site ≡ Dispatch row → (row < k.sizes.rows) × (state row ≡ in_cell site)
  pub cell_named : (site row : ℕ) → row < k.sizes.rows → state row ≡ in_cell site → (site < k.sizes.sites) × (cell_word site ≡ Dispatch row) × ((content row).token ≡ site_token k site)
  pub bucket_names : (bucket row : ℕ) → bucket < k.sizes.buckets → slice_index buckets bucket ≡ row + 1 → (row < k.sizes.rows) × (state row ≡ in_bucket bucket)
  pub bucket_named : (bucket row : ℕ) → row < k.sizes.rows → state row ≡ in_bucket bucket → (bucket < k.sizes.buckets) × (slice_index buckets bucket ≡ row + 1)
  pub each : (seat : ℕ) (d : RowSeat) → get_elem? seats seat ≡ some d → TrueRowView k gen name state content epoch pins seat d
  -- a caller that the running sweep has passed does not protect the oldest row in limbo
  pub swept : (seat other number i : ℕ) (d e : RowSeat) (x : RetiredRow) (y : ProtectedRow) → get_elem? seats seat ≡ some d → get_elem? seats other ≡ some e
      → e.who ≡ Caller number → number < d.rows.passed → get_elem? d.rows.limbo 0 ≡ some x → get_elem? e.rows.protected i ≡ some y → 0 < e.rows.pinned → y.row ≢ x.row
