-- What steps on rows ask of their seat and tell of it, besides what they make of its view.
use Rattle.std.specs.Prelude.{◌≡◌, ℕ, ◌<◌, ◌^◌, List, ◌∷◌, Some, IfSome}
use Rattle.vsd_words.specs.declared.handle.Handle.{Handle}
use Rattle.vsd_words.specs.declared.cell_word.CellWord.{CellWord}
use Rattle.vsd_words.specs.declared.cell_word.CellWord.TheVariants.{Dispatch}
use Rattle.vsd_words.specs.Handle.{IsHandlePacking}
use Rattle.vsd_rule.specs.declared.row_view.KnownWords.{KnownWords}
use Rattle.vsd_rule.specs.declared.row_view.ProtectedRow.{ProtectedRow}
use Rattle.vsd_rule.specs.declared.row_view.Keeping.TheVariants.{Private, Unlinked}
use Rattle.vsd_rule.specs.declared.row_view.KeptRow.{KeptRow}
use Rattle.vsd_rule.specs.declared.row_view.RetiredRow.{RetiredRow}
use Rattle.vsd_rule.specs.declared.step.RowWord.{RowWord}
use Rattle.vsd_rule.specs.declared.step.RowWord.TheVariants as word
use Rattle.vsd_rule.specs.declared.view.View.{View}
use Rattle.vsd_rule.specs.Lists.{site_token}
use Rattle.vsd_rule.specs.Rows.{keeping_of}
use Rattle.vsd_rule.specs.Evidence.{HasEvidence}
use Rattle.vsd_rule.specs.RowSteps.{all_words, protected_of, unpacked_handle}

-- the seat keeps the row private: it claimed it, and no cell or bucket has named it since
abbrev pub IsPrivate : View → ℕ → Type 0
IsPrivate v row = (known : KnownWords) × (keeping_of row v.rows.kept ≡ Private known)

-- the seat has an evidence of some call on the handle
abbrev pub HasSomeEvidence : View → Handle → Type 0
HasSomeEvidence v h = (token : ℕ) × (target : ℕ) × HasEvidence v h token target

-- a private row in which an evidence was stored since its claim
pub record IsFilled (v : View) (row : ℕ) (h : Handle) (token target : ℕ) : Type 0 where
  pub stored : keeping_of row v.rows.kept ≡ Private (all_words h token target)
  pub evidence : HasEvidence v h token target

-- what a private row needs to be published: in the cell of a site, with the site's token
pub record IsFilledFor (v : View) (row site : ℕ) : Type 0 where
  pub handle : Handle
  pub target : ℕ
  pub filled : IsFilled v row handle (site_token v.key site) target

-- in a bucket
pub record IsFilledRow (v : View) (row : ℕ) : Type 0 where
  pub handle : Handle
  pub token : ℕ
  pub target : ℕ
  pub filled : IsFilled v row handle token target

-- the latest step that moved a row took this one out of its cell or bucket
pub record Leaves (v : View) (row : ℕ) : Type 0 where
  pub others : List KeptRow
  pub latest : v.rows.kept ≡ record { row = row; keeping = Unlinked } ∷ others

-- the row is the oldest in limbo
pub record IsOldest (v : View) (row : ℕ) : Type 0 where
  pub epoch : ℕ
  pub others : List RetiredRow
  pub queue : v.rows.limbo ≡ record { row = row; epoch = epoch } ∷ others

-- what each of a row's words can be
abbrev pub RowWordInRange : RowWord → ℕ → Type 0
RowWordInRange word.Claim found = found < 2
RowWordInRange word.Handle found = IsHandlePacking (unpacked_handle found) found
RowWordInRange word.Token found = found < 2 ^ 16
RowWordInRange word.Target found = found < 2 ^ 32

-- what a load of a protected row's word finds: the row is claimed, what was seen before is there still, and the token is that of the site whose cell named the row
abbrev pub SeenAgain : View → ProtectedRow → RowWord → ℕ → Type 0
SeenAgain v x word.Claim found = found ≡ 1
SeenAgain v x word.Handle found = IfSome x.seen.handle (λ h. unpacked_handle found ≡ h)
SeenAgain v x word.Token found = IfSome x.seen.token (λ token. found ≡ token) × IfSome x.site (λ site. found ≡ site_token v.key site)
SeenAgain v x word.Target found = IfSome x.seen.target (λ target. found ≡ target)

-- no word of a row that the seat protects is stored meanwhile
abbrev pub FindsAgain : View → ℕ → RowWord → ℕ → Type 0
FindsAgain v row which found = 0 < v.rows.pinned → (x : ProtectedRow) → protected_of row v.rows.protected ≡ Some x → SeenAgain v x which found

-- a row that a cell names is one of the table's
abbrev pub CellInTable : View → CellWord → Type 0
CellInTable v w = (row : ℕ) → w ≡ Dispatch row → row < v.key.sizes.rows
