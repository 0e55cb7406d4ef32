-- A pinned caller protects the row that it loaded from a cell or a bucket, and what it loads of the row is evidence.
use Rattle.std.proofs.Common.{◌≡◌, ℕ, ◌<◌, Bool, true, false, cond, nat_eq, nat_lt, List, [], ◌∷◌, ◌++◌, Option, Some, None, inr, refl, ◌∙◌, ap, eq-eqb, lt-ltb}
use lib.ListN.{get_elem?}
use Rattle.vsd_words.specs.declared.handle.Handle.{Handle}
use Rattle.vsd_words.specs.declared.cell_word.CellWord.TheVariants.{Dispatch}
use Rattle.vsd_rule.specs.declared.row_view.KnownWords.{KnownWords}
use Rattle.vsd_rule.specs.declared.row_view.ProtectedRow.{ProtectedRow}
use Rattle.vsd_rule.specs.declared.step.RowWord.TheVariants as word
use Rattle.vsd_rule.specs.declared.view.View.{View}
use Rattle.vsd_rule.specs.Evidence.{HasEvidence}
use Rattle.vsd_rule.specs.RowSteps.{nothing_known, protected_of, seeing, with_handle, with_token, token_or_site, evidence_of, evidence_by, after_cell, after_bucket, after_row_word}
use Rattle.vsd_rows.specs.Hands.{IsProtected, HasSeen, after_handle}

-- a row with what was seen of it
abbrev named : ℕ → Option ℕ → KnownWords → ProtectedRow
named row site seen = record { row = row; site = site; seen = seen }

-- ---- a row of a cell or bucket

latest_there : (row : ℕ) (site : Option ℕ) (xs : List ProtectedRow) → protected_of row (named row site nothing_known ∷ xs) ≡ Some (named row site nothing_known)
latest_there row site xs = ap (λ (b : Bool). cond b (Some (named row site nothing_known)) (protected_of row xs)) (eq-eqb row row refl)

pub cell_seen_row : (v : View) (site row : ℕ) → 0 < v.rows.pinned → HasSeen (after_cell v site (Dispatch row)) row (Some site) nothing_known
cell_seen_row v site row pinned = record { pinned = pinned; there = latest_there row (Some site) v.rows.protected }

pub bucket_seen_row : (v : View) (bucket row : ℕ) → 0 < v.rows.pinned → HasSeen (after_bucket v bucket (Some row)) row None nothing_known
bucket_seen_row v bucket row pinned = record { pinned = pinned; there = latest_there row None v.rows.protected }

pub seen_protected : (v : View) (row : ℕ) (site : Option ℕ) (seen : KnownWords) → HasSeen v row site seen → IsProtected v row
seen_protected v row site seen has = record { pinned = has.pinned; latest = named row site seen; there = has.there }

-- ---- loads of its words

-- the first of the row's entries, found by its number
first_seeing : (row : ℕ) (loaded : KnownWords → KnownWords) (y : ProtectedRow) (ys : List ProtectedRow) (x : ProtectedRow) (test : Bool) → nat_eq y.row row ≡ test
    → (let found : Option ProtectedRow = cond test (Some y) (protected_of row ys) in found ≡ Some x)
    → (protected_of row ys ≡ Some x → protected_of row (seeing row loaded ys) ≡ Some (record x { seen = loaded x.seen }))
    → (let after : List ProtectedRow = cond test (record y { seen = loaded y.seen } ∷ ys) (y ∷ seeing row loaded ys) in protected_of row after ≡ Some (record x { seen = loaded x.seen }))
first_seeing row loaded y ys x true is there further =
    let same : y ≡ x = cc in
    ap (λ (b : Bool). cond b (Some (record y { seen = loaded y.seen })) (protected_of row ys)) is ∙ ap (λ (z : ProtectedRow). Some (record z { seen = loaded z.seen })) same
first_seeing row loaded y ys x false is there further =
    ap (λ (b : Bool). cond b (Some y) (protected_of row (seeing row loaded ys))) is ∙ further there

seeing_there : (row : ℕ) (loaded : KnownWords → KnownWords) (xs : List ProtectedRow) (x : ProtectedRow) → protected_of row xs ≡ Some x → protected_of row (seeing row loaded xs) ≡ Some (record x { seen = loaded x.seen })
seeing_there row loaded [] x there = absurd (cc)
seeing_there row loaded (y ∷ ys) x there = first_seeing row loaded y ys x (nat_eq y.row row) refl there (seeing_there row loaded ys x)

-- what a load adds to what a pinned caller has seen of the row
loaded_there : (v : View) (row : ℕ) (site : Option ℕ) (seen : KnownWords) (loaded : KnownWords → KnownWords) → HasSeen v row site seen
    → protected_of row (cond (nat_lt 0 v.rows.pinned) (seeing row loaded v.rows.protected) v.rows.protected) ≡ Some (named row site (loaded seen))
loaded_there v row site seen loaded has =
    ap (λ (b : Bool). protected_of row (cond b (seeing row loaded v.rows.protected) v.rows.protected)) (lt-ltb 0 v.rows.pinned has.pinned)
    ∙ seeing_there row loaded v.rows.protected (named row site seen) has.there

pub handle_seen : (v : View) (row : ℕ) (site : Option ℕ) (seen : KnownWords) (h : Handle) → HasSeen v row site seen → HasSeen (after_handle v row h) row site (with_handle h seen)
handle_seen v row site seen h has = record { pinned = has.pinned; there = loaded_there v row site seen (with_handle h) has }

pub token_seen : (v : View) (row : ℕ) (site : Option ℕ) (seen : KnownWords) (token : ℕ) → HasSeen v row site seen → HasSeen (after_row_word v row word.Token token) row site (with_token token seen)
token_seen v row site seen token has = record { pinned = has.pinned; there = loaded_there v row site seen (with_token token) has }

-- with the handle and a token seen, the target is evidence
pub target_evidence : (v : View) (row : ℕ) (site : Option ℕ) (seen : KnownWords) (h : Handle) (token target : ℕ) → HasSeen v row site seen → seen.handle ≡ Some h → token_or_site v.key seen.token site ≡ Some token
    → HasEvidence (after_row_word v row word.Target target) h token target
target_evidence v row site seen h token target has handle its_token =
    let old = v.rows.evidences in
    inr (
      0,
      ap (λ (b : Bool). get_elem? (cond b (evidence_of v.key (protected_of row v.rows.protected) target) [] ++ old) 0) (lt-ltb 0 v.rows.pinned has.pinned)
          ∙ (ap (λ (o : Option ProtectedRow). get_elem? (evidence_of v.key o target ++ old) 0) has.there
          ∙ (ap (λ (o : Option Handle). get_elem? (evidence_by o (token_or_site v.key seen.token site) target ++ old) 0) handle
          ∙ ap (λ (o : Option ℕ). get_elem? (evidence_by (Some h) o target ++ old) 0) its_token)),
    )
