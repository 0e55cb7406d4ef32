-- What each step on the epoch, on rows, cells, counters and buckets makes of its seat's view.
use Rattle.std.specs.Prelude.{ℕ, ◌+◌, ◌/◌, ◌%◌, Bool, ◌&&◌, ◌||◌, nat_eq, nat_lt, nat_le, cond, List, [], ◌∷◌, ◌++◌, Option, Some, None}
use Rattle.vsd_words.specs.declared.handle.Handle.{Handle}
use Rattle.vsd_words.specs.declared.cell_word.CellWord.{CellWord}
use Rattle.vsd_words.specs.declared.cell_word.CellWord.TheVariants.{Lookup, Resolve, Dispatch}
use Rattle.vsd_words.specs.CellWord.{packed_cell}
use Rattle.vsd_rule.specs.declared.key.Key.{Key}
use Rattle.vsd_rule.specs.declared.row_view.KnownWords.{KnownWords}
use Rattle.vsd_rule.specs.declared.row_view.ProtectedRow.{ProtectedRow}
use Rattle.vsd_rule.specs.declared.row_view.Keeping.{Keeping}
use Rattle.vsd_rule.specs.declared.row_view.Keeping.TheVariants.{Elsewhere, Private, Unlinked, Retired}
use Rattle.vsd_rule.specs.declared.row_view.RetiredRow.{RetiredRow}
use Rattle.vsd_rule.specs.declared.row_view.Evidence.{Evidence}
use Rattle.vsd_rule.specs.declared.row_view.RowView.{RowView}
use Rattle.vsd_rule.specs.declared.step.Act.{Act}
use Rattle.vsd_rule.specs.declared.step.Act.TheVariants.{Epoch, Pin, Unpin, Claim, SetHandle, SetToken, SetTarget, LoadRow, Free, LoadCell, ToDispatch, ToResolve, ToLookup, Count, LoadBucket, PutBucket, EmptyBucket, EpochToRetire, Raise, EpochOf, FreeSwept}
use Rattle.vsd_rule.specs.declared.step.RowWord.{RowWord}
use Rattle.vsd_rule.specs.declared.step.RowWord.TheVariants as word
use Rattle.vsd_rule.specs.declared.view.View.{View}
use Rattle.vsd_rule.specs.Lists.{site_token}
use Rattle.vsd_rule.specs.Rows.{keeping_of}
use Rattle.vsd_rule.specs.Moves.{noted}

-- a step that changes what its seat knows of rows alone
abbrev pub after_rows : View → RowView → Act → ℕ → View
after_rows v rows act found = record v { rows = rows; steps = noted v act found }

-- from this step on the seat keeps the row so
abbrev pub keeps_row : RowView → ℕ → Keeping → RowView
keeps_row d row keeping = record d { kept = record { row = row; keeping = keeping } ∷ d.kept }

abbrev pub nothing_known : KnownWords
nothing_known = record { handle = None; token = None; target = None }

abbrev pub all_words : Handle → ℕ → ℕ → KnownWords
all_words h token target = record { handle = Some h; token = Some token; target = Some target }

-- ---- the epoch, pinning

abbrev pub after_epoch : View → ℕ → View
after_epoch v found = after_rows v (record v.rows { epoch = Some found }) Epoch found

abbrev pub after_pin : View → ℕ → View
after_pin v epoch = after_rows v (record v.rows { pinned = epoch + 1; protected = [] }) (Pin epoch) 0

abbrev pub after_unpin : View → View
after_unpin v = after_rows v (record v.rows { pinned = 0; protected = [] }) Unpin 0

abbrev pub after_raise : View → ℕ → ℕ → View
after_raise v epoch found = after_rows v v.rows (Raise epoch) found

-- ---- a row of one's own: an exchange or swap changes how the row is kept only where it was won

abbrev pub claimed : RowView → ℕ → RowView
claimed d row = keeps_row d row (Private nothing_known)

abbrev pub after_claim : View → ℕ → ℕ → View
after_claim v row found = after_rows v (cond (nat_eq found 0) (claimed v.rows row) v.rows) (Claim row) found

-- what was stored in the row since its claim, where it is private
abbrev pub words_stored : Keeping → KnownWords
words_stored Elsewhere = nothing_known
words_stored (Private known) = known
words_stored Unlinked = nothing_known
words_stored (Retired epoch) = nothing_known

abbrev pub stores_known : RowView → ℕ → (KnownWords → KnownWords) → RowView
stores_known d row stored = keeps_row d row (Private (stored (words_stored (keeping_of row d.kept))))

abbrev pub with_handle : Handle → KnownWords → KnownWords
with_handle h known = record known { handle = Some h }

abbrev pub with_token : ℕ → KnownWords → KnownWords
with_token token known = record known { token = Some token }

abbrev pub with_target : ℕ → KnownWords → KnownWords
with_target target known = record known { target = Some target }

abbrev pub after_set_handle : View → ℕ → Handle → View
after_set_handle v row h = after_rows v (stores_known v.rows row (with_handle h)) (SetHandle row h) 0

abbrev pub after_set_token : View → ℕ → ℕ → View
after_set_token v row token = after_rows v (stores_known v.rows row (with_token token)) (SetToken row token) 0

abbrev pub after_set_target : View → ℕ → ℕ → View
after_set_target v row target = after_rows v (stores_known v.rows row (with_target target)) (SetTarget row target) 0

abbrev pub after_free : View → ℕ → View
after_free v row = after_rows v (keeps_row v.rows row Elsewhere) (Free row) 0

-- ---- the words of a row: a load of the claim word moves the cursor, and a load of another word is kept of a protected row

-- the row after it, round the end
abbrev pub next_row : Key → ℕ → ℕ
next_row k row = cond (nat_lt (row + 1) k.sizes.rows) (row + 1) 0

-- the latest entry of the row, where it is protected
abbrev pub protected_of : ℕ → List ProtectedRow → Option ProtectedRow
protected_of row [] = None
protected_of row (x ∷ xs) = cond (nat_eq x.row row) (Some x) (protected_of row xs)

-- the latest entry of the row gains what was loaded of it
abbrev pub seeing : ℕ → (KnownWords → KnownWords) → List ProtectedRow → List ProtectedRow
seeing row loaded [] = []
seeing row loaded (x ∷ xs) = cond (nat_eq x.row row) (record x { seen = loaded x.seen } ∷ xs) (x ∷ seeing row loaded xs)

-- while the seat is pinned
abbrev pub sees : RowView → ℕ → (KnownWords → KnownWords) → RowView
sees d row loaded = record d { protected = cond (nat_lt 0 d.pinned) (seeing row loaded d.protected) d.protected }

-- the token that was loaded, or else that of the site whose cell named the row
abbrev pub token_or_site : Key → Option ℕ → Option ℕ → Option ℕ
token_or_site k (Some token) site = Some token
token_or_site k None (Some site) = Some (site_token k site)
token_or_site k None None = None

abbrev pub evidence_by : Option Handle → Option ℕ → ℕ → List Evidence
evidence_by None token target = []
evidence_by (Some h) None target = []
evidence_by (Some h) (Some token) target = record { handle = h; token = token; target = target } ∷ []

-- the evidence that a load of the row's target gives, where its handle and token were seen
abbrev pub evidence_of : Key → Option ProtectedRow → ℕ → List Evidence
evidence_of k None target = []
evidence_of k (Some x) target = evidence_by x.seen.handle (token_or_site k x.seen.token x.site) target

abbrev pub sees_target : Key → RowView → ℕ → ℕ → RowView
sees_target k d row target = record (sees d row (with_target target)) { evidences = cond (nat_lt 0 d.pinned) (evidence_of k (protected_of row d.protected) target) [] ++ d.evidences }

-- the handle that a word packs
abbrev pub unpacked_handle : ℕ → Handle
unpacked_handle word = record { row = word % 32768; generation = word / 32768 }

-- which of a row's four words it is
abbrev pub offset_of : RowWord → ℕ
offset_of word.Claim = 0
offset_of word.Handle = 1
offset_of word.Token = 2
offset_of word.Target = 3

abbrev pub row_word_seen : Key → RowView → ℕ → RowWord → ℕ → RowView
row_word_seen k d row word.Claim found = record d { cursor = next_row k row }
row_word_seen k d row word.Handle found = sees d row (with_handle (unpacked_handle found))
row_word_seen k d row word.Token found = sees d row (with_token found)
row_word_seen k d row word.Target found = sees_target k d row found

abbrev pub after_row_word : View → ℕ → RowWord → ℕ → View
after_row_word v row which found = after_rows v (row_word_seen v.key v.rows row which found) (LoadRow row which) found

-- ---- cells

abbrev pub protects_row : RowView → ℕ → Option ℕ → RowView
protects_row d row site = record d { protected = record { row = row; site = site; seen = nothing_known } ∷ d.protected }

abbrev pub cell_seen : RowView → ℕ → CellWord → RowView
cell_seen d site Lookup = d
cell_seen d site Resolve = d
cell_seen d site (Dispatch row) = protects_row d row (Some site)

abbrev pub after_cell : View → ℕ → CellWord → View
after_cell v site w = after_rows v (cell_seen v.rows site w) (LoadCell site) (packed_cell w)

-- won where the cell was at Lookup
abbrev pub after_to_dispatch : View → ℕ → ℕ → CellWord → View
after_to_dispatch v site row w = after_rows v (cond (nat_eq (packed_cell w) (packed_cell Lookup)) (keeps_row v.rows row Elsewhere) v.rows) (ToDispatch site row) (packed_cell w)

-- won where the cell was at Dispatch of the row, which the seat then keeps
abbrev pub unlinked : RowView → ℕ → CellWord → RowView
unlinked d row w = cond (nat_eq (packed_cell w) (packed_cell (Dispatch row))) (keeps_row d row Unlinked) d

abbrev pub after_to_resolve : View → ℕ → ℕ → CellWord → View
after_to_resolve v site row w = after_rows v (unlinked v.rows row w) (ToResolve site row) (packed_cell w)

abbrev pub after_to_lookup : View → ℕ → ℕ → CellWord → View
after_to_lookup v site row w = after_rows v (unlinked v.rows row w) (ToLookup site row) (packed_cell w)

abbrev pub after_count : View → ℕ → ℕ → View
after_count v token found = after_rows v v.rows (Count token) found

-- ---- buckets

-- a bucket as one number: 0 is empty
abbrev pub packed_bucket : Option ℕ → ℕ
packed_bucket None = 0
packed_bucket (Some row) = row + 1

abbrev pub bucket_seen : RowView → Option ℕ → RowView
bucket_seen d None = d
bucket_seen d (Some row) = protects_row d row None

abbrev pub after_bucket : View → ℕ → Option ℕ → View
after_bucket v bucket found = after_rows v (bucket_seen v.rows found) (LoadBucket bucket) (packed_bucket found)

-- the seat keeps the row that came out
abbrev pub came_out : RowView → Option ℕ → RowView
came_out d None = d
came_out d (Some row) = keeps_row d row Unlinked

abbrev pub after_put_bucket : View → ℕ → ℕ → Option ℕ → View
after_put_bucket v bucket row found = after_rows v (came_out (keeps_row v.rows row Elsewhere) found) (PutBucket bucket row) (packed_bucket found)

abbrev pub after_empty_bucket : View → ℕ → Option ℕ → View
after_empty_bucket v bucket found = after_rows v (came_out v.rows found) (EmptyBucket bucket) (packed_bucket found)

-- ---- limbo

-- the running sweep is of the oldest row: it begins anew where there is none yet
abbrev pub passed_before : List RetiredRow → ℕ → ℕ
passed_before [] passed = 0
passed_before (x ∷ xs) passed = passed

abbrev pub retired : RowView → ℕ → ℕ → RowView
retired d row epoch = record (keeps_row d row (Retired epoch)) { limbo = d.limbo ++ record { row = row; epoch = epoch } ∷ []; passed = passed_before d.limbo d.passed }

abbrev pub after_epoch_to_retire : View → ℕ → ℕ → View
after_epoch_to_retire v row found = after_rows v (retired v.rows row found) (EpochToRetire row) found

-- a caller with this epoch word is not pinned at the epoch or before
abbrev pub is_clear : ℕ → ℕ → Bool
is_clear epoch word = nat_eq word 0 || nat_le (epoch + 2) word

-- the callers that a sweep of a row retired at the epoch has passed, once it loaded a caller's epoch word: at caller 0 it begins anew
abbrev pub passed_after : ℕ → ℕ → ℕ → ℕ → ℕ
passed_after epoch passed caller word =
    cond (nat_eq caller 0) (cond (is_clear epoch word) 1 0) (cond (nat_eq caller passed && is_clear epoch word) (passed + 1) passed)

abbrev pub swept : RowView → List RetiredRow → ℕ → ℕ → RowView
swept d [] caller word = d
swept d (oldest ∷ others) caller word = record d { passed = passed_after oldest.epoch d.passed caller word }

abbrev pub after_epoch_of : View → ℕ → ℕ → View
after_epoch_of v caller found = after_rows v (swept v.rows v.rows.limbo caller found) (EpochOf caller) found

abbrev pub without_oldest : List RetiredRow → List RetiredRow
without_oldest [] = []
without_oldest (oldest ∷ others) = others

abbrev pub freed : RowView → ℕ → RowView
freed d row = record (keeps_row d row Elsewhere) { limbo = without_oldest d.limbo; passed = 0 }

abbrev pub after_free_swept : View → ℕ → View
after_free_swept v row = after_rows v (freed v.rows row) (FreeSwept row) 0
