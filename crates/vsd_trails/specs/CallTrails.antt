-- The trail of a call: its look at the cell (a dispatch stub), at the bucket (a resolve stub), and its walk.
use Rattle.std.specs.Prelude.{ℕ, nat_eq, nat_le, ◌&&◌, Option, Some, None, Result, Ok, Err}
use Rattle.vsd_words.specs.declared.handle.Handle.{Handle}
use Rattle.vsd_words.specs.declared.cell_word.CellWord.{CellWord}
use Rattle.vsd_words.specs.declared.cell_word.CellWord.TheVariants.{Lookup, Resolve, Dispatch}
use Rattle.vsd_words.specs.Hash.{bucket_of}
use Rattle.vsd_rule.specs.declared.key.Key.{Key}
use Rattle.vsd_rule.specs.declared.step.Act.TheVariants.{ToDispatch, ToResolve, Count, LoadRow}
use Rattle.vsd_rule.specs.declared.step.RowWord.TheVariants.{Target}
use Rattle.vsd_rule.specs.declared.step.Doing.TheVariants.{Call}
use Rattle.vsd_rule.specs.Lists.{site_token, target_of}
use Rattle.vsd_trails.specs.declared.answers.Answer.{Answer}
use Rattle.vsd_trails.specs.declared.answers.Path.TheVariants.{Stub, Bucket, Walked}
use Rattle.vsd_trails.specs.declared.answers.Seen.{Seen}
use Rattle.vsd_trails.specs.declared.answers.Unloaded.{Unloaded}
use Rattle.vsd_trails.specs.declared.answers.Found.{Found}
use Rattle.vsd_trails.specs.declared.answers.Found.TheVariants.{Hit, Other, Empty}
use Rattle.vsd_trails.specs.Programs.{Program, done, ◌>>=◌, ◌>>◌, when◌then◌else◌}
use Rattle.vsd_trails.specs.Words.{counted, same_handle}
use Rattle.vsd_trails.specs.RowTrails.{reading, trying, pinning, unpinning, reading_handle, reading_token, claiming, filling, abandoning, seeing_room, retiring_any, sweeping, reading_cell, unlinking, looking, putting_row, typing}

-- Add one to the token's counter of misses.
abbrev pub counting : ℕ → Program ℕ
counting token = reading (Count token) counted

-- ---- the bucket of a token and a handle

-- If the bucket names a row, load its handle and token, and where both are the call's its target.
abbrev pub finding_in : ℕ → Handle → Option ℕ → Program Found
finding_in token h None = done Empty
finding_in token h (Some row) = do
  g ← reading_handle row
  t ← reading_token row
  when same_handle g h && nat_eq t token
      then reading (LoadRow row Target) Hit
      else done (Other g t)

unfoldable pub finding : Key → ℕ → Handle → Program Found
finding k token h = looking (bucket_of token h k.sizes.buckets) >>= finding_in token h

abbrev pub putting : Key → ℕ → ℕ → Handle → Program (Option ℕ)
putting k row token h = putting_row (bucket_of token h k.sizes.buckets) row

abbrev pub caching_in : Key → ℕ → Handle → ℕ → Option ℕ → Program (Unit {0})
caching_in k token h target None = done tt
caching_in k token h target (Some row) = do
  filling row h token target
  out ← putting k row token h
  retiring_any out

-- Where limbo has room, claim a row. Where one is given, fill it, swap it into the bucket, and retire the row that came out.
unfoldable pub caching : Key → ℕ → Handle → ℕ → Program (Unit {0})
caching k token h target = do
  room ← seeing_room
  when room then (claiming k >>= caching_in k token h target) else done tt

-- ---- the cell of a site

-- what a call's look at its cell finds: the target of the row that the cell names, or the other handle that this row has
pub data Stubbed : Type 0 where
  stub_hit : ℕ → Stubbed
  stub_miss : Option Handle → Stubbed

-- what a call saw that neither its cell nor its bucket held
abbrev pub seen_by : CellWord → Option Handle → Found → Seen
seen_by cell expected (Hit target) = record { cell = cell; expected = expected; entry_handle = None; entry_token = None }
seen_by cell expected (Other g t) = record { cell = cell; expected = expected; entry_handle = Some g; entry_token = Some t }
seen_by cell expected Empty = record { cell = cell; expected = expected; entry_handle = None; entry_token = None }

abbrev pub by_stub : ℕ → Result Answer Unloaded
by_stub target = Ok (record { target = target; path = Stub })

abbrev pub by_bucket : ℕ → Result Answer Unloaded
by_bucket target = Ok (record { target = target; path = Bucket })

abbrev pub by_walk : ℕ → Seen → Result Answer Unloaded
by_walk target seen = Ok (record { target = target; path = Walked seen })

module _ (k : Key) (site : ℕ) (h : Handle) where
  -- The row has another handle: count the miss. Where the count is at least the limit and limbo has room, try one exchange
  -- of the cell to Resolve, and where it wins retire the row.
  unfoldable pub patching : ℕ → Program (Unit {0})
  patching row = do
    count ← counting (site_token k site)
    room ← seeing_room
    when nat_le k.sizes.miss count && room then unlinking (ToResolve site row) row else done tt

  -- On Dispatch load the row's handle. If it is the call's, load the row's target.
  unfoldable pub stubbing : CellWord → Program Stubbed
  stubbing Lookup = done (stub_miss None)
  stubbing Resolve = done (stub_miss None)
  stubbing (Dispatch row) = do
    g ← reading_handle row
    when same_handle g h
        then reading (LoadRow row Target) stub_hit
        else (patching row >> done (stub_miss (Some g)))

  -- Fill the row and try one exchange of the cell from Lookup. Where it is lost, give the row up.
  unfoldable pub installing_in : ℕ → Option ℕ → Program (Unit {0})
  installing_in target None = done tt
  installing_in target (Some row) = do
    filling row h (site_token k site) target
    won ← trying (ToDispatch site row) 0
    when won then done tt else abandoning row

  -- Where the cell was Lookup, claim a row for it.
  unfoldable pub installing : CellWord → ℕ → Program (Unit {0})
  installing Lookup target = claiming k >>= installing_in target
  installing Resolve target = done tt
  installing (Dispatch row) target = done tt

  -- ---- the walk

  -- Where the handle is loaded, its type's target goes into the bucket and into the cell.
  unfoldable pub walking_by : CellWord → Seen → Result ℕ Unloaded → Program (Result Answer Unloaded)
  walking_by cell seen (Err unloaded) = done (Err unloaded)
  walking_by cell seen (Ok number) = do
    let target = target_of k number (site_token k site)
    caching k (site_token k site) h target
    installing cell target
    done (by_walk target seen)

  -- Load the handle's word.
  unfoldable pub walking : CellWord → Seen → Program (Result Answer Unloaded)
  walking cell seen = typing h >>= walking_by cell seen

  -- ---- a call

  unfoldable pub resolving_by : CellWord → Option Handle → Found → Program (Result Answer Unloaded)
  resolving_by cell expected (Hit target) = installing cell target >> done (by_bucket target)
  resolving_by cell expected (Other g t) = walking cell (seen_by cell expected (Other g t))
  resolving_by cell expected Empty = walking cell (seen_by cell expected Empty)

  unfoldable pub answering_by : CellWord → Stubbed → Program (Result Answer Unloaded)
  answering_by cell (stub_hit target) = done (by_stub target)
  answering_by cell (stub_miss expected) = finding k (site_token k site) h >>= resolving_by cell expected

  unfoldable pub answering : CellWord → Program (Result Answer Unloaded)
  answering cell = stubbing cell >>= answering_by cell

  -- Pin and load the cell, answer, unpin and sweep.
  unfoldable pub calling : Program (Result Answer Unloaded)
  calling = do
    pinning (Call site h)
    cell ← reading_cell site
    answer ← answering cell
    unpinning
    sweeping k
    done answer
