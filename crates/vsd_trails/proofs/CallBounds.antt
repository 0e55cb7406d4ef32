-- The most steps that a call, a cast, a load and an unload take.
use Rattle.std.proofs.Common.{ℕ, zero, suc, ◌+◌, ◌*◌, ◌≤◌, List, [], ◌∷◌, ◌++◌, Option, Some, None, Ok, Err, Result, Bool, true, false, arith}
use Rattle.vsd_words.specs.declared.handle.Handle.{Handle}
use Rattle.vsd_words.specs.declared.cell_word.CellWord.{CellWord}
use Rattle.vsd_words.specs.declared.cell_word.CellWord.TheVariants.{Lookup, Resolve, Dispatch}
use Rattle.vsd_words.specs.declared.cast_word.CastWord.{CastWord}
use Rattle.vsd_words.specs.Hash.{home_of}
use Rattle.vsd_rule.specs.declared.key.Key.{Key}
use Rattle.vsd_rule.specs.declared.step.Act.TheVariants.{LoadRow}
use Rattle.vsd_rule.specs.declared.step.RowWord.TheVariants.{Target}
use Rattle.vsd_rule.specs.declared.step.Doing.TheVariants.{Call, Unload}
use Rattle.vsd_rule.specs.Lists.{site_token}
use Rattle.vsd_trails.specs.declared.answers.Seen.{Seen}
use Rattle.vsd_trails.specs.declared.answers.Unloaded.{Unloaded}
use Rattle.vsd_trails.specs.declared.answers.Found.{Found}
use Rattle.vsd_trails.specs.declared.answers.Found.TheVariants.{Hit, Other, Empty}
use Rattle.vsd_trails.specs.declared.casting.Miss.{Miss}
use Rattle.vsd_trails.specs.declared.casting.Find.{Find}
use Rattle.vsd_trails.specs.declared.casting.Find.TheVariants as find
use Rattle.vsd_trails.specs.Programs.{Program, done, bind, when◌then◌else◌}
use Rattle.vsd_trails.specs.Words.{unpacked_bucket}
use Rattle.vsd_rule.specs.RowSteps.{unpacked_handle}
use Rattle.vsd_trails.specs.RowTrails.{reading}
use Rattle.vsd_trails.specs.CallTrails.{finding_in, finding, caching_in, caching, Stubbed, stub_hit, stub_miss, patching, stubbing, installing_in, installing, walking_by, walking, resolving_by, answering_by, answering, calling}
use Rattle.vsd_trails.specs.CastTrails.{region_size, Probed, probe_hit, probe_miss, probing_row, unless_hit, probing, finding_cast, making_odd, publishing, writing, growing, putting_by, putting_cast, asking, typing_target, typing_source, casting_by, casting}
use Rattle.vsd_trails.specs.UnloadTrails.{binding, purging_cell, purging_bucket, purging_cells, purging_buckets, unloading}
use Rattle.vsd_trails.proofs.Bounds.{Few, within, nothing, one, and_then, either, at_pinning, at_claiming, at_filling, at_seeing_room, at_retiring_any, at_unlinking, at_sweeping}

-- ---- a call: the longest is a walk whose cell was Lookup

-- A look at the bucket takes four steps where it hits and three else, and so leaves one more for what comes after a miss.
module _ {A : Type 0} (m : ℕ) (g : Found → Program A)
    (hit : (target : ℕ) → Few m (g (Hit target))) (other : (x : Handle) (t : ℕ) → Few (m + 1) (g (Other x t))) (empty : Few (m + 1) (g Empty)) where
  at_same_pair : (row : ℕ) (x : Handle) (t : ℕ) (same : Bool) → Few (m + 1) (bind (when same then reading (LoadRow row Target) Hit else done (Other x t)) g)
  unfolding bind when◌then◌else◌
  at_same_pair row x t true = record { few = (m, omega arith, λ target. (hit target).few) }
  at_same_pair row x t false = other x t

  at_finding_in : (token : ℕ) (h : Handle) (named : Option ℕ) → Few (m + 3) (bind (finding_in token h named) g)
  unfolding bind
  at_finding_in token h None = within (omega arith) empty
  at_finding_in token h (Some row) = record { few = (m + 2, omega arith, λ x. (m + 1, omega arith, λ t. (at_same_pair row (unpacked_handle x) t _).few)) }

  at_finding : (k : Key) (token : ℕ) (h : Handle) → Few (m + 4) (bind (finding k token h) g)
  unfolding bind finding
  at_finding k token h = record { few = (m + 3, omega arith, λ word. (at_finding_in token h (unpacked_bucket word)).few) }

at_caching_in : (k : Key) (token : ℕ) (h : Handle) (target : ℕ) (given : Option ℕ) → Few 6 (caching_in k token h target given)
at_caching_in k token h target None = nothing 6
at_caching_in k token h target (Some row) = and_then (at_filling row h token target) (λ u. and_then one at_retiring_any)

at_caching : (k : Key) (token : ℕ) (h : Handle) (target : ℕ) → Few 22 (caching k token h target)
unfolding caching
at_caching k token h target = and_then at_seeing_room (λ room. either room (and_then (at_claiming k) (at_caching_in k token h target)) (nothing 22))

module _ (k : Key) (site : ℕ) (h : Handle) where
  at_patching : (row : ℕ) → Few 4 (patching k site h row)
  unfolding patching
  at_patching row = and_then one (λ count. and_then at_seeing_room (λ room. either _ (at_unlinking _ row) (nothing 3)))

  at_installing_in : (target : ℕ) (given : Option ℕ) → Few 5 (installing_in k site h target given)
  unfolding installing_in
  at_installing_in target None = nothing 5
  at_installing_in target (Some row) = and_then (at_filling row h (site_token k site) target) (λ u. and_then one (λ won. either won (nothing 1) one))

  -- what comes after the look at the cell: 21 steps more where the cell was Lookup
  unfoldable room_of : CellWord → ℕ
  room_of Lookup = 21
  room_of Resolve = 0
  room_of (Dispatch row) = 0

  -- what the look at the cell takes
  unfoldable look_of : CellWord → ℕ
  look_of Lookup = 0
  look_of Resolve = 0
  look_of (Dispatch row) = 5

  at_stubbing : (cell : CellWord) → Few (look_of cell) (stubbing k site h cell)
  unfolding stubbing look_of
  at_stubbing Lookup = nothing 0
  at_stubbing Resolve = nothing 0
  at_stubbing (Dispatch row) = and_then one (λ g. either _ (within (omega arith) one) (and_then (at_patching row) (λ u. nothing 0)))

  at_installing : (cell : CellWord) (target : ℕ) → Few (room_of cell) (installing k site h cell target)
  unfolding installing room_of
  at_installing Lookup target = and_then (at_claiming k) (at_installing_in target)
  at_installing Resolve target = nothing 0
  at_installing (Dispatch row) target = nothing 0

  at_walking_by : (cell : CellWord) (seen : Seen) (type : Result ℕ Unloaded) → Few (22 + room_of cell) (walking_by k site h cell seen type)
  unfolding walking_by
  at_walking_by cell seen (Err unloaded) = nothing (22 + room_of cell)
  at_walking_by cell seen (Ok number) = within (omega arith) (and_then (at_caching k (site_token k site) h _) (λ u. and_then (at_installing cell _) (λ v. nothing 0)))

  at_walking : (cell : CellWord) (seen : Seen) → Few (23 + room_of cell) (walking k site h cell seen)
  unfolding walking
  at_walking cell seen = within (omega arith) (and_then one (at_walking_by cell seen))

  at_hit : (cell : CellWord) (expected : Option Handle) (target : ℕ) → Few (22 + room_of cell) (resolving_by k site h cell expected (Hit target))
  unfolding resolving_by
  at_hit cell expected target = within (omega arith) (and_then (at_installing cell target) (λ u. nothing 0))

  at_other : (cell : CellWord) (expected : Option Handle) (x : Handle) (t : ℕ) → Few (22 + room_of cell + 1) (resolving_by k site h cell expected (Other x t))
  unfolding resolving_by
  at_other cell expected x t = within (omega arith) (at_walking cell _)

  at_empty : (cell : CellWord) (expected : Option Handle) → Few (22 + room_of cell + 1) (resolving_by k site h cell expected Empty)
  unfolding resolving_by
  at_empty cell expected = within (omega arith) (at_walking cell _)

  at_answering_by : (cell : CellWord) (stubbed : Stubbed) → Few (26 + room_of cell) (answering_by k site h cell stubbed)
  unfolding answering_by
  at_answering_by cell (stub_hit target) = nothing (26 + room_of cell)
  at_answering_by cell (stub_miss expected) =
      within (omega arith) (at_finding (22 + room_of cell) (resolving_by k site h cell expected) (at_hit cell expected) (at_other cell expected) (at_empty cell expected) k (site_token k site) h)

  room_in_all : (cell : CellWord) → look_of cell + (26 + room_of cell) ≤ 47
  unfolding look_of room_of
  room_in_all Lookup = omega arith
  room_in_all Resolve = omega arith
  room_in_all (Dispatch row) = omega arith

  at_answering : (cell : CellWord) → Few 47 (answering k site h cell)
  unfolding answering
  at_answering cell = within (room_in_all cell) (and_then (at_stubbing cell) (at_answering_by cell))

  pub at_calling : Few (52 + k.sizes.callers) (calling k site h)
  unfolding calling
  at_calling = within (omega arith) (and_then (at_pinning (Call site h)) (λ u. and_then one (λ cell. and_then (at_answering cell) (λ answer. and_then one (λ v. and_then (at_sweeping k) (λ swept. nothing 0))))))

-- ---- a cast: one load, eight probes, two handle words, four steps to write

at_probing_row : (source target : Handle) (region row : ℕ) → Few 4 (probing_row source target region row)
unfolding probing_row
at_probing_row source target region row = and_then one (λ version. and_then one (λ s. and_then one (λ w. and_then one (λ again. nothing 0))))

at_unless_hit : (n : ℕ) (p : ℕ → Program Find) → ((version : ℕ) → Few n (p version)) → (found : Probed) → Few n (unless_hit p found)
at_unless_hit n p each (probe_hit answer) = nothing n
at_unless_hit n p each (probe_miss version) = each version

at_probing : (source target : Handle) (region home n i : ℕ) (versions : List ℕ) → Few (4 * n) (probing source target region home n i versions)
unfolding probing
at_probing source target region home zero i versions = nothing (4 * zero)
at_probing source target region home (suc n) i versions = within (omega arith) (and_then (at_probing_row source target region _) (at_unless_hit (4 * n) _ (λ version. at_probing source target region home n (i + 1) (versions ++ version ∷ []))))

at_finding_cast : (source target : Handle) → Few 33 (finding_cast source target)
unfolding finding_cast
at_finding_cast source target = and_then one (λ region. at_probing source target region (home_of source target (region_size region)) 8 0 [])

at_making_odd : (region row version : ℕ) → Few 1 (making_odd region row version)
at_making_odd region row zero = one
at_making_odd region row (suc n) = one

at_publishing : (region row : ℕ) (source : Handle) (word : CastWord) (version : ℕ) → Few 3 (publishing region row source word version)
unfolding publishing
at_publishing region row source word version = and_then one (λ a. and_then one (λ b. and_then one (λ c. nothing 0)))

at_writing : (k : Key) (m : Miss) (source target : Handle) (answer : Bool) (i : ℕ) → Few 4 (writing k m source target answer i)
unfolding writing
at_writing k m source target answer i = either _ (nothing 4) (and_then (at_making_odd m.region _ _) (λ found. either _ (at_publishing m.region _ source _ _) (nothing 3)))

at_putting_by : (k : Key) (m : Miss) (source target : Handle) (answer : Bool) (chosen : Option ℕ) → Few 4 (putting_by k m source target answer chosen)
unfolding putting_by growing
at_putting_by k m source target answer (Some i) = at_writing k m source target answer i
at_putting_by k m source target answer None = either _ (within (omega arith) (and_then one (λ found. either _ (nothing 0) (nothing 0)))) (at_writing k m source target answer _)

at_putting_cast : (k : Key) (m : Miss) (source target : Handle) (answer : Bool) → Few 4 (putting_cast k m source target answer)
unfolding putting_cast
at_putting_cast k m source target answer = at_putting_by k m source target answer _

module _ (k : Key) (source target : Handle) where
  at_asking : (m : Miss) (number other : ℕ) → Few 4 (asking k source target m number other)
  unfolding asking
  at_asking m number other = and_then (at_putting_cast k m source target _) (λ put. nothing 0)

  at_typing_target : (m : Miss) (number : ℕ) (type : Result ℕ Unloaded) → Few 4 (typing_target k source target m number type)
  unfolding typing_target
  at_typing_target m number (Err unloaded) = nothing 4
  at_typing_target m number (Ok other) = at_asking m number other

  at_typing_source : (m : Miss) (type : Result ℕ Unloaded) → Few 5 (typing_source k source target m type)
  unfolding typing_source
  at_typing_source m (Err unloaded) = nothing 5
  at_typing_source m (Ok number) = and_then one (at_typing_target m number)

  at_casting_by : (found : Find) → Few 6 (casting_by k source target found)
  unfolding casting_by
  at_casting_by (find.Hit answer) = nothing 6
  at_casting_by (find.Miss m) = and_then one (at_typing_source m)

  pub at_casting : Few 39 (casting k source target)
  unfolding casting
  at_casting = and_then (at_finding_cast source target) at_casting_by

-- ---- a load and an unload

pub at_binding : (h : Handle) (number : ℕ) → Few 1 (binding h number)
unfolding binding
at_binding h number = and_then one (λ u. nothing 0)

at_purging_cell : (h : Handle) (site : ℕ) (cell : CellWord) → Few 4 (purging_cell h site cell)
unfolding purging_cell
at_purging_cell h site Lookup = nothing 4
at_purging_cell h site Resolve = nothing 4
at_purging_cell h site (Dispatch row) = and_then one (λ g. and_then at_seeing_room (λ room. either _ (at_unlinking _ row) (nothing 3)))

at_purging_bucket : (h : Handle) (bucket : ℕ) (named : Option ℕ) → Few 4 (purging_bucket h bucket named)
unfolding purging_bucket
at_purging_bucket h bucket None = nothing 4
at_purging_bucket h bucket (Some row) = and_then one (λ g. and_then at_seeing_room (λ room. either _ (and_then one at_retiring_any) (nothing 3)))

at_purging_cells : (h : Handle) (n site : ℕ) → Few (5 * n) (purging_cells h n site)
unfolding purging_cells
at_purging_cells h zero site = nothing (5 * zero)
at_purging_cells h (suc n) site = within (omega arith) (and_then one (λ cell. and_then (at_purging_cell h site cell) (λ u. at_purging_cells h n (site + 1))))

at_purging_buckets : (h : Handle) (n bucket : ℕ) → Few (5 * n) (purging_buckets h n bucket)
unfolding purging_buckets
at_purging_buckets h zero bucket = nothing (5 * zero)
at_purging_buckets h (suc n) bucket = within (omega arith) (and_then one (λ named. and_then (at_purging_bucket h bucket named) (λ u. at_purging_buckets h n (bucket + 1))))

pub at_unloading : (k : Key) (h : Handle) → Few (5 + k.sizes.callers + 5 * (k.sizes.sites + k.sizes.buckets)) (unloading k h)
unfolding unloading
at_unloading k h = within (omega arith) (and_then (at_pinning (Unload h)) (λ a. and_then one (λ b. and_then (at_purging_cells h k.sizes.sites 0) (λ c. and_then (at_purging_buckets h k.sizes.buckets 0) (λ d. and_then one (λ e. and_then (at_sweeping k) (λ swept. nothing 0)))))))
