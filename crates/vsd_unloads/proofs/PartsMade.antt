-- The programs of the parts of an unload, made of what their callees make.
use Rattle.std.proofs.Common.{◌≡◌, ℕ, suc, zero, ◌+◌, Bool, true, false, ◌&&◌, Option, Some, None, refl, sym, subst}
use Rattle.vsd_words.specs.declared.handle.Handle.{Handle}
use Rattle.vsd_words.specs.declared.cell_word.CellWord.{CellWord}
use Rattle.vsd_words.specs.declared.cell_word.CellWord.TheVariants.{Lookup, Resolve, Dispatch}
use Rattle.vsd_rule.specs.declared.key.Key.{Key}
use Rattle.vsd_rule.specs.declared.step.Act.{Act}
use Rattle.vsd_rule.specs.declared.step.Act.TheVariants.{ToLookup}
use Rattle.vsd_rule.specs.declared.step.Doing.TheVariants.{Unload}
use Rattle.vsd_table.specs.declared.seated.Seated.{Seated}
use Rattle.vsd_table.specs.Seating.{view_of}
use Rattle.vsd_trails.specs.declared.answers.Swept.{Swept}
use Rattle.vsd_trails.specs.Programs.{Fields, Program, done, bind, when◌then◌else◌}
use Rattle.vsd_trails.specs.Words.{same_handle}
use Rattle.vsd_trails.specs.RowTrails.{trying, pinning, unpinning, reading_handle, has_room, seeing_room, retiring, retiring_any, sweeping, reading_cell, unlinking, looking, emptying}
use Rattle.vsd_trails.specs.UnloadTrails.{unbinding, purging_cell, purging_bucket, purging_cells, purging_buckets, unloading}
use Rattle.vsd_rows.specs.Makes.{Makes}
use Rattle.vsd_rows.proofs.Makes.{joined, then_makes, looks, when_true, when_false, makes_none}
use Rattle.vsd_unloads.specs.Parts.{checking, purging_site, purging_one}

sees_room : (s : Seated) → Makes s s seeing_room (has_room (view_of s).rows.limbo)
sees_room s = looks (λ (f : Fields). done (has_room f.limbo)) (makes_none s (has_room (view_of s).rows.limbo))

-- ---- a row taken out of a cell

module _ (out : Act) (row : ℕ) where
  abbrev by_won : Bool → Program (Unit {0})
  by_won won = when won then retiring row else done tt

  pub takes : (old one new : Seated) → Makes old one (trying out (2 + row)) true → Makes one new (retiring row) tt → Makes old new (unlinking out row) tt
  unfolding unlinking
  takes old one new first second = joined by_won first (when_true true (retiring row) (done tt) refl second)

  pub takes_not : (old one : Seated) → Makes old one (trying out (2 + row)) false → Makes old one (unlinking out row) tt
  unfolding unlinking
  takes_not old one first = joined by_won first (when_false false (retiring row) (done tt) refl (makes_none one tt))

module _ (h : Handle) where
  -- ---- one row

  pub checks : (row : ℕ) (old one : Seated) (g : Handle) → Makes old one (reading_handle row) g → Makes old one (checking h row) (same_handle g h && has_room (view_of one).rows.limbo)
  checks row old one g first =
      let due = same_handle g h && has_room (view_of one).rows.limbo in
      joined (λ (x : Handle). bind seeing_room (λ (room : Bool). done (same_handle x h && room))) first
      (joined (λ (room : Bool). done (same_handle g h && room)) (sees_room one) (makes_none one due))

  abbrev if_due : Program (Unit {0}) → Bool → Program (Unit {0})
  if_due p due = when due then p else done tt

  -- ---- one cell

  pub dispatch_taken : (site row : ℕ) (old one new : Seated) → Makes old one (checking h row) true → Makes one new (unlinking (ToLookup site row) row) tt → Makes old new (purging_cell h site (Dispatch row)) tt
  unfolding purging_cell bind
  dispatch_taken site row old one new first second =
      joined (if_due (unlinking (ToLookup site row) row)) first (when_true true (unlinking (ToLookup site row) row) (done tt) refl second)

  pub dispatch_left : (site row : ℕ) (old one : Seated) → Makes old one (checking h row) false → Makes old one (purging_cell h site (Dispatch row)) tt
  unfolding purging_cell bind
  dispatch_left site row old one first =
      joined (if_due (unlinking (ToLookup site row) row)) first (when_false false (unlinking (ToLookup site row) row) (done tt) refl (makes_none one tt))

  pub cell_purged : (site row : ℕ) (cell : CellWord) (old one new : Seated) → cell ≡ Dispatch row → Makes old one (reading_cell site) cell → Makes one new (purging_cell h site (Dispatch row)) tt → Makes old new (purging_site h site) tt
  cell_purged site row cell old one new is first second =
      joined (purging_cell h site) first (subst (λ (c : CellWord). Makes one new (purging_cell h site c) tt) (sym is) second)

  no_dispatch : (site : ℕ) (cell : CellWord) (s : Seated) → ((row : ℕ) → cell ≡ Dispatch row → ⊥) → Makes s s (purging_cell h site cell) tt
  unfolding purging_cell
  no_dispatch site Lookup s other = makes_none s tt
  no_dispatch site Resolve s other = makes_none s tt
  no_dispatch site (Dispatch row) s other = absurd (other row refl)

  pub cell_passed : (site : ℕ) (cell : CellWord) (old one : Seated) → ((row : ℕ) → cell ≡ Dispatch row → ⊥) → Makes old one (reading_cell site) cell → Makes old one (purging_site h site) tt
  cell_passed site cell old one other first = joined (purging_cell h site) first (no_dispatch site cell one other)

  -- ---- one bucket

  pub named_taken : (bucket row : ℕ) (old one new : Seated) → Makes old one (checking h row) true → Makes one new (bind (emptying bucket) retiring_any) tt → Makes old new (purging_bucket h bucket (Some row)) tt
  unfolding purging_bucket bind
  named_taken bucket row old one new first second =
      joined (if_due (bind (emptying bucket) retiring_any)) first (when_true true (bind (emptying bucket) retiring_any) (done tt) refl second)

  pub named_left : (bucket row : ℕ) (old one : Seated) → Makes old one (checking h row) false → Makes old one (purging_bucket h bucket (Some row)) tt
  unfolding purging_bucket bind
  named_left bucket row old one first =
      joined (if_due (bind (emptying bucket) retiring_any)) first (when_false false (bind (emptying bucket) retiring_any) (done tt) refl (makes_none one tt))

  pub bucket_purged : (bucket row : ℕ) (named : Option ℕ) (old one new : Seated) → named ≡ Some row → Makes old one (looking bucket) named → Makes one new (purging_bucket h bucket (Some row)) tt → Makes old new (purging_one h bucket) tt
  bucket_purged bucket row named old one new is first second =
      joined (purging_bucket h bucket) first (subst (λ (n : Option ℕ). Makes one new (purging_bucket h bucket n) tt) (sym is) second)

  pub bucket_passed : (bucket : ℕ) (named : Option ℕ) (old one : Seated) → named ≡ None → Makes old one (looking bucket) named → Makes old one (purging_one h bucket) tt
  unfolding purging_bucket
  bucket_passed bucket named old one is first =
      joined (purging_bucket h bucket) first (subst (λ (n : Option ℕ). Makes one one (purging_bucket h bucket n) tt) (sym is) (makes_none one tt))

  -- ---- one after another

  pub cells_on : (rest site : ℕ) (old now new : Seated) (u : Unit {0}) → Makes old now (purging_site h site) tt → Makes now new (purging_cells h rest (site + 1)) u → Makes old new (purging_cells h (suc rest) site) u
  unfolding purging_cells bind
  cells_on rest site old now new u first second = joined (λ (done_one : Unit {0}). purging_cells h rest (site + 1)) first second

  pub cells_end : (site : ℕ) (s : Seated) → Makes s s (purging_cells h zero site) tt
  unfolding purging_cells
  cells_end site s = makes_none s tt

  pub buckets_on : (rest bucket : ℕ) (old now new : Seated) (u : Unit {0}) → Makes old now (purging_one h bucket) tt → Makes now new (purging_buckets h rest (bucket + 1)) u → Makes old new (purging_buckets h (suc rest) bucket) u
  unfolding purging_buckets bind
  buckets_on rest bucket old now new u first second = joined (λ (done_one : Unit {0}). purging_buckets h rest (bucket + 1)) first second

  pub buckets_end : (bucket : ℕ) (s : Seated) → Makes s s (purging_buckets h zero bucket) tt
  unfolding purging_buckets
  buckets_end bucket s = makes_none s tt

  -- ---- an unload

  pub unloads : (k : Key) (old one two three four five new : Seated) (swept : Swept) → Makes old one (pinning (Unload h)) tt → Makes one two (unbinding h) tt
      → Makes two three (purging_cells h k.sizes.sites 0) tt → Makes three four (purging_buckets h k.sizes.buckets 0) tt → Makes four five unpinning tt → Makes five new (sweeping k) swept
      → Makes old new (unloading k h) tt
  unfolding unloading
  unloads k old one two three four five new swept a b c d e f = then_makes a (then_makes b (then_makes c (then_makes d (then_makes e (then_makes f (makes_none new tt))))))
