-- The programs of the parts of a call, made of what their callees make.
use Rattle.std.proofs.Common.{◌≡◌, ◌≢◌, ℕ, ◌+◌, Bool, true, false, ◌&&◌, nat_le, Option, Some, None, refl, sym, ap, subst, ◌<◌}
use Rattle.std.proofs.lemmas.Bool.{lt-leb}
use Rattle.vsd_words.specs.declared.handle.Handle.{Handle}
use Rattle.vsd_words.specs.declared.cell_word.CellWord.{CellWord}
use Rattle.vsd_words.specs.declared.cell_word.CellWord.TheVariants.{Lookup, Resolve, Dispatch}
use Rattle.vsd_rule.specs.declared.key.Key.{Key}
use Rattle.vsd_rule.specs.declared.step.Act.TheVariants.{ToDispatch, ToResolve}
use Rattle.vsd_rule.specs.Lists.{site_token}
use Rattle.vsd_table.specs.declared.seated.Seated.{Seated}
use Rattle.vsd_table.specs.Seating.{view_of}
use Rattle.vsd_trails.specs.Programs.{Fields, Program, done, bind, when◌then◌else◌}
use Rattle.vsd_trails.specs.RowTrails.{claiming, filling, abandoning, has_room, seeing_room, retiring, retiring_any, trying, unlinking}
use Rattle.vsd_trails.specs.CallTrails.{counting, putting, caching_in, caching, installing_in, installing, patching}
use Rattle.vsd_rows.specs.Makes.{Makes}
use Rattle.vsd_rows.proofs.Makes.{joined, then_makes, looks, when_true, when_false, makes_none}

sees_room : (s : Seated) → Makes s s seeing_room (has_room (view_of s).rows.limbo)
sees_room s = looks (λ (f : Fields). done (has_room f.limbo)) (makes_none s (has_room (view_of s).rows.limbo))

module _ (k : Key) (token : ℕ) (h : Handle) (target : ℕ) where
  -- ---- a pair into its bucket

  pub caches_row : (row : ℕ) (old one two new : Seated) (out : Option ℕ) → Makes old one (filling row h token target) tt → Makes one two (putting k row token h) out → Makes two new (retiring_any out) tt
      → Makes old new (caching_in k token h target (Some row)) tt
  caches_row row old one two new out first second third = then_makes first (joined (λ (o : Option ℕ). retiring_any o) second third)

  abbrev by_room : Bool → Program (Unit {0})
  by_room room = when room then bind (claiming k) (caching_in k token h target) else done tt

  pub caches_not : (s : Seated) → has_room (view_of s).rows.limbo ≡ false → Makes s s (caching k token h target) tt
  unfolding caching
  caches_not s full = joined by_room (sees_room s) (when_false (has_room (view_of s).rows.limbo) (bind (claiming k) (caching_in k token h target)) (done tt) full (makes_none s tt))

  pub caches_given : (old one new : Seated) (given : Option ℕ) → has_room (view_of old).rows.limbo ≡ true → Makes old one (claiming k) given → Makes one new (caching_in k token h target given) tt
      → Makes old new (caching k token h target) tt
  unfolding caching
  caches_given old one new given room first second =
      joined by_room (sees_room old) (when_true (has_room (view_of old).rows.limbo) (bind (claiming k) (caching_in k token h target)) (done tt) room (joined (caching_in k token h target) first second))

-- ---- a row into a cell

module _ (k : Key) (site : ℕ) (h : Handle) (target : ℕ) where
  abbrev by_exchange : ℕ → Bool → Program (Unit {0})
  by_exchange row won = when won then done tt else abandoning row

  pub installs_row : (row token : ℕ) (old one two : Seated) → token ≡ site_token k site → Makes old one (filling row h token target) tt → Makes one two (trying (ToDispatch site row) 0) true
      → Makes old two (installing_in k site h target (Some row)) tt
  unfolding installing_in
  installs_row row token old one two is first second =
      then_makes (subst (λ (t : ℕ). Makes old one (filling row h t target) tt) is first)
      (joined (by_exchange row) second (when_true true (done tt) (abandoning row) refl (makes_none two tt)))

  pub abandons_row : (row token : ℕ) (old one two new : Seated) → token ≡ site_token k site → Makes old one (filling row h token target) tt → Makes one two (trying (ToDispatch site row) 0) false → Makes two new (abandoning row) tt
      → Makes old new (installing_in k site h target (Some row)) tt
  unfolding installing_in
  abandons_row row token old one two new is first second third =
      then_makes (subst (λ (t : ℕ). Makes old one (filling row h t target) tt) is first)
      (joined (by_exchange row) second (when_false false (done tt) (abandoning row) refl third))

  pub installs_none : (s : Seated) → Makes s s (installing_in k site h target None) tt
  unfolding installing_in
  installs_none s = makes_none s tt

  pub installs_not : (s : Seated) (cell : CellWord) → cell ≢ Lookup → Makes s s (installing k site h cell target) tt
  unfolding installing
  installs_not s Lookup other = absurd (other refl)
  installs_not s Resolve other = makes_none s tt
  installs_not s (Dispatch row) other = makes_none s tt

  pub installs_given : (old one new : Seated) (cell : CellWord) (given : Option ℕ) → cell ≡ Lookup → Makes old one (claiming k) given → Makes one new (installing_in k site h target given) tt
      → Makes old new (installing k site h cell target) tt
  unfolding installing
  installs_given old one new cell given is first second =
      subst (λ (c : CellWord). Makes old new (installing k site h c target) tt) (sym is) (joined (installing_in k site h target) first second)

-- ---- a miss at a cell

module _ (k : Key) (site : ℕ) (h : Handle) (row : ℕ) where
  abbrev by_won : Bool → Program (Unit {0})
  by_won won = when won then retiring row else done tt

  pub unlinks : (old one new : Seated) → Makes old one (trying (ToResolve site row) (2 + row)) true → Makes one new (retiring row) tt → Makes old new (unlinking (ToResolve site row) row) tt
  unfolding unlinking
  unlinks old one new first second = joined by_won first (when_true true (retiring row) (done tt) refl second)

  pub unlinks_not : (old one : Seated) → Makes old one (trying (ToResolve site row) (2 + row)) false → Makes old one (unlinking (ToResolve site row) row) tt
  unfolding unlinking
  unlinks_not old one first = joined by_won first (when_false false (retiring row) (done tt) refl (makes_none one tt))

  abbrev by_test : Bool → Program (Unit {0})
  by_test test = when test then unlinking (ToResolve site row) row else done tt

  abbrev by_count : ℕ → Program (Unit {0})
  by_count count = bind seeing_room (λ (room : Bool). by_test (nat_le k.sizes.miss count && room))

  pub patches_not : (token count : ℕ) (old one : Seated) → token ≡ site_token k site → Makes old one (counting token) count → nat_le k.sizes.miss count && has_room (view_of one).rows.limbo ≡ false
      → Makes old one (patching k site h row) tt
  unfolding patching
  patches_not token count old one is first fails =
      joined by_count (subst (λ (t : ℕ). Makes old one (counting t) count) is first)
      (joined (λ (room : Bool). by_test (nat_le k.sizes.miss count && room)) (sees_room one)
      (when_false (nat_le k.sizes.miss count && has_room (view_of one).rows.limbo) (unlinking (ToResolve site row) row) (done tt) fails (makes_none one tt)))

  pub patches : (token count : ℕ) (old one new : Seated) → token ≡ site_token k site → Makes old one (counting token) count → nat_le k.sizes.miss count && has_room (view_of one).rows.limbo ≡ true
      → Makes one new (unlinking (ToResolve site row) row) tt → Makes old new (patching k site h row) tt
  unfolding patching
  patches token count old one new is first holds second =
      joined by_count (subst (λ (t : ℕ). Makes old one (counting t) count) is first)
      (joined (λ (room : Bool). by_test (nat_le k.sizes.miss count && room)) (sees_room one)
      (when_true (nat_le k.sizes.miss count && has_room (view_of one).rows.limbo) (unlinking (ToResolve site row) row) (done tt) holds second))

pub below_limit : (limit count : ℕ) (room : Bool) → count < limit → nat_le limit count && room ≡ false
below_limit limit count room low = ap (λ (b : Bool). b && room) (lt-leb limit count low)
