-- The parts of a write of the cast cache.
use Rattle.std.proofs.Common.{◌≡◌, ◌≢◌, inl, inr, ℕ, zero, suc, ◌+◌, ◌%◌, ◌^◌, ◌<◌, Bool, true, false, cond, ◌||◌, nat_eq, nat_lt, nat_le, List, ◌∷◌, Option, Some, None, refl, sym, ◌∙◌, ap, subst, eq-eqb, arith, slice_index}
use Rattle.std.specs.List.{position}
use Rattle.std.proofs.lemmas.Bool.{cases_lt, le-leb}
use Rattle.vsd_words.specs.declared.handle.Handle.{Handle}
use Rattle.vsd_words.specs.declared.cast_word.CastWord.{CastWord}
use Rattle.vsd_words.specs.Handle.{packed_handle}
use Rattle.vsd_rule.specs.declared.key.Key.{Key}
use Rattle.vsd_rule.specs.declared.handle_view.Binding.{Binding}
use Rattle.vsd_rule.specs.declared.cast_view.CastEvidence.{CastEvidence}
use Rattle.vsd_rule.specs.declared.cast_view.CastRowWrite.{CastRowWrite}
use Rattle.vsd_rule.specs.declared.cast_view.CastView.{CastView}
use Rattle.vsd_rule.specs.declared.cast_view.Written.{Written}
use Rattle.vsd_rule.specs.declared.view.View.{View}
use Rattle.vsd_rule.specs.Layout.{cast_row}
use Rattle.vsd_rule.specs.Lists.{compatible}
use Rattle.vsd_rule.specs.Casts.{write_of}
use Rattle.vsd_rule.specs.Evidence.{HasCastEvidence}
use Rattle.vsd_rule.specs.CastSteps.{writes_row, nothing_written, written_in, writing_source, writing_word, begins_write, after_grow, after_claim_cast, after_reclaim_cast, after_set_source, after_set_cast, after_publish}
use Rattle.std.specs.Int.{from_bool}
use Rattle.vsd_table.specs.declared.seated.Seated.{Seated}
use Rattle.vsd_table.specs.Seating.{view_of, Becomes}
use Rattle.vsd_trails.specs.declared.casting.Miss.{Miss}
use Rattle.vsd_trails.specs.declared.casting.Put.{Put}
use Rattle.vsd_trails.specs.declared.casting.Put.TheVariants as put
use Rattle.vsd_trails.specs.declared.casting.Lost.TheVariants as lost
use Rattle.vsd_trails.specs.Programs.{Program, done, bind, when◌then◌else◌}
use Rattle.vsd_trails.specs.CastTrails.{probe_row, is_busy, making_odd, publishing, writing, growing, putting_by, putting_cast}
use Rattle.vsd_rows.specs.Makes.{Grows, StaysCaller, Makes}
use Rattle.vsd_rows.proofs.Makes.{joined, then_makes, reads, when_true, when_false, makes_none, in_grown, knows_on}
use Rattle.vsd_ccache.specs.Looks.{WritesCasts}
use Rattle.vsd_ccache.proofs.CastStepsMade.{grow_made, claim_cast_made, reclaim_cast_made, set_source_made, set_cast_made, publish_made, writes_on, writes_as}

-- ---- evidence stays

cast_evidence_on : (v w : View) (source target : Handle) (given : Bool) → w.key ≡ v.key → Grows Binding v.handles.bindings w.handles.bindings → Grows CastEvidence v.casts.evidences w.casts.evidences
    → HasCastEvidence v source target given → HasCastEvidence w source target given
cast_evidence_on v w source target given key bindings evidences (inl known) = inl (record {
  number = known.number;
  other = known.other;
  knows_source = knows_on v.handles w.handles source known.number bindings known.knows_source;
  knows_target = knows_on v.handles w.handles target known.other bindings known.knows_target;
  answer = subst (λ (k : Key). from_bool given ≡ compatible k known.number known.other) (sym key) known.answer;
})
cast_evidence_on v w source target given key bindings evidences (inr loaded) =
    inr (in_grown v.casts.evidences w.casts.evidences (record { source = source; target = target; yes = given }) evidences loaded)

pub cast_evidence_stays : (old new : Seated) (source target : Handle) (given : Bool) → StaysCaller old new → HasCastEvidence (view_of old) source target given → HasCastEvidence (view_of new) source target given
cast_evidence_stays old new source target given stays = cast_evidence_on (view_of old) (view_of new) source target given stays.key stays.bindings stays.cast_evidences

-- ---- the exchange of a version

either : (a b : Bool) → (a || b) ≡ false → (a ≡ false) × (b ≡ false)
either true b fails = absurd (cc)
either false b fails = (refl, fails)

is_even : (n : ℕ) → nat_eq (n % 2) 1 ≡ false → n % 2 ≡ 0
is_even n fails = elim (cases_lt (n % 2) 1) [
  | inl even ↦ omega arith
  | inr odd ↦ let one : n % 2 ≡ 1 = omega arith in let clash = sym (eq-eqb (n % 2) 1 one) ∙ fails in absurd (cc)
]

is_low : (n m : ℕ) → nat_le m n ≡ false → n < m
is_low n m fails = elim (cases_lt n m) [
  | inl low ↦ low
  | inr high ↦ let clash = sym (le-leb m n high) ∙ fails in absurd (cc)
]

pub not_busy : (version : ℕ) → is_busy version ≡ false → (version % 2 ≡ 0) × (version < 2 ^ 62)
not_busy version fails =
    let both = either (nat_eq (version % 2) 1) (nat_le (2 ^ 62) version) fails in
    (is_even version both.0, is_low version (2 ^ 62) both.1)

-- what the seat writes of the row by its latest entry
write_here : (row : ℕ) (w : Option Written) (writes : List CastRowWrite) → write_of row (record { row = row; written = w } ∷ writes) ≡ w
write_here row w writes = ap (λ (b : Bool). cond b w (write_of row writes)) (eq-eqb row row refl)

begun_here : (d : CastView) (row version found : ℕ) → nat_eq found version ≡ true → write_of row (begins_write d row version found).writes ≡ Some (nothing_written (version + 1))
begun_here d row version found won =
    ap (λ (b : Bool). write_of row (cond b (writes_row d row (Some (nothing_written (version + 1)))) d).writes) won ∙ write_here row (Some (nothing_written (version + 1))) d.writes

module _ (old new : Seated) (region row version found : ℕ) where
  pub odd_claims : version ≡ 0 → Becomes old new (after_claim_cast (view_of old) region row found) → Makes old new (making_odd region row version) found
  odd_claims is step = subst (λ (n : ℕ). Makes old new (making_odd region row n) found) (sym is) (reads (λ (word : ℕ). word) (claim_cast_made old new region row found step))

  pub claim_written : version ≡ 0 → Becomes old new (after_claim_cast (view_of old) region row found) → nat_eq found version ≡ true
      → write_of (cast_row region row) (view_of new).casts.writes ≡ Some (nothing_written (version + 1))
  claim_written is step won =
      ap (λ (v : View). write_of (cast_row region row) v.casts.writes) step.view
      ∙ (begun_here (view_of old).casts (cast_row region row) 0 found (subst (λ (n : ℕ). nat_eq found n ≡ true) is won)
      ∙ ap (λ (n : ℕ). Some (nothing_written (n + 1))) (sym is))

  pub reclaim_written : Becomes old new (after_reclaim_cast (view_of old) region row version found) → nat_eq found version ≡ true
      → write_of (cast_row region row) (view_of new).casts.writes ≡ Some (nothing_written (version + 1))
  reclaim_written step won = ap (λ (v : View). write_of (cast_row region row) v.casts.writes) step.view ∙ begun_here (view_of old).casts (cast_row region row) version found won

pub odd_reclaims : (old new : Seated) (region row version found : ℕ) → version ≢ 0 → Becomes old new (after_reclaim_cast (view_of old) region row version found) → Makes old new (making_odd region row version) found
odd_reclaims old new region row zero found other step = absurd (other refl)
odd_reclaims old new region row (suc n) found other step = reads (λ (word : ℕ). word) (reclaim_cast_made old new region row (suc n) found step)

-- ---- the three stores

module _ (region row : ℕ) (source : Handle) (word : CastWord) (version : ℕ) where
  abbrev r : ℕ
  r = cast_row region row

  abbrev first_written : Written
  first_written = writing_source source (nothing_written (version + 1))

  abbrev both_written : Written
  both_written = writing_word word first_written

  pub source_written : (v w : View) → write_of r v.casts.writes ≡ Some (nothing_written (version + 1)) → w ≡ after_set_source v region row source → write_of r w.casts.writes ≡ Some first_written
  source_written v w mine step =
      ap (λ (x : View). write_of r x.casts.writes) step
      ∙ (write_here r (Some (writing_source source (written_in (write_of r v.casts.writes)))) v.casts.writes
      ∙ ap (λ (o : Option Written). Some (writing_source source (written_in o))) mine)

  pub word_written : (v w : View) → write_of r v.casts.writes ≡ Some first_written → w ≡ after_set_cast v region row word → write_of r w.casts.writes ≡ Some both_written
  word_written v w mine step =
      ap (λ (x : View). write_of r x.casts.writes) step
      ∙ (write_here r (Some (writing_word word (written_in (write_of r v.casts.writes)))) v.casts.writes
      ∙ ap (λ (o : Option Written). Some (writing_word word (written_in o))) mine)

  -- what is asked of the caller of `publish`
  abbrev pub IsWritten : View → ℕ → Type 0
  IsWritten v next = (w : Written) × (s : Handle) × (x : CastWord) × (write_of r v.casts.writes ≡ Some w) × (w.version + 1 ≡ next) × (w.source ≡ Some s) × (w.word ≡ Some x) × HasCastEvidence v s x.target x.yes

  pub is_written : (v : View) (next : ℕ) → version + 2 ≡ next → write_of r v.casts.writes ≡ Some both_written → HasCastEvidence v source word.target word.yes → IsWritten v next
  is_written v next is mine evidence = (both_written, source, word, mine, (let e : version + 1 + 1 ≡ next = omega arith in e), refl, refl, evidence)

  module _ (old one two new : Seated) (first : Becomes old one (after_set_source (view_of old) region row source)) (second : Becomes one two (after_set_cast (view_of one) region row word))
      (third : Becomes two new (after_publish (view_of two) region row (version + 2))) where
    pub publishes : Makes old new (publishing region row source word version) put.Written
    unfolding publishing
    publishes =
        then_makes (reads (λ (found : ℕ). tt) (set_source_made old one region row source first))
        (then_makes (reads (λ (found : ℕ). tt) (set_cast_made one two region row word second))
        (then_makes (reads (λ (found : ℕ). tt) (publish_made two new region row (version + 2) third)) (makes_none new put.Written)))

    pub publish_writes : WritesCasts (view_of old) (view_of new)
    publish_writes =
        let u = view_of old in
        let v = view_of one in
        let w = view_of two in
        writes_on u w (view_of new) (writes_on u v w (writes_as u v (after_set_source u region row source) first.view refl) (writes_as v w (after_set_cast v region row word) second.view refl))
        (writes_as w (view_of new) (after_publish w region row (version + 2)) third.view refl)

-- ---- a row, or the region

module _ (k : Key) (m : Miss) (source target : Handle) (answer : Bool) where
  module _ (i : ℕ) where
    abbrev version_at : ℕ
    version_at = slice_index m.versions i

    abbrev row_at : ℕ
    row_at = probe_row m.region m.home i

    abbrev word_of : CastWord
    word_of = record { target = target; yes = answer }

    abbrev by_found : ℕ → Program Put
    by_found found = when nat_eq found version_at then publishing m.region row_at source word_of version_at else done (put.Nothing (lost.Claim found))

    abbrev unless_busy : Program Put
    unless_busy = bind (making_odd m.region row_at version_at) by_found

    pub writes_busy : (s : Seated) → is_busy version_at ≡ true → Makes s s (writing k m source target answer i) (put.Nothing (lost.Busy version_at))
    unfolding writing
    writes_busy s busy = when_true (is_busy version_at) (done (put.Nothing (lost.Busy version_at))) unless_busy busy (makes_none s (put.Nothing (lost.Busy version_at)))

    pub writes_lost : (old new : Seated) (found : ℕ) → is_busy version_at ≡ false → Makes old new (making_odd m.region row_at version_at) found → nat_eq found version_at ≡ false
        → Makes old new (writing k m source target answer i) (put.Nothing (lost.Claim found))
    unfolding writing
    writes_lost old new found free first fails =
        when_false (is_busy version_at) (done (put.Nothing (lost.Busy version_at))) unless_busy free
        (joined by_found first (when_false (nat_eq found version_at) (publishing m.region row_at source word_of version_at) (done (put.Nothing (lost.Claim found))) fails (makes_none new (put.Nothing (lost.Claim found)))))

    pub writes_won : (old now new : Seated) (found : ℕ) → is_busy version_at ≡ false → Makes old now (making_odd m.region row_at version_at) found → nat_eq found version_at ≡ true
        → Makes now new (publishing m.region row_at source word_of version_at) put.Written → Makes old new (writing k m source target answer i) put.Written
    unfolding writing
    writes_won old now new found free first won second =
        when_false (is_busy version_at) (done (put.Nothing (lost.Busy version_at))) unless_busy free
        (joined by_found first (when_true (nat_eq found version_at) (publishing m.region row_at source word_of version_at) (done (put.Nothing (lost.Claim found))) won second))

  abbrev by_region : ℕ → Program Put
  by_region found = when nat_eq found m.region then done put.Grew else done (put.Nothing (lost.Grow found))

  pub grows_won : (old new : Seated) (found : ℕ) → Becomes old new (after_grow (view_of old) m.region found) → nat_eq found m.region ≡ true → Makes old new (growing k m source target answer) put.Grew
  unfolding growing
  grows_won old new found step won =
      joined by_region (reads (λ (word : ℕ). word) (grow_made old new m.region found step))
      (when_true (nat_eq found m.region) (done put.Grew) (done (put.Nothing (lost.Grow found))) won (makes_none new put.Grew))

  pub grows_lost : (old new : Seated) (found : ℕ) → Becomes old new (after_grow (view_of old) m.region found) → nat_eq found m.region ≡ false
      → Makes old new (growing k m source target answer) (put.Nothing (lost.Grow found))
  unfolding growing
  grows_lost old new found step fails =
      joined by_region (reads (λ (word : ℕ). word) (grow_made old new m.region found step))
      (when_false (nat_eq found m.region) (done put.Grew) (done (put.Nothing (lost.Grow found))) fails (makes_none new (put.Nothing (lost.Grow found))))

  -- ---- a put whole

  abbrev unused : ℕ → Bool
  unused version = nat_eq version 0

  abbrev by_handles : ℕ
  by_handles = (packed_handle source + packed_handle target) % 8

  pub puts_first : (i : ℕ) (old new : Seated) (a : Put) → position unused m.versions ≡ Some i → Makes old new (writing k m source target answer i) a → Makes old new (putting_cast k m source target answer) a
  unfolding putting_cast putting_by
  puts_first i old new a is makes = subst (λ (o : Option ℕ). Makes old new (putting_by k m source target answer o) a) (sym is) makes

  pub puts_region : (old new : Seated) (a : Put) → position unused m.versions ≡ None → nat_lt (m.region + 1) k.sizes.regions ≡ true → Makes old new (growing k m source target answer) a
      → Makes old new (putting_cast k m source target answer) a
  unfolding putting_cast putting_by
  puts_region old new a is next makes =
      subst (λ (o : Option ℕ). Makes old new (putting_by k m source target answer o) a) (sym is)
      (when_true (nat_lt (m.region + 1) k.sizes.regions) (growing k m source target answer) (writing k m source target answer by_handles) next makes)

  pub puts_chosen : (i : ℕ) (old new : Seated) (a : Put) → position unused m.versions ≡ None → nat_lt (m.region + 1) k.sizes.regions ≡ false → i ≡ by_handles → Makes old new (writing k m source target answer i) a
      → Makes old new (putting_cast k m source target answer) a
  unfolding putting_cast putting_by
  puts_chosen i old new a is last same makes =
      subst (λ (o : Option ℕ). Makes old new (putting_by k m source target answer o) a) (sym is)
      (when_false (nat_lt (m.region + 1) k.sizes.regions) (growing k m source target answer) (writing k m source target answer by_handles) last
      (subst (λ (n : ℕ). Makes old new (writing k m source target answer n) a) same makes))
