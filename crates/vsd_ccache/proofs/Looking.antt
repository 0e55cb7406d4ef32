-- The parts of a look into the cast cache.
use Rattle.std.proofs.Common.{◌≡◌, ℕ, zero, suc, ◌+◌, ◌%◌, Bool, true, false, cond, ◌&&◌, not, nat_eq, nat_lt, List, [], ◌∷◌, ◌++◌, Some, None, inr, refl, ◌∙◌, ap, subst, eq-eqb, lt-ltb, if◌then◌else◌, arith}
use mathlib.Core.Option.{some}
use lib.ListN.{get_elem?}
use Rattle.vsd_words.specs.declared.handle.Handle.{Handle}
use Rattle.vsd_words.specs.declared.cast_word.CastWord.{CastWord}
use Rattle.vsd_words.specs.Handle.{HandleInRange, packed_handle}
use Rattle.vsd_words.specs.CastWord.{CastWordInRange, packed_cast}
use Rattle.vsd_words.specs.Hash.{home_of}
use Rattle.vsd_rule.specs.declared.cast_view.CastEvidence.{CastEvidence}
use Rattle.vsd_rule.specs.declared.cast_view.Probe.{Probe}
use Rattle.vsd_rule.specs.declared.step.Act.TheVariants.{LoadSource, LoadCast, LoadVersionAgain}
use Rattle.vsd_rule.specs.declared.step.Begins.TheVariants.{Cast}
use Rattle.vsd_rule.specs.declared.view.View.{View}
use Rattle.vsd_rule.specs.Layout.{cast_row}
use Rattle.vsd_rule.specs.Evidence.{HasCastEvidence}
use Rattle.vsd_rule.specs.RowSteps.{unpacked_handle}
use Rattle.vsd_rule.specs.CastSteps.{probe_gains, with_source, with_word, hit_by, is_stable, hit_of, after_region, after_version, after_source, after_cast_word, after_version_again}
use Rattle.vsd_table.specs.declared.seated.Seated.{Seated}
use Rattle.vsd_table.specs.Seating.{view_of, begun_of, Becomes, BecomesWith}
use Rattle.vsd_trails.specs.declared.casting.Find.{Find}
use Rattle.vsd_trails.specs.declared.casting.Find.TheVariants as find
use Rattle.vsd_trails.specs.Programs.{Program, done, bind}
use Rattle.vsd_trails.specs.Words.{unpacked_cast}
use Rattle.vsd_trails.specs.RowTrails.{reading, loading}
use Rattle.vsd_trails.specs.CastTrails.{region_size, probe_row, Probed, probe_hit, probe_miss, is_hit, probed, probing_row, unless_hit, probing, finding_cast}
use Rattle.vsd_trails.proofs.Words.{handle_read, cast_read}
use Rattle.vsd_trails.proofs.Loads.{and_both, same_handle-true}
use Rattle.vsd_rows.specs.Makes.{Makes}
use Rattle.vsd_rows.proofs.Makes.{joined, reads, answers, makes_none}
use Rattle.vsd_ccache.specs.Looks.{LooksAtCasts}
use Rattle.vsd_ccache.proofs.CastStepsMade.{region_made, version_made, source_made, cast_word_made, again_made, looks_on, looks_as}

-- ---- one row

-- the four loads, with what they found
pub record Loaded (region row : ℕ) (old new : Seated) (version : ℕ) (s : Handle) (w : CastWord) (again : ℕ) : Type 0 where
  pub one : Seated
  pub two : Seated
  pub three : Seated
  pub first : Becomes old one (after_version (view_of old) region row version)
  pub second : Becomes one two (after_source (view_of one) region row s)
  pub third : Becomes two three (after_cast_word (view_of two) region row w)
  pub fourth : Becomes three new (after_version_again (view_of three) region row again)
  pub source_in : HandleInRange s
  pub word_in : CastWordInRange w

module _ (source target : Handle) (region row : ℕ) where
  abbrev by_again : ℕ → Handle → CastWord → ℕ → Program Probed
  by_again version s w again = done (probed source target version s w again)

  abbrev by_word : ℕ → Handle → CastWord → Program Probed
  by_word version s w = bind (loading (LoadVersionAgain region row)) (by_again version s w)

  abbrev by_source : ℕ → Handle → Program Probed
  by_source version s = bind (reading (LoadCast region row) unpacked_cast) (by_word version s)

  abbrev by_version : ℕ → Program Probed
  by_version version = bind (reading (LoadSource region row) unpacked_handle) (by_source version)

  module _ (old new : Seated) (version : ℕ) (s : Handle) (w : CastWord) (again : ℕ) (l : Loaded region row old new version s w again) where
    pub probes_row : Makes old new (probing_row source target region row) (probed source target version s w again)
    unfolding probing_row
    probes_row =
        joined by_version (reads (λ (word : ℕ). word) (version_made old l.one region row version l.first))
        (joined (by_source version) (answers (handle_read (packed_handle s) s (record { in_range = l.source_in; packed = refl })) (reads unpacked_handle (source_made l.one l.two region row s l.second)))
        (joined (by_word version s) (answers (cast_read (packed_cast w) w (record { in_range = l.word_in; packed = refl })) (reads unpacked_cast (cast_word_made l.two l.three region row w l.third)))
        (joined (by_again version s w) (reads (λ (word : ℕ). word) (again_made l.three new region row again l.fourth)) (makes_none new (probed source target version s w again)))))

    pub loaded_looks : LooksAtCasts (view_of old) (view_of new)
    loaded_looks =
        let u = view_of old in
        let a = view_of l.one in
        let b = view_of l.two in
        let c = view_of l.three in
        let d = view_of new in
        looks_on u c d (looks_on u b c (looks_on u a b
        (looks_as u a (after_version u region row version) l.first.view refl)
        (looks_as a b (after_source a region row s) l.second.view refl))
        (looks_as b c (after_cast_word b region row w) l.third.view refl))
        (looks_as c d (after_version_again c region row again) l.fourth.view refl)

-- ---- a hit is evidence

-- the parts of a hit
pub record Hits (source target : Handle) (version : ℕ) (s : Handle) (w : CastWord) (again : ℕ) : Type 0 where
  pub stable : is_stable version again ≡ true
  pub source_is : s ≡ source
  pub target_is : w.target ≡ target

above_zero : (n : ℕ) → not (nat_eq n 0) ≡ true → nat_lt 0 n ≡ true
above_zero zero other = absurd (cc)
above_zero (suc n) other = lt-ltb 0 (suc n) (omega arith)

all_three : (a b c : Bool) → a ≡ true → b ≡ true → c ≡ true → (a && (b && c)) ≡ true
all_three a b c first second third = rw (first, second, third) refl

pub hit_parts : (source target : Handle) (version : ℕ) (s : Handle) (w : CastWord) (again : ℕ) → is_hit source target version s w again ≡ true → Hits source target version s w again
hit_parts source target version s w again hit =
    let d = and_both _ _ hit in
    let c = and_both _ _ d.0 in
    let b = and_both _ _ c.0 in
    let a = and_both _ _ b.0 in
    record {
      stable = all_three (nat_eq version again) (nat_eq (version % 2) 0) (nat_lt 0 version) a.0 a.1 (above_zero version b.1);
      source_is = same_handle-true s source c.1;
      target_is = same_handle-true w.target target d.1;
    }

gains_here : (r : ℕ) (loaded : Probe → Probe) (p : Probe) → p.row ≡ r → probe_gains r loaded (Some p) ≡ Some (loaded p)
gains_here r loaded p same = ap (λ (b : Bool). Some (cond b (loaded p) p)) (eq-eqb p.row r same)

hit_here : (r again : ℕ) (p : Probe) → p.row ≡ r → is_stable p.version again ≡ true → hit_of r again (Some p) ≡ hit_by p.source p.word
hit_here r again p same stable =
    ap (λ (b : Bool). cond (b && is_stable p.version again) (hit_by p.source p.word) []) (eq-eqb p.row r same)
    ∙ ap (λ (b : Bool). cond b (hit_by p.source p.word) []) stable

pub hit_told : (source target : Handle) (region row : ℕ) (old new : Seated) (version : ℕ) (s : Handle) (w : CastWord) (again : ℕ) → Loaded region row old new version s w again
    → is_hit source target version s w again ≡ true → HasCastEvidence (view_of new) source target w.yes
hit_told source target region row old new version s w again l hit =
    let r = cast_row region row in
    let parts = hit_parts source target version s w again hit in
    let p : Probe = record { row = r; version = version; source = None; word = None } in
    let one : (view_of l.one).casts.probe ≡ Some p = ap (λ (v : View). v.casts.probe) l.first.view in
    let two : (view_of l.two).casts.probe ≡ Some (with_source s p) =
    ap (λ (v : View). v.casts.probe) l.second.view ∙ (ap (probe_gains r (with_source s)) one ∙ gains_here r (with_source s) p refl) in
    let three : (view_of l.three).casts.probe ≡ Some (with_word w (with_source s p)) =
    ap (λ (v : View). v.casts.probe) l.third.view ∙ (ap (probe_gains r (with_word w)) two ∙ gains_here r (with_word w) (with_source s p) refl) in
    let given : CastEvidence = record { source = s; target = w.target; yes = w.yes } in
    let more : hit_of r again (view_of l.three).casts.probe ≡ given ∷ [] = ap (hit_of r again) three ∙ hit_here r again (with_word w (with_source s p)) refl parts.stable in
    let all : (view_of new).casts.evidences ≡ given ∷ (view_of l.three).casts.evidences =
    ap (λ (v : View). v.casts.evidences) l.fourth.view ∙ ap (λ (xs : List CastEvidence). xs ++ (view_of l.three).casts.evidences) more in
    let there : get_elem? (view_of new).casts.evidences 0 ≡ some given = ap (λ (xs : List CastEvidence). get_elem? xs 0) all in
    let evidence : HasCastEvidence (view_of new) s w.target w.yes = inr (0, there) in
    subst (λ (h : Handle). HasCastEvidence (view_of new) source h w.yes) parts.target_is (subst (λ (h : Handle). HasCastEvidence (view_of new) h w.target w.yes) parts.source_is evidence)

-- the answer of a look at a row, by its test
pub probed_hit : (source target : Handle) (version : ℕ) (s : Handle) (w : CastWord) (again : ℕ) → is_hit source target version s w again ≡ true → probed source target version s w again ≡ probe_hit w.yes
probed_hit source target version s w again hit = let by_test : Bool → Probed = λ b. if b then probe_hit w.yes else probe_miss version in ap by_test hit

pub probed_miss : (source target : Handle) (version : ℕ) (s : Handle) (w : CastWord) (again : ℕ) → is_hit source target version s w again ≡ false → probed source target version s w again ≡ probe_miss version
probed_miss source target version s w again fails = let by_test : Bool → Probed = λ b. if b then probe_hit w.yes else probe_miss version in ap by_test fails

-- ---- eight rows

module _ (source target : Handle) (region home : ℕ) where
  abbrev unless : ℕ → ℕ → List ℕ → Probed → Program Find
  unless n i versions = unless_hit (λ (version : ℕ). probing source target region home n (i + 1) (versions ++ version ∷ []))

  pub probes_hit : (n i : ℕ) (versions : List ℕ) (old new : Seated) (answer : Bool) → Makes old new (probing_row source target region (probe_row region home i)) (probe_hit answer)
      → Makes old new (probing source target region home (suc n) i versions) (find.Hit answer)
  unfolding probing
  probes_hit n i versions old new answer first = joined (unless n i versions) first (makes_none new (find.Hit answer))

  pub probes_on : (n i : ℕ) (versions : List ℕ) (old now new : Seated) (version : ℕ) (a : Find) → Makes old now (probing_row source target region (probe_row region home i)) (probe_miss version)
      → Makes now new (probing source target region home n (i + 1) (versions ++ version ∷ [])) a → Makes old new (probing source target region home (suc n) i versions) a
  unfolding probing
  probes_on n i versions old now new version a first rest = joined (unless n i versions) first rest

  pub probes_end : (i : ℕ) (versions : List ℕ) (s : Seated) → Makes s s (probing source target region home zero i versions) (find.Miss (record { region = region; home = home; versions = versions }))
  unfolding probing
  probes_end i versions s = makes_none s (find.Miss (record { region = region; home = home; versions = versions }))

-- ---- a look whole

module _ (source target : Handle) where
  abbrev from_region : ℕ → Program Find
  from_region region = probing source target region (home_of source target (region_size region)) 8 0 []

  pub finds : (old now new : Seated) (region home : ℕ) (a : Find) → BecomesWith old now (after_region (view_of old) region) (Cast source target ∷ begun_of old) → home ≡ home_of source target (region_size region)
      → Makes now new (probing source target region home 8 0 []) a → Makes old new (finding_cast source target) a
  unfolding finding_cast
  finds old now new region home a step is rest =
      joined from_region (reads (λ (word : ℕ). word) (region_made old now source target region step)) (subst (λ (n : ℕ). Makes now new (probing source target region n 8 0 []) a) is rest)

  -- the first probe is a hit
  pub finds_hit : (old now new : Seated) (region home row : ℕ) (answer : Bool) → BecomesWith old now (after_region (view_of old) region) (Cast source target ∷ begun_of old) → home ≡ home_of source target (region_size region)
      → row ≡ probe_row region home 0 → Makes now new (probing_row source target region row) (probe_hit answer) → Makes old new (finding_cast source target) (find.Hit answer)
  finds_hit old now new region home row answer step is first probe =
      finds old now new region home (find.Hit answer) step is
      (probes_hit source target region home 7 0 [] now new answer (subst (λ (r : ℕ). Makes now new (probing_row source target region r) (probe_hit answer)) first probe))

  -- it is none, and the other seven follow
  pub finds_on : (old now one new : Seated) (region home row version : ℕ) (a : Find) → BecomesWith old now (after_region (view_of old) region) (Cast source target ∷ begun_of old) → home ≡ home_of source target (region_size region)
      → row ≡ probe_row region home 0 → Makes now one (probing_row source target region row) (probe_miss version) → Makes one new (probing source target region home 7 1 (version ∷ [])) a → Makes old new (finding_cast source target) a
  finds_on old now one new region home row version a step is first probe rest =
      finds old now new region home a step is
      (probes_on source target region home 7 0 [] now one new version a (subst (λ (r : ℕ). Makes now one (probing_row source target region r) (probe_miss version)) first probe) rest)
