-- Each kind of step on the region and on cast rows, as a step that a program asks for, and what it leaves of its seat's view.
use Rattle.std.proofs.Common.{◌≡◌, ℕ, ◌+◌, Bool, true, false, cond, ◌∷◌, drop, nat_eq, Some, None, refl, sym, ◌∙◌, ap, subst}
use Rattle.vsd_words.specs.declared.handle.Handle.{Handle}
use Rattle.vsd_words.specs.declared.cast_word.CastWord.{CastWord}
use Rattle.vsd_words.specs.Handle.{packed_handle}
use Rattle.vsd_words.specs.CastWord.{packed_cast}
use Rattle.vsd_rule.specs.declared.cast_view.CastEvidence.{CastEvidence}
use Rattle.vsd_rule.specs.declared.cast_view.CastView.{CastView}
use Rattle.vsd_rule.specs.declared.row_view.RowView.{RowView}
use Rattle.vsd_rule.specs.declared.step.Act.{Act}
use Rattle.vsd_rule.specs.declared.step.Act.TheVariants.{LoadVersion, LoadSource, LoadCast, LoadVersionAgain, ClaimCast, ReclaimCast, SetSource, SetCast, Publish, LoadRegion, Grow}
use Rattle.vsd_rule.specs.declared.step.Begins.TheVariants.{Cast}
use Rattle.vsd_rule.specs.declared.view.View.{View}
use Rattle.vsd_rule.specs.Layout.{cast_row}
use Rattle.vsd_rule.specs.CastSteps.{writes_row, nothing_written, hit_of, begins_write, after_casts, after_region, after_grow, after_version, after_source, after_cast_word, after_version_again, after_claim_cast, after_reclaim_cast, after_set_source, after_set_cast, after_publish}
use Rattle.vsd_table.specs.declared.seated.Seated.{Seated}
use Rattle.vsd_table.specs.Seating.{view_of, begun_of, Becomes, BecomesWith}
use Rattle.vsd_trails.specs.Programs.{Fields, TrailStep, Asked, asked_act, after_act}
use Rattle.vsd_trails.specs.Operations.{is_named, latest, trail_steps}
use Rattle.vsd_rows.specs.Makes.{Grows}
use Rattle.vsd_rows.proofs.Makes.{Asks, grows_not}
use Rattle.vsd_ccache.specs.Looks.{LooksAtCasts, WritesCasts}

abbrev fields_in : RowView → Fields
fields_in d = record { cursor = d.cursor; limbo = d.limbo }

abbrev pub asked : Act → Asked
asked act = record { act = act; begins = None }

-- a step of which the seat's list begins names nothing, and that leaves the cursor and limbo
cast_step : (old new : Seated) (act : Act) (found : ℕ) (d : CastView) → is_named act ≡ false → Becomes old new (after_casts (view_of old) d act found)
    → fields_in (view_of old).rows ≡ after_act (view_of old).key (fields_in (view_of old).rows) act found → Grows CastEvidence (view_of old).casts.evidences d.evidences
    → Asks old new (record { act = asked_act act; begins = None }) found
cast_step old new act found d unnamed b fields grows =
    let v = view_of old in
    let x : TrailStep = record { step = record { act = act; found = found; cursor = v.rows.cursor; limbo = v.rows.limbo }; begins = None } in
    record {
      step = x;
      made = (λ c. trail_steps (b.view c).steps (b.begins c))
          ∙ ap (λ (named : Bool). cond named (record { step = x.step; begins = latest (begun_of old) } ∷ trail_steps v.steps (drop 1 (begun_of old))) (x ∷ trail_steps v.steps (begun_of old))) unnamed;
      asked = refl;
      word = refl;
      at = refl;
      fields = ap (λ (w : View). fields_in w.rows) b.view ∙ fields;
      stays = record {
        table_id = b.table_id;
        seat = b.seat;
        key = ap (λ (w : View). w.key) b.view;
        who = ap (λ (w : View). w.who) b.view;
        bindings = grows_not _ _ (ap (λ (w : View). w.handles.bindings) b.view);
        evidences = grows_not _ _ (ap (λ (w : View). w.rows.evidences) b.view);
        cast_evidences = subst (λ (w : View). Grows CastEvidence v.casts.evidences w.casts.evidences) (sym b.view) grows;
      };
    }

-- ---- the region

pub region_made : (old new : Seated) (source target : Handle) (found : ℕ) → BecomesWith old new (after_region (view_of old) found) (Cast source target ∷ begun_of old)
    → Asks old new (record { act = LoadRegion; begins = Some (Cast source target) }) found
region_made old new source target found b =
    let v = view_of old in
    record {
      step = record { step = record { act = LoadRegion; found = found; cursor = v.rows.cursor; limbo = v.rows.limbo }; begins = Some (Cast source target) };
      made = λ c. trail_steps (b.view c).steps (b.begins c);
      asked = refl;
      word = refl;
      at = refl;
      fields = ap (λ (w : View). fields_in w.rows) b.view;
      stays = record {
        table_id = b.table_id;
        seat = b.seat;
        key = ap (λ (w : View). w.key) b.view;
        who = ap (λ (w : View). w.who) b.view;
        bindings = grows_not _ _ (ap (λ (w : View). w.handles.bindings) b.view);
        evidences = grows_not _ _ (ap (λ (w : View). w.rows.evidences) b.view);
        cast_evidences = grows_not _ _ (ap (λ (w : View). w.casts.evidences) b.view);
      };
    }

pub grow_made : (old new : Seated) (region found : ℕ) → Becomes old new (after_grow (view_of old) region found) → Asks old new (asked (Grow region)) found
grow_made old new region found b = cast_step old new (Grow region) found _ refl b refl (grows_not _ _ refl)

-- ---- a look at a cast row

pub version_made : (old new : Seated) (region row found : ℕ) → Becomes old new (after_version (view_of old) region row found) → Asks old new (asked (LoadVersion region row)) found
version_made old new region row found b = cast_step old new (LoadVersion region row) found _ refl b refl (grows_not _ _ refl)

pub source_made : (old new : Seated) (region row : ℕ) (h : Handle) → Becomes old new (after_source (view_of old) region row h) → Asks old new (asked (LoadSource region row)) (packed_handle h)
source_made old new region row h b = cast_step old new (LoadSource region row) (packed_handle h) _ refl b refl (grows_not _ _ refl)

pub cast_word_made : (old new : Seated) (region row : ℕ) (w : CastWord) → Becomes old new (after_cast_word (view_of old) region row w) → Asks old new (asked (LoadCast region row)) (packed_cast w)
cast_word_made old new region row w b = cast_step old new (LoadCast region row) (packed_cast w) _ refl b refl (grows_not _ _ refl)

pub again_made : (old new : Seated) (region row found : ℕ) → Becomes old new (after_version_again (view_of old) region row found) → Asks old new (asked (LoadVersionAgain region row)) found
again_made old new region row found b =
    cast_step old new (LoadVersionAgain region row) found _ refl b refl (record { more = hit_of (cast_row region row) found (view_of old).casts.probe; whole = refl })

-- ---- a write of a cast row

-- what is the same of two views of casts is so of one or the other
either_same : {A : Type 0} (of : CastView → A) (test : Bool) (d e : CastView) (a : A) → of d ≡ a → of e ≡ a → of (cond test d e) ≡ a
either_same of true d e a first second = first
either_same of false d e a first second = second

odd_evidences : (d : CastView) (row version found : ℕ) → (begins_write d row version found).evidences ≡ d.evidences
odd_evidences d row version found = either_same (λ (e : CastView). e.evidences) (nat_eq found version) (writes_row d row (Some (nothing_written (version + 1)))) d d.evidences refl refl

pub claim_cast_made : (old new : Seated) (region row found : ℕ) → Becomes old new (after_claim_cast (view_of old) region row found) → Asks old new (asked (ClaimCast region row)) found
claim_cast_made old new region row found b =
    cast_step old new (ClaimCast region row) found _ refl b refl (grows_not _ _ (odd_evidences (view_of old).casts (cast_row region row) 0 found))

pub reclaim_cast_made : (old new : Seated) (region row version found : ℕ) → Becomes old new (after_reclaim_cast (view_of old) region row version found) → Asks old new (asked (ReclaimCast region row version)) found
reclaim_cast_made old new region row version found b =
    cast_step old new (ReclaimCast region row version) found _ refl b refl (grows_not _ _ (odd_evidences (view_of old).casts (cast_row region row) version found))

pub set_source_made : (old new : Seated) (region row : ℕ) (h : Handle) → Becomes old new (after_set_source (view_of old) region row h) → Asks old new (asked (SetSource region row h)) 0
set_source_made old new region row h b = cast_step old new (SetSource region row h) 0 _ refl b refl (grows_not _ _ refl)

pub set_cast_made : (old new : Seated) (region row : ℕ) (w : CastWord) → Becomes old new (after_set_cast (view_of old) region row w) → Asks old new (asked (SetCast region row w)) 0
set_cast_made old new region row w b = cast_step old new (SetCast region row w) 0 _ refl b refl (grows_not _ _ refl)

pub publish_made : (old new : Seated) (region row version : ℕ) → Becomes old new (after_publish (view_of old) region row version) → Asks old new (asked (Publish region row version)) 0
publish_made old new region row version b = cast_step old new (Publish region row version) 0 _ refl b refl (grows_not _ _ refl)

-- ---- what these steps leave

pub looks_not : (v : View) → LooksAtCasts v v
looks_not v = refl

pub looks_on : (u v w : View) → LooksAtCasts u v → LooksAtCasts v w → LooksAtCasts u w
looks_on u v w first second =
    second ∙ ap (λ (x : View). record x { casts = record x.casts { probe = w.casts.probe; evidences = w.casts.evidences }; steps = w.steps }) first

pub looks_as : (v w after : View) → w ≡ after → LooksAtCasts v after → LooksAtCasts v w
looks_as v w after is looks = subst (λ (x : View). LooksAtCasts v x) (sym is) looks

pub writes_on : (u v w : View) → WritesCasts u v → WritesCasts v w → WritesCasts u w
writes_on u v w first second = second ∙ ap (λ (x : View). record x { casts = record x.casts { writes = w.casts.writes }; steps = w.steps }) first

pub writes_as : (v w after : View) → w ≡ after → WritesCasts v after → WritesCasts v w
writes_as v w after is writes = subst (λ (x : View). WritesCasts v x) (sym is) writes

-- an exchange of a version, won or lost
odd_writes : (test : Bool) (d e : CastView) (v : View) (act : Act) (found : ℕ) → WritesCasts v (after_casts v d act found) → WritesCasts v (after_casts v e act found) → WritesCasts v (after_casts v (cond test d e) act found)
odd_writes true d e v act found first second = first
odd_writes false d e v act found first second = second

pub claim_writes : (v w : View) (region row found : ℕ) → w ≡ after_claim_cast v region row found → WritesCasts v w
claim_writes v w region row found is =
    writes_as v w (after_claim_cast v region row found) is
    (odd_writes (nat_eq found 0) (writes_row v.casts (cast_row region row) (Some (nothing_written 1))) v.casts v (ClaimCast region row) found refl refl)

pub reclaim_writes : (v w : View) (region row version found : ℕ) → w ≡ after_reclaim_cast v region row version found → WritesCasts v w
reclaim_writes v w region row version found is =
    writes_as v w (after_reclaim_cast v region row version found) is
    (odd_writes (nat_eq found version) (writes_row v.casts (cast_row region row) (Some (nothing_written (version + 1)))) v.casts v (ReclaimCast region row version) found refl refl)
