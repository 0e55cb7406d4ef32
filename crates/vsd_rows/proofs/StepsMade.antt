-- Each kind of step on rows, cells, buckets and handles, as a step that a program asks for.
use Rattle.std.proofs.Common.{◌≡◌, ℕ, Bool, true, false, cond, List, [], ◌∷◌, nat_eq, drop, Option, Some, None, refl, sym, ◌∙◌, ap, subst}
use Rattle.vsd_words.specs.declared.handle.Handle.{Handle}
use Rattle.vsd_words.specs.declared.handle_word.HandleWord.{HandleWord}
use Rattle.vsd_words.specs.declared.cell_word.CellWord.{CellWord}
use Rattle.vsd_words.specs.declared.cell_word.CellWord.TheVariants.{Lookup, Resolve, Dispatch}
use Rattle.vsd_words.specs.CellWord.{packed_cell}
use Rattle.vsd_words.specs.HandleWord.{packed_handle_word}
use Rattle.vsd_rule.specs.declared.key.Key.{Key}
use Rattle.vsd_rule.specs.declared.handle_view.Binding.{Binding}
use Rattle.vsd_rule.specs.declared.handle_view.HandleView.{HandleView}
use Rattle.vsd_rule.specs.declared.row_view.RowView.{RowView}
use Rattle.vsd_rule.specs.declared.row_view.RetiredRow.{RetiredRow}
use Rattle.vsd_rule.specs.declared.step.Act.{Act}
use Rattle.vsd_rule.specs.declared.step.Act.TheVariants.{Epoch, Pin, Unpin, Claim, SetHandle, SetToken, SetTarget, LoadRow, Free, LoadCell, ToDispatch, ToResolve, ToLookup, Count, LoadBucket, PutBucket, EmptyBucket, LoadHandle, Bind, Unbind, EpochToRetire, Raise, EpochOf, FreeSwept}
use Rattle.vsd_rule.specs.declared.step.RowWord.{RowWord}
use Rattle.vsd_rule.specs.declared.step.RowWord.TheVariants as word
use Rattle.vsd_rule.specs.declared.step.Begins.TheVariants.{Operation}
use Rattle.vsd_rule.specs.declared.step.Doing.{Doing}
use Rattle.vsd_rule.specs.declared.view.View.{View}
use Rattle.vsd_rule.specs.declared.row_view.Keeping.TheVariants.{Elsewhere, Unlinked}
use Rattle.vsd_rule.specs.Handles.{handle, binding_for}
use Rattle.vsd_rule.specs.Moves.{noted, after_load_handle, after_bind, after_unbind}
use Rattle.vsd_rule.specs.RowSteps.{sees, with_handle, keeps_row, claimed, packed_bucket, after_rows, after_epoch, after_pin, after_unpin, after_claim, after_set_handle, after_set_token, after_set_target, after_free, after_row_word, row_word_seen, after_cell, cell_seen, after_to_dispatch, after_to_resolve, after_to_lookup, after_count, after_bucket, bucket_seen, after_put_bucket, after_empty_bucket, came_out, after_epoch_to_retire, after_raise, after_epoch_of, swept, after_free_swept}
use Rattle.vsd_table.specs.declared.seated.Seated.{Seated}
use Rattle.vsd_table.specs.Seating.{view_of, begun_of, Becomes, BecomesDoing}
use Rattle.vsd_trails.specs.Programs.{Fields, TrailStep, Asked, asked_act, after_act}
use Rattle.vsd_trails.specs.Operations.{is_named, latest, trail_steps}
use Rattle.vsd_words.specs.Handle.{IsHandlePacking}
use Rattle.vsd_trails.proofs.Words.{handle_read}
use Rattle.vsd_rows.specs.Hands.{after_handle}
use Rattle.vsd_rows.specs.Makes.{Grows}
use Rattle.vsd_rows.proofs.Makes.{Asks, grows_not}

abbrev fields_in : RowView → Fields
fields_in d = record { cursor = d.cursor; limbo = d.limbo }

-- what the seat knows of rows keeps its evidences, and the fields that decide steps move by the act
pub record Moves (k : Key) (d : RowView) (act : Act) (found : ℕ) (d' : RowView) : Type 0 where
  pub fields : fields_in d' ≡ after_act k (fields_in d) act found
  pub evidences : Grows _ d.evidences d'.evidences

-- a step of which the seat's list begins names nothing
pub plain_step : (old new : Seated) (act : Act) (found : ℕ) (d : RowView) (n : HandleView) → is_named act ≡ false
    → Becomes old new (record (view_of old) { rows = d; handles = n; steps = noted (view_of old) act found })
    → Moves (view_of old).key (view_of old).rows act found d → Grows _ (view_of old).handles.bindings n.bindings
    → Asks old new (record { act = asked_act act; begins = None }) found
plain_step old new act found d n unnamed b m learns =
    let v = view_of old in
    let x : TrailStep = record { step = record { act = act; found = found; cursor = v.rows.cursor; limbo = v.rows.limbo }; begins = None } in
    record {
      step = x;
      made = (λ c. trail_steps (b.view c).steps (b.begins c))
          ∙ ap (λ (named : Bool). cond named (record { step = x.step; begins = latest (begun_of old) } ∷ trail_steps v.steps (drop 1 (begun_of old))) (x ∷ trail_steps v.steps (begun_of old))) unnamed;
      asked = refl;
      word = refl;
      at = refl;
      fields = ap (λ (w : View). fields_in w.rows) b.view ∙ m.fields;
      stays = record {
        table_id = b.table_id;
        seat = b.seat;
        key = ap (λ (w : View). w.key) b.view;
        who = ap (λ (w : View). w.who) b.view;
        bindings = subst (λ (w : View). Grows _ v.handles.bindings w.handles.bindings) (sym b.view) learns;
        evidences = subst (λ (w : View). Grows _ v.rows.evidences w.rows.evidences) (sym b.view) m.evidences;
        cast_evidences = grows_not _ _ (ap (λ (w : View). w.casts.evidences) b.view);
      };
    }

-- a step on words that no handle and no evidence rests on, and that leaves the cursor and limbo
pub quiet_step : (old new : Seated) (act : Act) (found : ℕ) (d : RowView) → is_named act ≡ false → Becomes old new (after_rows (view_of old) d act found)
    → fields_in d ≡ after_act (view_of old).key (fields_in (view_of old).rows) act found → d.evidences ≡ (view_of old).rows.evidences
    → Asks old new (record { act = asked_act act; begins = None }) found
quiet_step old new act found d unnamed b fields same =
    plain_step old new act found d (view_of old).handles unnamed b (record { fields = fields; evidences = grows_not _ _ same }) (grows_not _ _ refl)

abbrev pub asked : Act → Asked
asked act = record { act = act; begins = None }

-- ---- the epoch, pins

pub epoch_made : (old new : Seated) (doing : Doing) (found : ℕ) → BecomesDoing old new (after_epoch (view_of old) found) doing → Asks old new (record { act = Epoch; begins = Some (Operation doing) }) found
epoch_made old new doing found b =
    let v = view_of old in
    record {
      step = record { step = record { act = Epoch; found = found; cursor = v.rows.cursor; limbo = v.rows.limbo }; begins = Some (Operation doing) };
      made = λ c. trail_steps (b.view c).steps (b.begins c);
      asked = refl;
      word = refl;
      at = refl;
      fields = ap (λ (w : View). fields_in w.rows) b.view;
      stays = record {
        table_id = b.table_id;
        seat = b.seat;
        key = ap (λ (w : View). w.key) b.view;
        who = ap (λ (w : View). w.who) b.view;
        bindings = grows_not _ _ (ap (λ (w : View). w.handles.bindings) b.view);
        evidences = grows_not _ _ (ap (λ (w : View). w.rows.evidences) b.view);
        cast_evidences = grows_not _ _ (ap (λ (w : View). w.casts.evidences) b.view);
      };
    }

pub pin_made : (old new : Seated) (epoch : ℕ) → Becomes old new (after_pin (view_of old) epoch) → Asks old new (asked (Pin epoch)) 0
pin_made old new epoch b = quiet_step old new (Pin epoch) 0 _ refl b refl refl

pub unpin_made : (old new : Seated) → Becomes old new (after_unpin (view_of old)) → Asks old new (asked Unpin) 0
unpin_made old new b = quiet_step old new Unpin 0 _ refl b refl refl

-- ---- rows

-- what is the same of two views of rows is so of one or the other
either_same : {A : Type 0} (of : RowView → A) (test : Bool) (d e : RowView) (a : A) → of d ≡ a → of e ≡ a → of (cond test d e) ≡ a
either_same of true d e a first second = first
either_same of false d e a first second = second

pub claim_made : (old new : Seated) (row found : ℕ) → Becomes old new (after_claim (view_of old) row found) → Asks old new (asked (Claim row)) found
claim_made old new row found b =
    let d = (view_of old).rows in
    quiet_step old new (Claim row) found _ refl b
    (either_same fields_in (nat_eq found 0) (claimed d row) d (fields_in d) refl refl)
    (either_same (λ (e : RowView). e.evidences) (nat_eq found 0) (claimed d row) d d.evidences refl refl)

pub set_handle_made : (old new : Seated) (row : ℕ) (h : Handle) → Becomes old new (after_set_handle (view_of old) row h) → Asks old new (asked (SetHandle row h)) 0
set_handle_made old new row h b = quiet_step old new (SetHandle row h) 0 _ refl b refl refl

pub set_token_made : (old new : Seated) (row token : ℕ) → Becomes old new (after_set_token (view_of old) row token) → Asks old new (asked (SetToken row token)) 0
set_token_made old new row token b = quiet_step old new (SetToken row token) 0 _ refl b refl refl

pub set_target_made : (old new : Seated) (row target : ℕ) → Becomes old new (after_set_target (view_of old) row target) → Asks old new (asked (SetTarget row target)) 0
set_target_made old new row target b = quiet_step old new (SetTarget row target) 0 _ refl b refl refl

pub free_made : (old new : Seated) (row : ℕ) → Becomes old new (after_free (view_of old) row) → Asks old new (asked (Free row)) 0
free_made old new row b = quiet_step old new (Free row) 0 _ refl b refl refl

word_moves : (k : Key) (d : RowView) (row : ℕ) (which : RowWord) (found : ℕ) → Moves k d (LoadRow row which) found (row_word_seen k d row which found)
word_moves k d row word.Claim found = record { fields = refl; evidences = grows_not _ _ refl }
word_moves k d row word.Handle found = record { fields = refl; evidences = grows_not _ _ refl }
word_moves k d row word.Token found = record { fields = refl; evidences = grows_not _ _ refl }
word_moves k d row word.Target found = record { fields = refl; evidences = record { more = _; whole = refl } }

pub row_word_made : (old new : Seated) (row : ℕ) (which : RowWord) (found : ℕ) → Becomes old new (after_row_word (view_of old) row which found) → Asks old new (asked (LoadRow row which)) found
row_word_made old new row which found b =
    let v = view_of old in
    plain_step old new (LoadRow row which) found _ v.handles refl b (word_moves v.key v.rows row which found) (grows_not _ _ refl)

-- ---- cells, counters

cell_moves : (k : Key) (d : RowView) (site : ℕ) (w : CellWord) → Moves k d (LoadCell site) (packed_cell w) (cell_seen d site w)
cell_moves k d site Lookup = record { fields = refl; evidences = grows_not _ _ refl }
cell_moves k d site Resolve = record { fields = refl; evidences = grows_not _ _ refl }
cell_moves k d site (Dispatch row) = record { fields = refl; evidences = grows_not _ _ refl }

pub cell_made : (old new : Seated) (site : ℕ) (w : CellWord) → Becomes old new (after_cell (view_of old) site w) → Asks old new (asked (LoadCell site)) (packed_cell w)
cell_made old new site w b =
    let v = view_of old in
    plain_step old new (LoadCell site) (packed_cell w) _ v.handles refl b (cell_moves v.key v.rows site w) (grows_not _ _ refl)

-- an exchange of a cell, which changes how a row is kept where it is won
exchange_made : (old new : Seated) (act : Act) (found : ℕ) (test : Bool) (d : RowView) → is_named act ≡ false → Becomes old new (after_rows (view_of old) (cond test d (view_of old).rows) act found)
    → fields_in d ≡ fields_in (view_of old).rows → d.evidences ≡ (view_of old).rows.evidences
    → after_act (view_of old).key (fields_in (view_of old).rows) act found ≡ fields_in (view_of old).rows
    → Asks old new (record { act = asked_act act; begins = None }) found
exchange_made old new act found test d unnamed b fields evidences stays =
    let e = (view_of old).rows in
    quiet_step old new act found _ unnamed b
    (either_same fields_in test d e (fields_in e) fields refl ∙ sym stays)
    (either_same (λ (x : RowView). x.evidences) test d e e.evidences evidences refl)

pub to_dispatch_made : (old new : Seated) (site row : ℕ) (w : CellWord) → Becomes old new (after_to_dispatch (view_of old) site row w) → Asks old new (asked (ToDispatch site row)) (packed_cell w)
to_dispatch_made old new site row w b = exchange_made old new (ToDispatch site row) (packed_cell w) (nat_eq (packed_cell w) (packed_cell Lookup)) (keeps_row (view_of old).rows row Elsewhere) refl b refl refl refl

pub to_resolve_made : (old new : Seated) (site row : ℕ) (w : CellWord) → Becomes old new (after_to_resolve (view_of old) site row w) → Asks old new (asked (ToResolve site row)) (packed_cell w)
to_resolve_made old new site row w b = exchange_made old new (ToResolve site row) (packed_cell w) (nat_eq (packed_cell w) (packed_cell (Dispatch row))) (keeps_row (view_of old).rows row Unlinked) refl b refl refl refl

pub to_lookup_made : (old new : Seated) (site row : ℕ) (w : CellWord) → Becomes old new (after_to_lookup (view_of old) site row w) → Asks old new (asked (ToLookup site row)) (packed_cell w)
to_lookup_made old new site row w b = exchange_made old new (ToLookup site row) (packed_cell w) (nat_eq (packed_cell w) (packed_cell (Dispatch row))) (keeps_row (view_of old).rows row Unlinked) refl b refl refl refl

pub count_made : (old new : Seated) (token found : ℕ) → Becomes old new (after_count (view_of old) token found) → Asks old new (asked (Count token)) found
count_made old new token found b = quiet_step old new (Count token) found _ refl b refl refl

-- ---- buckets

bucket_moves : (k : Key) (d : RowView) (bucket : ℕ) (named : Option ℕ) → Moves k d (LoadBucket bucket) (packed_bucket named) (bucket_seen d named)
bucket_moves k d bucket None = record { fields = refl; evidences = grows_not _ _ refl }
bucket_moves k d bucket (Some row) = record { fields = refl; evidences = grows_not _ _ refl }

pub bucket_made : (old new : Seated) (bucket : ℕ) (named : Option ℕ) → Becomes old new (after_bucket (view_of old) bucket named) → Asks old new (asked (LoadBucket bucket)) (packed_bucket named)
bucket_made old new bucket named b =
    let v = view_of old in
    plain_step old new (LoadBucket bucket) (packed_bucket named) _ v.handles refl b (bucket_moves v.key v.rows bucket named) (grows_not _ _ refl)

-- a row that came out moves nothing
out_same : {A : Type 0} (of : RowView → A) (d : RowView) (out : Option ℕ) (a : A) → of d ≡ a → ((row : ℕ) → of (came_out d (Some row)) ≡ a) → of (came_out d out) ≡ a
out_same of d None a none some = none
out_same of d (Some row) a none some = some row

pub put_bucket_made : (old new : Seated) (bucket row : ℕ) (out : Option ℕ) → Becomes old new (after_put_bucket (view_of old) bucket row out) → Asks old new (asked (PutBucket bucket row)) (packed_bucket out)
put_bucket_made old new bucket row out b =
    let d = (view_of old).rows in
    quiet_step old new (PutBucket bucket row) (packed_bucket out) _ refl b
    (out_same fields_in _ out (fields_in d) refl (λ r. refl))
    (out_same (λ (e : RowView). e.evidences) _ out d.evidences refl (λ r. refl))

pub empty_bucket_made : (old new : Seated) (bucket : ℕ) (out : Option ℕ) → Becomes old new (after_empty_bucket (view_of old) bucket out) → Asks old new (asked (EmptyBucket bucket)) (packed_bucket out)
empty_bucket_made old new bucket out b =
    let d = (view_of old).rows in
    quiet_step old new (EmptyBucket bucket) (packed_bucket out) _ refl b
    (out_same fields_in _ out (fields_in d) refl (λ r. refl))
    (out_same (λ (e : RowView). e.evidences) _ out d.evidences refl (λ r. refl))

-- ---- limbo

pub epoch_to_retire_made : (old new : Seated) (row found : ℕ) → Becomes old new (after_epoch_to_retire (view_of old) row found) → Asks old new (asked (EpochToRetire row)) found
epoch_to_retire_made old new row found b = quiet_step old new (EpochToRetire row) found _ refl b refl refl

pub raise_made : (old new : Seated) (epoch found : ℕ) → Becomes old new (after_raise (view_of old) epoch found) → Asks old new (asked (Raise epoch)) found
raise_made old new epoch found b = quiet_step old new (Raise epoch) found _ refl b refl refl

swept_same : {A : Type 0} (of : RowView → A) (d : RowView) (limbo : List RetiredRow) (caller word : ℕ) (a : A) → of d ≡ a → ((passed : ℕ) → of (record d { passed = passed }) ≡ a) → of (swept d limbo caller word) ≡ a
swept_same of d [] caller word a same passed = same
swept_same of d (oldest ∷ others) caller word a same passed = passed _

pub epoch_of_made : (old new : Seated) (caller found : ℕ) → Becomes old new (after_epoch_of (view_of old) caller found) → Asks old new (asked (EpochOf caller)) found
epoch_of_made old new caller found b =
    let d = (view_of old).rows in
    quiet_step old new (EpochOf caller) found _ refl b
    (swept_same fields_in d d.limbo caller found (fields_in d) refl (λ p. refl))
    (swept_same (λ (e : RowView). e.evidences) d d.limbo caller found d.evidences refl (λ p. refl))

pub free_swept_made : (old new : Seated) (row : ℕ) → Becomes old new (after_free_swept (view_of old) row) → Asks old new (asked (FreeSwept row)) 0
free_swept_made old new row b = quiet_step old new (FreeSwept row) 0 _ refl b refl refl

-- ---- handle words

learns_more : (test : Bool) (x : Binding) (bindings : List Binding) → Grows Binding bindings (cond test (x ∷ bindings) bindings)
learns_more true x bindings = record { more = x ∷ []; whole = refl }
learns_more false x bindings = grows_not _ _ refl

pub handle_word_made : (old new : Seated) (row : ℕ) (w : HandleWord) → Becomes old new (after_load_handle (view_of old) row w) → Asks old new (asked (LoadHandle row)) (packed_handle_word w)
handle_word_made old new row w b =
    let v = view_of old in
    plain_step old new (LoadHandle row) (packed_handle_word w) v.rows _ refl b
    (record { fields = refl; evidences = grows_not _ _ refl })
    (learns_more w.live (binding_for (handle row w.generation) w.number) v.handles.bindings)

pub bind_made : (old new : Seated) (row generation number : ℕ) → Becomes old new (after_bind (view_of old) row generation number) → Asks old new (asked (Bind row generation number)) 0
bind_made old new row generation number b =
    let v = view_of old in
    plain_step old new (Bind row generation number) 0 v.rows _ refl b
    (record { fields = refl; evidences = grows_not _ _ refl })
    (record { more = _ ∷ []; whole = refl })

-- no program asks for the type's number
pub unbind_made : (old new : Seated) (row generation number : ℕ) → Becomes old new (after_unbind (view_of old) row generation number) → Asks old new (asked (Unbind row generation 0)) 0
unbind_made old new row generation number b =
    let v = view_of old in
    plain_step old new (Unbind row generation number) 0 v.rows _ refl b
    (record { fields = refl; evidences = grows_not _ _ refl })
    (grows_not _ _ refl)

-- ---- what the load of a row's handle found, as a handle

pub becomes_as : {old new : Seated} {a b : View} → a ≡ b → Becomes old new a → Becomes old new b
becomes_as same r = record { table_id = r.table_id; seat = r.seat; view = r.view ∙ same; begins = r.begins }

pub handle_found : (v : View) (row found : ℕ) (h : Handle) → IsHandlePacking h found → after_row_word v row word.Handle found ≡ after_handle v row h
handle_found v row found h packs =
    let read = handle_read found h packs in
    let packed = packs.packed in
    λ c. after_rows v (sees v.rows row (with_handle (read c))) (LoadRow row word.Handle) (packed c)
