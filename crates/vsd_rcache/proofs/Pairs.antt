-- What loads and swaps of buckets make of the caller, and what a pair that was found tells.
use Rattle.std.proofs.Common.{◌≡◌, ℕ, ◌<◌, Bool, true, false, ◌&&◌, nat_eq, Option, Some, None, IfSome, refl, sym, ◌∙◌, ap, subst, eq-eqb}
use Rattle.std.proofs.lemmas.Bool.{eqb-true}
use Rattle.vsd_words.specs.declared.handle.Handle.{Handle}
use Rattle.vsd_rule.specs.declared.row_view.RowView.{RowView}
use Rattle.vsd_rule.specs.declared.step.RowWord.TheVariants as word
use Rattle.vsd_rule.specs.declared.view.View.{View}
use Rattle.vsd_rule.specs.Evidence.{HasEvidence}
use Rattle.vsd_rule.specs.RowFacts.{Leaves}
use Rattle.vsd_rule.specs.RowSteps.{nothing_known, with_handle, with_token, after_bucket, after_row_word, came_out}
use Rattle.vsd_rule.specs.declared.step.Act.TheVariants.{LoadRow}
use Rattle.vsd_rule.specs.declared.step.RowWord.TheVariants.{Target}
use Rattle.vsd_table.specs.declared.seated.Seated.{Seated}
use Rattle.vsd_trails.specs.declared.answers.Found.{Found}
use Rattle.vsd_trails.specs.declared.answers.Found.TheVariants.{Hit, Other}
use Rattle.vsd_trails.specs.Programs.{Program, done, bind, when◌then◌else◌}
use Rattle.vsd_trails.specs.RowTrails.{reading, reading_handle, reading_token, reading_target}
use Rattle.vsd_trails.specs.CallTrails.{finding_in}
use Rattle.vsd_rows.specs.Makes.{Makes}
use Rattle.vsd_rows.proofs.Makes.{joined, reads_as, when_true, when_false, makes_none}
use Rattle.vsd_trails.specs.Words.{same_handle}
use Rattle.vsd_trails.proofs.Loads.{and_both, same_handle-true, same_handle-refl}
use Rattle.vsd_rows.specs.Hands.{with_rows, IsProtected, HasSeen, after_handle}
use Rattle.vsd_rows.proofs.Protecting.{bucket_seen_row, seen_protected, handle_seen, token_seen, target_evidence}
use Rattle.vsd_rcache.specs.Finding.{Finds}

-- ---- buckets

pub named_seen : (v w : View) (bucket : ℕ) (found : Option ℕ) (row : ℕ) → 0 < v.rows.pinned → w ≡ after_bucket v bucket found → found ≡ Some row → HasSeen w row None nothing_known
named_seen v w bucket found row pinned step names =
    subst (λ (x : View). HasSeen x row None nothing_known) (sym (step ∙ ap (λ (o : Option ℕ). after_bucket v bucket o) names)) (bucket_seen_row v bucket row pinned)

pub named_protected : (v w : View) (bucket : ℕ) (found : Option ℕ) → 0 < v.rows.pinned → w ≡ after_bucket v bucket found → IfSome found (IsProtected w)
named_protected v w bucket None pinned step = tt
named_protected v w bucket (Some row) pinned step = seen_protected w row None nothing_known (named_seen v w bucket (Some row) row pinned step refl)

-- the row that came out leaves
pub out_leaves : (d : RowView) (w : View) (out : Option ℕ) → w.rows ≡ came_out d out → IfSome out (Leaves w)
out_leaves d w None step = tt
out_leaves d w (Some row) step = record { others = d.kept; latest = ap (λ (e : RowView). e.kept) step }

-- ---- what a look changes

pub finds_on : (u v w : View) → Finds u v → Finds v w → Finds u w
finds_on u v w first second = second ∙ ap (λ (x : View). with_rows x w (record x.rows { protected = w.rows.protected; evidences = w.rows.evidences })) first

pub bucket_finds : (v w : View) (bucket : ℕ) (found : Option ℕ) → w ≡ after_bucket v bucket found → Finds v w
bucket_finds v w bucket None step = subst (λ (x : View). Finds v x) (sym step) refl
bucket_finds v w bucket (Some row) step = subst (λ (x : View). Finds v x) (sym step) refl

pub handle_finds : (v w : View) (row : ℕ) (h : Handle) → w ≡ after_handle v row h → Finds v w
handle_finds v w row h step = subst (λ (x : View). Finds v x) (sym step) refl

pub token_finds : (v w : View) (row token : ℕ) → w ≡ after_row_word v row word.Token token → Finds v w
token_finds v w row token step = subst (λ (x : View). Finds v x) (sym step) refl

pub target_finds : (v w : View) (row target : ℕ) → w ≡ after_row_word v row word.Target target → Finds v w
target_finds v w row target step = subst (λ (x : View). Finds v x) (sym step) refl

-- ---- pairs

pub pair_evidence : (v : View) (g h : Handle) (t token target : ℕ) → same_handle g h && nat_eq t token ≡ true → HasEvidence v g t target → HasEvidence v h token target
pair_evidence v g h t token target same evidence =
    let both = and_both (same_handle g h) (nat_eq t token) same in
    subst (λ (x : Handle). HasEvidence v x token target) (same_handle-true g h both.0)
    (subst (λ (n : ℕ). HasEvidence v g n target) (eqb-true t token both.1) evidence)

pub pair_other : (g h : Handle) (t token : ℕ) → same_handle g h && nat_eq t token ≡ false → g ≡ h → t ≡ token → ⊥
pair_other g h t token other handles tokens =
    let here : same_handle g h ≡ true = subst (λ (x : Handle). same_handle x h ≡ true) (sym handles) (same_handle-refl h) in
    let there : nat_eq t token ≡ true = eq-eqb t token tokens in
    let both : same_handle g h && nat_eq t token ≡ true = ap (λ (b : Bool). b && nat_eq t token) here ∙ there in
    let clash = sym both ∙ other in cc

-- ---- the search in the row that a bucket names

module _ (row token : ℕ) (h : Handle) where
  abbrev by_words : Handle → ℕ → Program Found
  by_words g t = when same_handle g h && nat_eq t token then reading (LoadRow row Target) Hit else done (Other g t)

  abbrev by_handle : Handle → Program Found
  by_handle g = bind (reading_token row) (by_words g)

  pub finds_pair : (old one two new : Seated) (g : Handle) (t target : ℕ) → Makes old one (reading_handle row) g → Makes one two (reading_token row) t → Makes two new (reading_target row) target
      → same_handle g h && nat_eq t token ≡ true → Makes old new (finding_in token h (Some row)) (Hit target)
  finds_pair old one two new g t target first second third same =
      joined by_handle first (joined (by_words g) second
      (when_true (same_handle g h && nat_eq t token) (reading (LoadRow row Target) Hit) (done (Other g t)) same (reads_as (λ (word : ℕ). word) Hit third)))

  pub finds_other : (old one two : Seated) (g : Handle) (t : ℕ) → Makes old one (reading_handle row) g → Makes one two (reading_token row) t
      → same_handle g h && nat_eq t token ≡ false → Makes old two (finding_in token h (Some row)) (Other g t)
  finds_other old one two g t first second other =
      joined by_handle first (joined (by_words g) second
      (when_false (same_handle g h && nat_eq t token) (reading (LoadRow row Target) Hit) (done (Other g t)) other (makes_none two (Other g t))))

pub pair_seen : (u v w : View) (row : ℕ) (g : Handle) (t : ℕ) → HasSeen u row None nothing_known → v ≡ after_handle u row g → w ≡ after_row_word v row word.Token t
    → HasSeen w row None (with_token t (with_handle g nothing_known))
pair_seen u v w row g t named first second =
    let one = subst (λ (x : View). HasSeen x row None (with_handle g nothing_known)) (sym first) (handle_seen u row None nothing_known g named) in
    subst (λ (x : View). HasSeen x row None (with_token t (with_handle g nothing_known))) (sym second) (token_seen v row None (with_handle g nothing_known) t one)

pub pair_told : (u v w x : View) (row : ℕ) (g h : Handle) (t token target : ℕ) → HasSeen u row None nothing_known → v ≡ after_handle u row g → w ≡ after_row_word v row word.Token t
    → x ≡ after_row_word w row word.Target target → same_handle g h && nat_eq t token ≡ true → HasEvidence x h token target
pair_told u v w x row g h t token target named first second third same =
    let seen = pair_seen u v w row g t named first second in
    pair_evidence x g h t token target same
    (subst (λ (y : View). HasEvidence y g t target) (sym third) (target_evidence w row None (with_token t (with_handle g nothing_known)) g t target seen refl refl))
