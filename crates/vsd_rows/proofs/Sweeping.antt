-- The parts of a search for a free row and of a sweep of limbo.
use Rattle.std.proofs.Common.{min, map, slice_get, remove, ◌≡◌, ℕ, zero, suc, ◌+◌, ◌<◌, Bool, true, false, nat_eq, cond, List, [], ◌∷◌, Option, Some, None, refl, sym, ◌∙◌, ap, subst, eq-eqb, ne_eqb, arith, ◌&&◌}
use Rattle.vsd_rule.specs.declared.key.Key.{Key}
use Rattle.vsd_rule.specs.declared.row_view.RetiredRow.{RetiredRow}
use Rattle.vsd_rule.specs.declared.row_view.RowView.{RowView}
use Rattle.vsd_rule.specs.declared.row_view.Keeping.TheVariants.{Private}
use Rattle.vsd_rule.specs.declared.view.View.{View}
use Rattle.vsd_rule.specs.Rows.{keeping_of}
use Rattle.vsd_rule.specs.RowFacts.{IsPrivate}
use Rattle.vsd_rule.proofs.RowMoves.{keeping_here}
use Rattle.vsd_rule.specs.RowSteps.{nothing_known, after_free_swept, is_clear, passed_after, swept, after_epoch_of, next_row}
use Rattle.vsd_table.specs.declared.seated.Seated.{Seated}
use Rattle.vsd_table.specs.Seating.{view_of, Becomes}
use Rattle.vsd_trails.specs.declared.answers.Swept.{Swept}
use Rattle.vsd_trails.specs.declared.answers.Swept.TheVariants.{Empty, Blocked, Freed}
use Rattle.vsd_trails.specs.Programs.{Fields, done, when◌then◌else◌}
use Rattle.vsd_trails.specs.RowTrails.{passing, sweeping_oldest, sweeping, claiming_row, claiming_from, claiming}
use Rattle.vsd_rows.specs.Makes.{Makes}
use Rattle.vsd_rows.specs.Hands.{with_rows, Claims, given, left_by, Sweeps}
use Rattle.vsd_rows.specs.Sweeps.{HasOldest, IsPassed}
use Rattle.vsd_rows.specs.declared.limbo.Limbo.{Limbo}
use Rattle.vsd_rows.specs.Retired.{retired_row, AreInTable}
use Rattle.vsd_rows.proofs.Makes.{joined, then_makes, looks, reads, when_true, when_false, makes_none}
use Rattle.vsd_rows.proofs.StepsMade.{epoch_of_made, free_swept_made}

-- ---- a search for a free row

-- the first row was lost, and the search goes on at the next
pub tried_on : (k : Key) (n row : ℕ) (old now new : Seated) (a : Option ℕ) → Makes old now (claiming_row row) false → Makes now new (claiming_from k n (next_row k row)) a → Makes old new (claiming_from k (suc n) row) a
unfolding claiming_from
tried_on k n row old now new a lost rest =
    joined (λ (won : Bool). when won then done (Some row) else claiming_from k n (next_row k row)) lost
    (when_false false (done (Some row)) (claiming_from k n (next_row k row)) refl rest)

-- the first row was won
pub won_now : (k : Key) (n row : ℕ) (old new : Seated) → Makes old new (claiming_row row) true → Makes old new (claiming_from k (suc n) row) (Some row)
unfolding claiming_from
won_now k n row old new won =
    joined (λ (won : Bool). when won then done (Some row) else claiming_from k n (next_row k row)) won
    (when_true true (done (Some row)) (claiming_from k n (next_row k row)) refl (makes_none new (Some row)))

pub ends_search : (k : Key) (row : ℕ) (s : Seated) → Makes s s (claiming_from k zero row) None
unfolding claiming_from
ends_search k row s = makes_none s None

-- a row more was tried
pub claims_on : (u v w : View) (row : Option ℕ) → Claims u v None → Claims v w row → Claims u w row
claims_on u v w None first second = second ∙ ap (λ (x : View). with_rows x w (record x.rows { cursor = w.rows.cursor })) first
claims_on u v w (Some row) first second = second ∙ ap (λ (x : View). with_rows x w (record (given x.rows (Some row)) { cursor = w.rows.cursor })) first

pub searched : (k : Key) (cursor : ℕ) (old new : Seated) (a : Option ℕ) → cursor ≡ (view_of old).rows.cursor → Makes old new (claiming_from k (min 8 k.sizes.rows) cursor) a → Makes old new (claiming k) a
unfolding claiming
searched k cursor old new a same makes =
    looks (λ (f : Fields). claiming_from k (min 8 k.sizes.rows) f.cursor) (subst (λ (n : ℕ). Makes old new (claiming_from k (min 8 k.sizes.rows) n) a) same makes)

pub given_private : (v w : View) (row : ℕ) → Claims v w (Some row) → IsPrivate w row
given_private v w row claims = (nothing_known, ap (λ (x : View). keeping_of row x.rows.kept) claims ∙ keeping_here row (Private nothing_known) v.rows.kept)

-- ---- a sweep

-- the caller was passed, and the sweep goes on at the next
pub passed_on : (x : RetiredRow) (n caller found : ℕ) (old now new : Seated) (a : Swept) → Becomes old now (after_epoch_of (view_of old) caller found) → is_clear x.epoch found ≡ true
    → Makes now new (passing x n (caller + 1)) a → Makes old new (passing x (suc n) caller) a
unfolding passing
passed_on x n caller found old now new a step clear rest =
    joined (λ (word : ℕ). when is_clear x.epoch word then passing x n (caller + 1) else done (Blocked caller word))
    (reads (λ (word : ℕ). word) (epoch_of_made old now caller found step))
    (when_true (is_clear x.epoch found) (passing x n (caller + 1)) (done (Blocked caller found)) clear rest)

-- the caller's epoch word blocks the row
pub blocked_by : (x : RetiredRow) (n caller found : ℕ) (old new : Seated) → Becomes old new (after_epoch_of (view_of old) caller found) → is_clear x.epoch found ≡ false
    → Makes old new (passing x (suc n) caller) (Blocked caller found)
unfolding passing
blocked_by x n caller found old new step blocks =
    joined (λ (word : ℕ). when is_clear x.epoch word then passing x n (caller + 1) else done (Blocked caller word))
    (reads (λ (word : ℕ). word) (epoch_of_made old new caller found step))
    (when_false (is_clear x.epoch found) (passing x n (caller + 1)) (done (Blocked caller found)) blocks (makes_none new (Blocked caller found)))

passed_next : (epoch passed caller word : ℕ) → is_clear epoch word ≡ true → (0 < caller → passed ≡ caller) → passed_after epoch passed caller word ≡ caller + 1
passed_next epoch passed zero word clear before = ap (λ (b : Bool). cond b 1 0) clear
passed_next epoch passed (suc c) word clear before =
    let same : passed ≡ suc c = before (omega arith) in
    ap (λ (b : Bool). cond b (cond (is_clear epoch word) 1 0) (cond (nat_eq (suc c) passed && is_clear epoch word) (passed + 1) passed)) (ne_eqb (suc c) 0 (λ e. omega arith))
    ∙ (ap (λ (b : Bool). cond (b && is_clear epoch word) (passed + 1) passed) (eq-eqb (suc c) passed (sym same))
    ∙ (ap (λ (b : Bool). cond b (passed + 1) passed) clear ∙ ap (λ (n : ℕ). n + 1) same))

pub passed_so : (v : View) (x : RetiredRow) (xs : List RetiredRow) (caller word : ℕ) → v.rows.limbo ≡ x ∷ xs → is_clear x.epoch word ≡ true → (0 < caller → v.rows.passed ≡ caller)
    → (after_epoch_of v caller word).rows.passed ≡ caller + 1
passed_so v x xs caller word waiting clear before =
    ap (λ (l : List RetiredRow). (swept v.rows l caller word).passed) waiting ∙ passed_next x.epoch v.rows.passed caller word clear before

swept_is : (d : RowView) (limbo : List RetiredRow) (caller word : ℕ) → swept d limbo caller word ≡ record d { passed = (swept d limbo caller word).passed }
swept_is d [] caller word = refl
swept_is d (x ∷ xs) caller word = refl

pub swept_leaves : (d : RowView) (limbo : List RetiredRow) (caller word : ℕ) → (swept d limbo caller word).limbo ≡ d.limbo
swept_leaves d [] caller word = refl
swept_leaves d (x ∷ xs) caller word = refl

pub sweeps_on : (u v w : View) (caller word : ℕ) → IsPassed u v → w ≡ after_epoch_of v caller word → IsPassed u w
sweeps_on u v w caller word first step =
    let after = after_epoch_of v caller word in
    let here : after ≡ with_rows v after (record v.rows { passed = after.rows.passed }) = ap (λ (d : RowView). record after { rows = d }) (swept_is v.rows v.rows.limbo caller word) in
    let one : IsPassed v w = subst (λ (x : View). IsPassed v x) (sym step) here in
    one ∙ ap (λ (x : View). with_rows x w (record x.rows { passed = w.rows.passed })) first

-- ---- a sweep whole

pub has_oldest : (items : List Limbo) (o : Option Limbo) → o ≡ slice_get items 0 → HasOldest items o
has_oldest [] o is = subst (λ (p : Option Limbo). HasOldest [] p) (sym is) refl
has_oldest (x ∷ xs) o is = subst (λ (p : Option Limbo). HasOldest (x ∷ xs) p) (sym is) (xs, refl)

pub sweeps_nothing : (k : Key) (s : Seated) → (view_of s).rows.limbo ≡ [] → Makes s s (sweeping k) Empty
unfolding sweeping
sweeps_nothing k s empty = looks (λ (f : Fields). sweeping_oldest k f.limbo) (subst (λ (l : List RetiredRow). Makes s s (sweeping_oldest k l) Empty) (sym empty) (makes_none s Empty))

pub sweeps_first : (k : Key) (old new : Seated) (x : RetiredRow) (others : List RetiredRow) (a : Swept) → (view_of old).rows.limbo ≡ x ∷ others → Makes old new (passing x k.sizes.callers 0) a → Makes old new (sweeping k) a
unfolding sweeping
sweeps_first k old new x others a waiting makes =
    looks (λ (f : Fields). sweeping_oldest k f.limbo) (subst (λ (l : List RetiredRow). Makes old new (sweeping_oldest k l) a) (sym waiting) makes)

pub frees_first : (x : RetiredRow) (caller : ℕ) (old new : Seated) → Becomes old new (after_free_swept (view_of old) x.row) → Makes old new (passing x zero caller) (Freed x.row)
unfolding passing
frees_first x caller old new step = then_makes (reads (λ (word : ℕ). tt) (free_swept_made old new x.row step)) (makes_none new (Freed x.row))

-- limbo as the hand has it, and as its view has it
pub queue_of : (items : List Limbo) (x : Limbo) (others : List Limbo) (limbo : List RetiredRow) → map retired_row items ≡ limbo → items ≡ x ∷ others → limbo ≡ retired_row x ∷ map retired_row others
queue_of items x others limbo same is = sym same ∙ ap (map retired_row) is

pub first_removed : (items : List Limbo) (x : Limbo) (others : List Limbo) → items ≡ x ∷ others → remove items 0 ≡ others
first_removed items x others is = ap (λ (l : List Limbo). remove l 0) is

pub others_in_table : (k : Key) (items : List Limbo) (x : Limbo) (others : List Limbo) → items ≡ x ∷ others → AreInTable k items → AreInTable k others
others_in_table k items x others is all =
    let here : AreInTable k (x ∷ others) = subst (λ (l : List Limbo). AreInTable k l) is all in
    λ i y at. here (suc i) y at

pub first_in_table : (k : Key) (items : List Limbo) (x : Limbo) (others : List Limbo) → items ≡ x ∷ others → AreInTable k items → x.row < k.sizes.rows
first_in_table k items x others is all =
    let here : AreInTable k (x ∷ others) = subst (λ (l : List Limbo). AreInTable k l) is all in
    here zero x refl

pub sweeps_freed : (u v w : View) (row : ℕ) → IsPassed u v → w ≡ after_free_swept v row → Sweeps u w (Freed row)
sweeps_freed u v w row passed step =
    let after = after_free_swept v row in
    let one : w ≡ with_rows v w (left_by v.rows w.rows.passed (Freed row)) = subst (λ (x : View). x ≡ with_rows v x (left_by v.rows x.rows.passed (Freed row))) (sym step) refl in
    one ∙ ap (λ (x : View). with_rows x w (left_by x.rows w.rows.passed (Freed row))) passed
