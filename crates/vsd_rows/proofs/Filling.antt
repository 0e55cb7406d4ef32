-- What filling a row, retiring one and freeing one make of the caller's hand.
use Rattle.std.proofs.Common.{◌≡◌, ℕ, zero, suc, ◌<◌, Bool, true, false, nat_eq, List, [], ◌∷◌, ◌++◌, map, ◌↔◌, IsTrue, refl, ◌∙◌, ap, subst, eq-eqb, ne_eqb}
use Rattle.std.proofs.lemmas.List.{map-append}
use Rattle.vsd_words.specs.declared.handle.Handle.{Handle}
use Rattle.vsd_rule.specs.declared.key.Key.{Key}
use Rattle.vsd_rule.specs.declared.row_view.Keeping.{Keeping}
use Rattle.vsd_rule.specs.declared.row_view.Keeping.TheVariants.{Private}
use Rattle.vsd_rule.specs.declared.row_view.RetiredRow.{RetiredRow}
use Rattle.vsd_rule.specs.declared.view.View.{View}
use Rattle.vsd_rule.specs.Evidence.{HasEvidence}
use Rattle.vsd_rule.specs.RowSteps.{words_stored, with_token, with_target, after_set_handle, after_set_token}
use Rattle.vsd_rule.specs.RowFacts.{IsPrivate, IsFilled}
use Rattle.vsd_rule.proofs.RowMoves.{keeping_here}
use Rattle.vsd_rows.proofs.Makes.{grows_not, evidence_on}
use Rattle.vsd_rows.specs.declared.limbo.Limbo.{Limbo}
use Rattle.vsd_rows.specs.Retired.{retired_row, AreInTable}
use Rattle.vsd_rows.specs.Hands.{after_fill}

pub handle_stored : (v : View) (row : ℕ) (h : Handle) → IsPrivate (after_set_handle v row h) row
handle_stored v row h = (_, keeping_here row _ v.rows.kept)

pub token_stored : (v : View) (row token : ℕ) → IsPrivate (after_set_token v row token) row
token_stored v row token = (_, keeping_here row _ v.rows.kept)

pub is_filled : (v : View) (row : ℕ) (h : Handle) (token target : ℕ) → HasEvidence v h token target → IsFilled (after_fill v row h token target) row h token target
is_filled v row h token target evidence =
    let one = after_set_handle v row h in
    let two = after_set_token one row token in
    record {
      stored = keeping_here row _ two.rows.kept
          ∙ ap (λ (q : Keeping). Private (with_target target (words_stored q))) (keeping_here row _ one.rows.kept
          ∙ ap (λ (q : Keeping). Private (with_token token (words_stored q))) (keeping_here row _ v.rows.kept));
      evidence = evidence_on v (after_fill v row h token target) h token target refl (grows_not _ _ refl) (grows_not _ _ refl) evidence;
    }

-- a test of two numbers, by what it decides
pub test_is : (test : Bool) (n m : ℕ) → (IsTrue test ↔ n ≡ m) → nat_eq n m ≡ test
test_is true n m decides = eq-eqb n m (decides.0 refl)
test_is false n m decides = ne_eqb n m (λ same. let e = decides.1 same in cc)

-- ---- limbo

pub limbo_pushed : (items items' : List Limbo) (limbo : List RetiredRow) (x : Limbo) → items' ≡ items ++ x ∷ [] → map retired_row items ≡ limbo → map retired_row items' ≡ limbo ++ retired_row x ∷ []
limbo_pushed items items' limbo x pushed same =
    ap (map retired_row) pushed ∙ (map-append retired_row items (x ∷ []) ∙ ap (λ (l : List RetiredRow). l ++ retired_row x ∷ []) same)

pub pushed_in_table : (k : Key) (items : List Limbo) (x : Limbo) → AreInTable k items → x.row < k.sizes.rows → AreInTable k (items ++ x ∷ [])
pushed_in_table k [] x all small zero y at = let same : x ≡ y = cc in subst (λ (z : Limbo). z.row < k.sizes.rows) same small
pushed_in_table k [] x all small (suc i) y at = absurd (cc)
pushed_in_table k (z ∷ zs) x all small zero y at = all zero y at
pushed_in_table k (z ∷ zs) x all small (suc i) y at = pushed_in_table k zs x (λ j u there. all (suc j) u there) small i y at
