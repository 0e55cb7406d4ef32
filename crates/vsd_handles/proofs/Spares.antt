-- What is known of the lowest row that can be bound.
use Rattle.std.proofs.Common.{◌≡◌, ℕ, ◌+◌, ◌<◌, ◌≤◌, List, Some, true, position, slice_index_or, ap, sym, ◌∙◌, arith}
use Rattle.std.proofs.lemmas.Bool.Decides.{nat_tests}
use Rattle.std.proofs.lemmas.List.Quantifiers.{position-Some}
use Rattle.vsd_words.specs.declared.handle_word.HandleWord.{HandleWord}
use Rattle.vsd_rule.specs.declared.view.View.{View}
use Rattle.vsd_rule.specs.Layout.{first_row}
use Rattle.vsd_rule.specs.Seats.{caller_of, is_caller}
use Rattle.vsd_rule.specs.Handles.{blank_word, handle, owned_word}
use Rattle.vsd_rule.specs.Moves.{own_index}
use Rattle.vsd_handles.specs.OwnRows.{is_spare, IsNext}

spare_below : (w : HandleWord) → is_spare w ≡ true → w.generation < 4294967295
spare_below w spare = grind (arith, nat_tests)

-- the generation of the lowest row that can be bound can rise
pub lowest_below : (words : List HandleWord) (index : ℕ) → position is_spare words ≡ Some index →
    (slice_index_or words index blank_word).generation < 4294967295
lowest_below words index lowest =
    spare_below (slice_index_or words index blank_word) (position-Some is_spare words index blank_word lowest).1

-- the row at the lowest index, one generation on
pub next_handle : (v : View) (first index : ℕ) → is_caller v.who ≡ true → first ≡ first_row v.key.sizes (caller_of v.who) →
    first + 64 ≤ 32768 → index < 64 → position is_spare v.handles.owned ≡ Some index →
    IsNext v (handle (first + index) ((owned_word v.handles index).generation + 1))
next_handle v first index caller from few within lowest =
    let there : own_index v (first + index) ≡ index = omega arith in
    let low : (owned_word v.handles index).generation < 4294967295 = lowest_below v.handles.owned index lowest in
    record {
      row = record { caller = caller; from = omega arith; to = omega arith };
      lowest = lowest ∙ ap Some (sym there);
      raised = ap (λ (i : ℕ). (owned_word v.handles i).generation + 1) (sym there);
      in_range = record { row = omega arith; generation = omega arith };
    }
