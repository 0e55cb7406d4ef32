use Rattle.std.proofs.Common.{◌≡◌, ◌+◌, ◌≤◌, ℕ, Some, position, slice_index_or, sym, ap, subst, ◌∙◌, arith}
use Rattle.vsd_rule.specs.Handles.{handle, blank_word}
use Rattle.vsd_table.specs.Seating.{view_of}
use Rattle.vsd_trails.specs.UnloadTrails.{binding}
use Rattle.vsd_rows.proofs.Makes.{reads, then_makes, makes_none}
use Rattle.vsd_rows.proofs.StepsMade.{bind_made}
use Rattle.vsd_handles.specs.OwnRows.{is_spare, IsNext}
use Rattle.vsd_handles.proofs.Spares.{lowest_below, next_handle}
use Rattle.vsd_handles.proofs.binding.bind.Goals as goal

pub overflow_add-generation : goal.overflow_add-generation
overflow_add-generation c =
    let word : (slice_index_or c.args.owned.now c.in-Some.index blank_word).generation ≡ c.word-generation.result.generation = cc in
    omega (arith, lowest_below c.args.owned.now c.in-Some.index (sym c.in-Some.ensures.first))

pub returns-clause-next : goal.returns-clause-next
returns-clause-next c =
    let v = view_of c.args.hand.now.seated in
    let first = c.first_row.result in
    let index = c.in-Some.index in
    let lowest : position is_spare v.handles.owned ≡ Some index =
    ap (position is_spare) (sym c.requires.words) ∙ sym c.in-Some.ensures.first in
    let few : first + 64 ≤ 32768 = omega arith in
    let next = next_handle v first index c.first_row.ensures.caller c.first_row.ensures.row few
    c.in-Some.ensures.within lowest in
    let word : (slice_index_or v.handles.owned index blank_word).generation ≡ c.word-generation.result.generation = cc in
    subst (λ (g : ℕ). IsNext v (handle (first + index) (g + 1))) word next

pub returns-clause-trail : goal.returns-clause-trail
unfolding binding
returns-clause-trail c = then_makes (reads (λ (word : ℕ). tt) (bind_made _ _ _ _ _ c.bind.ensures.step)) (makes_none _ _)
