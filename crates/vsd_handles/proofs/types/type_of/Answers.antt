use Rattle.std.proofs.Common.{◌≡◌, ◌<◌, ℕ, Result, refl, ap, ◌∙◌, subst, sym, rules}
use Rattle.vsd_rule.specs.declared.key.Key.{Key}
use Rattle.vsd_rule.specs.Handles.{handle}
use Rattle.vsd_rule.specs.Facts.{Knows}
use Rattle.vsd_table.specs.Seating.{view_of}
use Rattle.vsd_words.specs.declared.handle.Handle.{Handle}
use Rattle.vsd_words.specs.declared.handle_word.HandleWord.{HandleWord}
use Rattle.vsd_words.specs.HandleWord.{HandleWordInRange, packed_handle_word}
use Rattle.vsd_trails.specs.declared.answers.Unloaded.{Unloaded}
use Rattle.vsd_trails.specs.Words.{unpacked_handle_word, type_by}
use Rattle.vsd_trails.specs.RowTrails.{typing}
use Rattle.vsd_trails.proofs.Words.{handle_word_read}
use Rattle.vsd_table.specs.declared.seated.Seated.{Seated}
use Rattle.vsd_table.specs.Seating.{Becomes}
use Rattle.vsd_rule.specs.Moves.{after_load_handle}
use Rattle.vsd_rows.specs.Makes.{Makes}
use Rattle.vsd_rows.proofs.Makes.{reads, answers}
use Rattle.vsd_rows.proofs.StepsMade.{handle_word_made}
use Rattle.vsd_handles.proofs.types.type_of.Goals as goal

-- one load, by whose word the type is told
types_made : (old new : Seated) (h : Handle) (w : HandleWord) (a : Result ℕ Unloaded) → HandleWordInRange w → Becomes old new (after_load_handle (view_of old) h.row w) → a ≡ type_by h w → Makes old new (typing h) a
types_made old new h w a in_range step decides =
    let read : unpacked_handle_word (packed_handle_word w) ≡ w = handle_word_read (packed_handle_word w) w (record { in_range = in_range; packed = refl }) in
    answers (ap (type_by h) read ∙ sym decides) (reads (λ (word : ℕ). type_by h (unpacked_handle_word word)) (handle_word_made old new h.row w step))

pub returns-then-found-h-clause-trail : goal.returns-then-found-h-clause-trail
returns-then-found-h-clause-trail c = types_made _ _ c.args.h c.handle_word-found.result _ c.handle_word-found.ensures.finds.in_range c.handle_word-found.ensures.step (search rules)

pub returns-else-found-clause-trail : goal.returns-else-found-clause-trail
returns-else-found-clause-trail c = types_made _ _ c.args.h c.handle_word-found.result _ c.handle_word-found.ensures.finds.in_range c.handle_word-found.ensures.step (search rules)

-- the row shows the handle's generation, so the type that is known of it is the one that is shown
pub returns-then-found-h-clause-known : goal.returns-then-found-h-clause-known
returns-then-found-h-clause-known c =
    let handles = (view_of c.args.hand.now.seated).handles in
    λ number knows.
    c.handle_word-found.ensures.finds.known number
    (subst (λ (g : ℕ). Knows handles (handle c.args.h.row g) number) (sym c.if-found-h.true) knows)

pub returns-then-found-h-clause-in_world : goal.returns-then-found-h-clause-in_world
returns-then-found-h-clause-in_world c = λ some.
    subst (λ (k : Key). c.handle_word-found.result.number < k.world.types) c.requires.seat.key
    (c.handle_word-found.ensures.finds.typed (subst (λ (g : ℕ). 0 < g) (sym c.if-found-h.true) some))
