use Rattle.std.proofs.Common.{◌<◌, ℕ, sym, ◌∙◌, ap, subst}
use Rattle.vsd_rule.specs.declared.handle_view.HandleView.{HandleView}
use Rattle.vsd_rule.specs.declared.step.Doing.TheVariants.{Unload}
use Rattle.vsd_rule.specs.declared.view.View.{View}
use Rattle.vsd_table.specs.Seating.{view_of, key_of}
use Rattle.vsd_handles.specs.OwnRows.{own_row_word}
use Rattle.vsd_unloads.proofs.PartsMade.{unloads}
use Rattle.vsd_unloads.proofs.Purging.{logs_unload, stores_first, purges_all, sweeps_oldest}
use Rattle.vsd_unloads.proofs.Owning.{own_on, owned_on, pins_handles, sweeps_go, handles_after, lets_go, word_after, is_unloaded, owns_others}
use Rattle.vsd_unloads.proofs.unloading.unload.Goals as goal

pub unbind-requires-clause-owned : goal.unbind-requires-clause-owned
unbind-requires-clause-owned c =
    let stays = c.pin.ensures.trail.stays in
    owned_on (view_of c.args.hand.now.seated) (view_of c.pin.new.hand.seated) stays.key stays.who c.args.h (pins_handles c.args.hand.now.seated c.pin.new.hand.seated (Unload c.args.h) c.pin.ensures.step) c.requires.owned

pub purge_cells-requires-clause-pinned : goal.purge_cells-requires-clause-pinned
purge_cells-requires-clause-pinned c = subst (λ (n : ℕ). 0 < n) (sym (ap (λ (v : View). v.rows.pinned) c.unbind.ensures.step.view)) c.pin.ensures.pinned

pub purge_buckets-requires-clause-pinned : goal.purge_buckets-requires-clause-pinned
purge_buckets-requires-clause-pinned c =
    subst (λ (n : ℕ). 0 < n) (sym (c.purge_cells.ensures.goes.pinned ∙ ap (λ (v : View). v.rows.pinned) c.unbind.ensures.step.view)) c.pin.ensures.pinned

pub unpin-requires-clause-pinned : goal.unpin-requires-clause-pinned
unpin-requires-clause-pinned c =
    subst (λ (n : ℕ). 0 < n) (sym (c.purge_buckets.ensures.goes.pinned ∙ (c.purge_cells.ensures.goes.pinned ∙ ap (λ (v : View). v.rows.pinned) c.unbind.ensures.step.view))) c.pin.ensures.pinned

pub sweep-requires-clause-unpinned : goal.sweep-requires-clause-unpinned
sweep-requires-clause-unpinned c = ap (λ (v : View). v.rows.pinned) c.unpin.ensures.step.view

pub returns-clause-trail : goal.returns-clause-trail
returns-clause-trail c =
    unloads c.args.h (key_of c.args.table.now) _ _ _ _ _ _ _ c.sweep.result
    c.pin.ensures.trail c.unbind.ensures.trail c.purge_cells.ensures.trail c.purge_buckets.ensures.trail c.unpin.ensures.trail c.sweep.ensures.trail

pub returns-clause-logged : goal.returns-clause-logged
returns-clause-logged c =
    logs_unload (key_of c.args.table.now) c.args.h c.args.hand.now.seated c.sweep.new.hand.seated c.requires.seat.key
    (unloads c.args.h (key_of c.args.table.now) _ _ _ _ _ _ _ c.sweep.result
    c.pin.ensures.trail c.unbind.ensures.trail c.purge_cells.ensures.trail c.purge_buckets.ensures.trail c.unpin.ensures.trail c.sweep.ensures.trail)

pub returns-clause-first : goal.returns-clause-first
returns-clause-first c =
    stores_first (key_of c.args.table.now) c.args.h c.args.hand.now.seated c.sweep.new.hand.seated c.requires.seat.key
    (unloads c.args.h (key_of c.args.table.now) _ _ _ _ _ _ _ c.sweep.result
    c.pin.ensures.trail c.unbind.ensures.trail c.purge_cells.ensures.trail c.purge_buckets.ensures.trail c.unpin.ensures.trail c.sweep.ensures.trail)

pub returns-clause-purges : goal.returns-clause-purges
returns-clause-purges c =
    purges_all (key_of c.args.table.now) c.args.h c.args.hand.now.seated c.sweep.new.hand.seated c.requires.seat.key
    (unloads c.args.h (key_of c.args.table.now) _ _ _ _ _ _ _ c.sweep.result
    c.pin.ensures.trail c.unbind.ensures.trail c.purge_cells.ensures.trail c.purge_buckets.ensures.trail c.unpin.ensures.trail c.sweep.ensures.trail)

pub returns-clause-sweeps : goal.returns-clause-sweeps
returns-clause-sweeps c =
    sweeps_oldest (key_of c.args.table.now) c.args.h c.args.hand.now.seated c.sweep.new.hand.seated c.requires.seat.key
    (unloads c.args.h (key_of c.args.table.now) _ _ _ _ _ _ _ c.sweep.result
    c.pin.ensures.trail c.unbind.ensures.trail c.purge_cells.ensures.trail c.purge_buckets.ensures.trail c.unpin.ensures.trail c.sweep.ensures.trail)

pub returns-clause-handles : goal.returns-clause-handles
returns-clause-handles c =
    handles_after (view_of c.unbind.new.hand.seated) (view_of c.purge_cells.new.hand.seated) (view_of c.purge_buckets.new.hand.seated) (view_of c.unpin.new.hand.seated) (view_of c.sweep.new.hand.seated) c.sweep.result
    c.purge_cells.ensures.goes c.purge_buckets.ensures.goes c.unpin.ensures.step.view c.sweep.ensures.changes
    ∙ lets_go c.args.hand.now.seated c.pin.new.hand.seated c.unbind.new.hand.seated (Unload c.args.h) c.args.h c.pin.ensures.step c.unbind.ensures.step

pub returns-clause-unpinned : goal.returns-clause-unpinned
returns-clause-unpinned c =
    (sweeps_go (view_of c.unpin.new.hand.seated) (view_of c.sweep.new.hand.seated) c.sweep.result c.sweep.ensures.changes).pinned
    ∙ ap (λ (v : View). v.rows.pinned) c.unpin.ensures.step.view

pub returns-clause-words : goal.returns-clause-words
returns-clause-words c =
    c.unbind.ensures.words
    ∙ sym (ap (λ (n : HandleView). n.owned) (handles_after (view_of c.unbind.new.hand.seated) (view_of c.purge_cells.new.hand.seated) (view_of c.purge_buckets.new.hand.seated) (view_of c.unpin.new.hand.seated) (view_of c.sweep.new.hand.seated) c.sweep.result
    c.purge_cells.ensures.goes c.purge_buckets.ensures.goes c.unpin.ensures.step.view c.sweep.ensures.changes))

pub returns-clause-word : goal.returns-clause-word
returns-clause-word c =
    let makes = unloads c.args.h (key_of c.args.table.now) _ _ _ _ _ _ _ c.sweep.result
    c.pin.ensures.trail c.unbind.ensures.trail c.purge_cells.ensures.trail c.purge_buckets.ensures.trail c.unpin.ensures.trail c.sweep.ensures.trail in
    let after = handles_after (view_of c.unbind.new.hand.seated) (view_of c.purge_cells.new.hand.seated) (view_of c.purge_buckets.new.hand.seated) (view_of c.unpin.new.hand.seated) (view_of c.sweep.new.hand.seated) c.sweep.result
    c.purge_cells.ensures.goes c.purge_buckets.ensures.goes c.unpin.ensures.step.view c.sweep.ensures.changes in
    let word = word_after c.args.hand.now.seated c.pin.new.hand.seated c.unbind.new.hand.seated c.sweep.new.hand.seated c.args.h c.pin.ensures.trail.stays c.unbind.ensures.trail.stays makes.stays
    (pins_handles c.args.hand.now.seated c.pin.new.hand.seated (Unload c.args.h) c.pin.ensures.step) after c.unbind.ensures.word in
    word

pub returns-clause-unloaded : goal.returns-clause-unloaded
returns-clause-unloaded c =
    let old = view_of c.args.hand.now.seated in
    let new = view_of c.sweep.new.hand.seated in
    let makes = unloads c.args.h (key_of c.args.table.now) _ _ _ _ _ _ _ c.sweep.result
    c.pin.ensures.trail c.unbind.ensures.trail c.purge_cells.ensures.trail c.purge_buckets.ensures.trail c.unpin.ensures.trail c.sweep.ensures.trail in
    let after = handles_after (view_of c.unbind.new.hand.seated) (view_of c.purge_cells.new.hand.seated) (view_of c.purge_buckets.new.hand.seated) (view_of c.unpin.new.hand.seated) (view_of c.sweep.new.hand.seated) c.sweep.result
    c.purge_cells.ensures.goes c.purge_buckets.ensures.goes c.unpin.ensures.step.view c.sweep.ensures.changes in
    let word = word_after c.args.hand.now.seated c.pin.new.hand.seated c.unbind.new.hand.seated c.sweep.new.hand.seated c.args.h c.pin.ensures.trail.stays c.unbind.ensures.trail.stays makes.stays
    (pins_handles c.args.hand.now.seated c.pin.new.hand.seated (Unload c.args.h) c.pin.ensures.step) after c.unbind.ensures.word in
    is_unloaded new c.args.h (own_row_word old c.args.h.row).number (own_on old new makes.stays.key makes.stays.who c.args.h.row c.requires.owned.row) word

pub returns-clause-owned : goal.returns-clause-owned
returns-clause-owned c =
    let old = view_of c.args.hand.now.seated in
    let new = view_of c.sweep.new.hand.seated in
    let makes = unloads c.args.h (key_of c.args.table.now) _ _ _ _ _ _ _ c.sweep.result
    c.pin.ensures.trail c.unbind.ensures.trail c.purge_cells.ensures.trail c.purge_buckets.ensures.trail c.unpin.ensures.trail c.sweep.ensures.trail in
    let after = handles_after (view_of c.unbind.new.hand.seated) (view_of c.purge_cells.new.hand.seated) (view_of c.purge_buckets.new.hand.seated) (view_of c.unpin.new.hand.seated) (view_of c.sweep.new.hand.seated) c.sweep.result
    c.purge_cells.ensures.goes c.purge_buckets.ensures.goes c.unpin.ensures.step.view c.sweep.ensures.changes in
    let word = word_after c.args.hand.now.seated c.pin.new.hand.seated c.unbind.new.hand.seated c.sweep.new.hand.seated c.args.h c.pin.ensures.trail.stays c.unbind.ensures.trail.stays makes.stays
    (pins_handles c.args.hand.now.seated c.pin.new.hand.seated (Unload c.args.h) c.pin.ensures.step) after c.unbind.ensures.word in
    owns_others old new c.args.h makes.stays.key makes.stays.who c.requires.owned.row c.requires.owned.live
    (after ∙ lets_go c.args.hand.now.seated c.pin.new.hand.seated c.unbind.new.hand.seated (Unload c.args.h) c.args.h c.pin.ensures.step c.unbind.ensures.step) word
