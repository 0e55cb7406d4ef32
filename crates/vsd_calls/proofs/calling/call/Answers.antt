use Rattle.std.proofs.Common.{◌≡◌, ◌<◌, ℕ, sym, ◌∙◌, ap, subst}
use Rattle.vsd_rule.specs.declared.handle_view.HandleView.{HandleView}
use Rattle.vsd_rule.specs.declared.step.Doing.TheVariants.{Call}
use Rattle.vsd_rule.specs.declared.view.View.{View}
use Rattle.vsd_rule.specs.Lists.{target_of}
use Rattle.vsd_rule.specs.Facts.{Knows}
use Rattle.vsd_rule.specs.Evidence.{HasEvidence}
use Rattle.vsd_calls.proofs.Walks.{sure_on}
use Rattle.vsd_table.specs.Seating.{view_of, key_of}
use Rattle.vsd_trails.specs.declared.answers.Answer.{Answer}
use Rattle.vsd_rows.proofs.Leaving.{evidence_stays}
use Rattle.vsd_calls.proofs.Logging.{logs_call}
use Rattle.vsd_calls.proofs.Showing.{shows_path, shows_bucket, shows_cell, shows_sweep}
use Rattle.vsd_calls.proofs.CallsMade.{calls, cell_named, sweeps_go, reads_go, pins_owned, told_on, agrees_on}
use Rattle.vsd_calls.proofs.calling.call.Goals as goal

pub answer-answer-requires-clause-named : goal.answer-answer-requires-clause-named
answer-answer-requires-clause-named g c = λ row is. cell_named (view_of c.pin.new.hand.seated) (view_of c.read-cell.new.hand.seated) c.args.site c.read-cell.result row c.pin.ensures.pinned c.read-cell.ensures.step.view is

pub answer-answer-requires-clause-pinned : goal.answer-answer-requires-clause-pinned
answer-answer-requires-clause-pinned g c =
    let goes = reads_go (view_of c.pin.new.hand.seated) (view_of c.read-cell.new.hand.seated) c.args.site c.read-cell.result c.read-cell.ensures.step.view in
    subst (λ (n : ℕ). 0 < n) (sym goes.pinned) c.pin.ensures.pinned

pub unpin-requires-clause-pinned : goal.unpin-requires-clause-pinned
unpin-requires-clause-pinned g c =
    let goes = reads_go (view_of c.pin.new.hand.seated) (view_of c.read-cell.new.hand.seated) c.args.site c.read-cell.result c.read-cell.ensures.step.view in
    subst (λ (n : ℕ). 0 < n) (sym (c.answer-answer.ensures.stays.pinned ∙ goes.pinned)) c.pin.ensures.pinned

pub sweep-requires-clause-unpinned : goal.sweep-requires-clause-unpinned
sweep-requires-clause-unpinned g c = ap (λ (v : View). v.rows.pinned) c.unpin.ensures.step.view

pub returns-clause-trail : goal.returns-clause-trail
returns-clause-trail g c =
    calls (key_of c.args.table.now) c.args.site c.args.h _ _ _ _ _ _ c.read-cell.result c.answer-answer.result c.sweep.result
    c.pin.ensures.trail c.read-cell.ensures.trail c.answer-answer.ensures.trail c.unpin.ensures.trail c.sweep.ensures.trail

pub returns-clause-evidence : goal.returns-clause-evidence
returns-clause-evidence g c =
    told_on (λ (a : Answer). HasEvidence (view_of c.answer-answer.new.hand.seated) c.args.h c.args.token a.target) (λ (a : Answer). HasEvidence (view_of c.sweep.new.hand.seated) c.args.h c.args.token a.target) c.answer-answer.result
    (λ a told. evidence_stays c.unpin.new.hand.seated c.sweep.new.hand.seated c.args.h c.args.token a.target c.sweep.ensures.trail.stays
    (evidence_stays c.answer-answer.new.hand.seated c.unpin.new.hand.seated c.args.h c.args.token a.target c.unpin.ensures.trail.stays told)) c.answer-answer.ensures.evidence

pub returns-clause-world : goal.returns-clause-world
returns-clause-world g c =
    let k = key_of c.args.table.now in
    let four = view_of c.unpin.new.hand.seated in
    let new = view_of c.sweep.new.hand.seated in
    told_on (λ (a : Answer). HasEvidence (view_of c.answer-answer.new.hand.seated) c.args.h c.args.token a.target)
    (λ (a : Answer). (number : ℕ) → Knows new.handles c.args.h number → a.target ≡ target_of k number c.args.token) c.answer-answer.result
    (λ a told number knows. agrees_on k four new c.args.h c.args.token a.target number c.unpin.ensures.agree c.unpin.ensures.seat.key (sweeps_go four new c.sweep.result c.sweep.ensures.changes)
    (evidence_stays c.answer-answer.new.hand.seated c.unpin.new.hand.seated c.args.h c.args.token a.target c.unpin.ensures.trail.stays told) knows) c.answer-answer.ensures.evidence

pub returns-clause-unpinned : goal.returns-clause-unpinned
returns-clause-unpinned g c =
    let goes = sweeps_go (view_of c.unpin.new.hand.seated) (view_of c.sweep.new.hand.seated) c.sweep.result c.sweep.ensures.changes in
    goes.pinned ∙ ap (λ (v : View). v.rows.pinned) c.unpin.ensures.step.view

pub returns-clause-owned : goal.returns-clause-owned
returns-clause-owned g c =
    let swept = sweeps_go (view_of c.unpin.new.hand.seated) (view_of c.sweep.new.hand.seated) c.sweep.result c.sweep.ensures.changes in
    let loaded = reads_go (view_of c.pin.new.hand.seated) (view_of c.read-cell.new.hand.seated) c.args.site c.read-cell.result c.read-cell.ensures.step.view in
    ap (λ (n : HandleView). n.owned) swept.handles
    ∙ (ap (λ (v : View). v.handles.owned) c.unpin.ensures.step.view
    ∙ (c.answer-answer.ensures.stays.owned
    ∙ (ap (λ (n : HandleView). n.owned) loaded.handles
    ∙ pins_owned c.args.hand.now.seated c.pin.new.hand.seated (Call c.args.site c.args.h) c.pin.ensures.step)))

pub returns-clause-complete : goal.returns-clause-complete
returns-clause-complete g c = λ sure.
    let old = view_of c.args.hand.now.seated in
    let one = view_of c.pin.new.hand.seated in
    let two = view_of c.read-cell.new.hand.seated in
    let first = c.pin.ensures.trail.stays in
    let second = c.read-cell.ensures.trail.stays in
    let loaded = reads_go one two c.args.site c.read-cell.result c.read-cell.ensures.step.view in
    c.answer-answer.ensures.complete
    (sure_on one two c.args.h second.key second.who (ap (λ (n : HandleView). n.owned) loaded.handles)
    (sure_on old one c.args.h first.key first.who (pins_owned c.args.hand.now.seated c.pin.new.hand.seated (Call c.args.site c.args.h) c.pin.ensures.step) sure))

pub returns-clause-logged : goal.returns-clause-logged
returns-clause-logged g c =
    logs_call (key_of c.args.table.now) c.args.site c.args.h c.args.hand.now.seated c.sweep.new.hand.seated c.answer-answer.result c.requires.seat.key
    (calls (key_of c.args.table.now) c.args.site c.args.h _ _ _ _ _ _ c.read-cell.result c.answer-answer.result c.sweep.result
    c.pin.ensures.trail c.read-cell.ensures.trail c.answer-answer.ensures.trail c.unpin.ensures.trail c.sweep.ensures.trail)

pub returns-clause-path : goal.returns-clause-path
returns-clause-path g c =
    shows_path (key_of c.args.table.now) c.args.site c.args.h c.args.hand.now.seated c.sweep.new.hand.seated c.answer-answer.result c.requires.seat.key
    (calls (key_of c.args.table.now) c.args.site c.args.h _ _ _ _ _ _ c.read-cell.result c.answer-answer.result c.sweep.result
    c.pin.ensures.trail c.read-cell.ensures.trail c.answer-answer.ensures.trail c.unpin.ensures.trail c.sweep.ensures.trail)

pub returns-clause-bucket : goal.returns-clause-bucket
returns-clause-bucket g c =
    shows_bucket (key_of c.args.table.now) c.args.site c.args.h c.args.hand.now.seated c.sweep.new.hand.seated c.answer-answer.result c.requires.seat.key
    (calls (key_of c.args.table.now) c.args.site c.args.h _ _ _ _ _ _ c.read-cell.result c.answer-answer.result c.sweep.result
    c.pin.ensures.trail c.read-cell.ensures.trail c.answer-answer.ensures.trail c.unpin.ensures.trail c.sweep.ensures.trail)

pub returns-clause-cell : goal.returns-clause-cell
returns-clause-cell g c =
    shows_cell (key_of c.args.table.now) c.args.site c.args.h c.args.hand.now.seated c.sweep.new.hand.seated c.answer-answer.result c.requires.seat.key
    (calls (key_of c.args.table.now) c.args.site c.args.h _ _ _ _ _ _ c.read-cell.result c.answer-answer.result c.sweep.result
    c.pin.ensures.trail c.read-cell.ensures.trail c.answer-answer.ensures.trail c.unpin.ensures.trail c.sweep.ensures.trail)

pub returns-clause-sweep : goal.returns-clause-sweep
returns-clause-sweep g c =
    shows_sweep (key_of c.args.table.now) c.args.site c.args.h c.args.hand.now.seated c.sweep.new.hand.seated c.answer-answer.result c.requires.seat.key
    (calls (key_of c.args.table.now) c.args.site c.args.h _ _ _ _ _ _ c.read-cell.result c.answer-answer.result c.sweep.result
    c.pin.ensures.trail c.read-cell.ensures.trail c.answer-answer.ensures.trail c.unpin.ensures.trail c.sweep.ensures.trail)
