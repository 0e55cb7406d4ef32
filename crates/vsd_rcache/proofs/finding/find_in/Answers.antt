use Rattle.std.proofs.Common.{None, sym, ◌∙◌, subst}
use Rattle.vsd_rule.specs.declared.view.View.{View}
use Rattle.vsd_rule.specs.RowSteps.{nothing_known, with_handle}
use Rattle.vsd_table.specs.Seating.{view_of}
use Rattle.vsd_rows.specs.Hands.{HasSeen}
use Rattle.vsd_rows.proofs.Protecting.{handle_seen, seen_protected}
use Rattle.vsd_rcache.proofs.Pairs.{finds_on, handle_finds, token_finds, target_finds, finds_pair, finds_other, pair_seen, pair_told, pair_other}
use Rattle.vsd_rcache.proofs.finding.find_in.Goals as goal

pub row_handle-g-requires-clause-protected : goal.row_handle-g-requires-clause-protected
row_handle-g-requires-clause-protected c = seen_protected (view_of c.args.hand.now.seated) c.args.row None nothing_known c.requires.named

pub row_token-t-requires-clause-protected : goal.row_token-t-requires-clause-protected
row_token-t-requires-clause-protected c =
    let g = c.row_handle-g.result in
    seen_protected (view_of c.row_handle-g.new.hand.seated) c.args.row None (with_handle g nothing_known)
    (subst (λ (w : View). HasSeen w c.args.row None (with_handle g nothing_known)) (sym c.row_handle-g.ensures.step.view)
    (handle_seen (view_of c.args.hand.now.seated) c.args.row None nothing_known g c.requires.named))

pub row_target-requires-clause-protected : goal.row_target-requires-clause-protected
row_target-requires-clause-protected c =
    seen_protected _ c.args.row None _ (pair_seen (view_of c.args.hand.now.seated) (view_of c.row_handle-g.new.hand.seated) (view_of c.row_token-t.new.hand.seated) c.args.row c.row_handle-g.result c.row_token-t.result
    c.requires.named c.row_handle-g.ensures.step.view c.row_token-t.ensures.step.view)

pub returns-then-is_pair-clause-trail : goal.returns-then-is_pair-clause-trail
returns-then-is_pair-clause-trail c =
    finds_pair c.args.row c.args.token c.args.h _ _ _ _ c.row_handle-g.result c.row_token-t.result c.row_target.result
    c.row_handle-g.ensures.trail c.row_token-t.ensures.trail c.row_target.ensures.trail (sym c.is_pair.ensures ∙ c.if-is_pair.true)

pub returns-then-is_pair-clause-changes : goal.returns-then-is_pair-clause-changes
returns-then-is_pair-clause-changes c =
    let u = view_of c.args.hand.now.seated in
    let v = view_of c.row_handle-g.new.hand.seated in
    let w = view_of c.row_token-t.new.hand.seated in
    let x = view_of c.row_target.new.hand.seated in
    finds_on u w x (finds_on u v w (handle_finds u v c.args.row c.row_handle-g.result c.row_handle-g.ensures.step.view) (token_finds v w c.args.row c.row_token-t.result c.row_token-t.ensures.step.view))
    (target_finds w x c.args.row c.row_target.result c.row_target.ensures.step.view)

pub returns-then-is_pair-clause-found : goal.returns-then-is_pair-clause-found
returns-then-is_pair-clause-found c =
    pair_told (view_of c.args.hand.now.seated) (view_of c.row_handle-g.new.hand.seated) (view_of c.row_token-t.new.hand.seated) (view_of c.row_target.new.hand.seated)
    c.args.row c.row_handle-g.result c.args.h c.row_token-t.result c.args.token c.row_target.result
    c.requires.named c.row_handle-g.ensures.step.view c.row_token-t.ensures.step.view c.row_target.ensures.step.view (sym c.is_pair.ensures ∙ c.if-is_pair.true)

pub returns-else-is_pair-clause-trail : goal.returns-else-is_pair-clause-trail
returns-else-is_pair-clause-trail c =
    finds_other c.args.row c.args.token c.args.h _ _ _ c.row_handle-g.result c.row_token-t.result
    c.row_handle-g.ensures.trail c.row_token-t.ensures.trail (sym c.is_pair.ensures ∙ c.if-is_pair.false)

pub returns-else-is_pair-clause-changes : goal.returns-else-is_pair-clause-changes
returns-else-is_pair-clause-changes c =
    let u = view_of c.args.hand.now.seated in
    let v = view_of c.row_handle-g.new.hand.seated in
    let w = view_of c.row_token-t.new.hand.seated in
    finds_on u v w (handle_finds u v c.args.row c.row_handle-g.result c.row_handle-g.ensures.step.view) (token_finds v w c.args.row c.row_token-t.result c.row_token-t.ensures.step.view)

pub returns-else-is_pair-clause-found : goal.returns-else-is_pair-clause-found
returns-else-is_pair-clause-found c = pair_other c.row_handle-g.result c.args.h c.row_token-t.result c.args.token (sym c.is_pair.ensures ∙ c.if-is_pair.false)
