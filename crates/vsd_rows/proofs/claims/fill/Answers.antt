use Rattle.std.proofs.Common.{ℕ, ◌∙◌, sym, ap, subst}
use Rattle.vsd_rule.specs.declared.view.View.{View}
use Rattle.vsd_rule.specs.RowSteps.{after_set_token, after_set_target}
use Rattle.vsd_rule.specs.RowFacts.{IsPrivate, IsFilled}
use Rattle.vsd_table.specs.Seating.{view_of}
use Rattle.vsd_trails.specs.RowTrails.{filling}
use Rattle.vsd_rows.proofs.Makes.{reads, then_makes}
use Rattle.vsd_rows.proofs.StepsMade.{set_handle_made, set_token_made, set_target_made}
use Rattle.vsd_rows.proofs.Filling.{handle_stored, token_stored, is_filled}
use Rattle.vsd_rows.proofs.claims.fill.Goals as goal

pub set_token-requires-clause-private : goal.set_token-requires-clause-private
set_token-requires-clause-private c = subst (λ (v : View). IsPrivate v c.args.row) (sym c.set_handle.ensures.step.view) (handle_stored (view_of c.args.hand.now.seated) c.args.row c.args.h)

pub set_target-requires-clause-private : goal.set_target-requires-clause-private
set_target-requires-clause-private c = subst (λ (v : View). IsPrivate v c.args.row) (sym c.set_token.ensures.step.view) (token_stored (view_of c.set_handle.new.self) c.args.row c.args.token)

pub returns-clause-trail : goal.returns-clause-trail
unfolding filling
returns-clause-trail c =
    then_makes (reads (λ (word : ℕ). tt) (set_handle_made _ _ _ _ c.set_handle.ensures.step))
    (then_makes (reads (λ (word : ℕ). tt) (set_token_made _ _ _ _ c.set_token.ensures.step))
    (reads (λ (word : ℕ). tt) (set_target_made _ _ _ _ c.set_target.ensures.step)))

pub returns-clause-filled : goal.returns-clause-filled
returns-clause-filled c =
    let view = c.set_target.ensures.step.view
    ∙ ap (λ (v : View). after_set_target v c.args.row c.args.target) (c.set_token.ensures.step.view
    ∙ ap (λ (v : View). after_set_token v c.args.row c.args.token) c.set_handle.ensures.step.view) in
    subst (λ (v : View). IsFilled v c.args.row c.args.h c.args.token c.args.target) (sym view)
    (is_filled (view_of c.args.hand.now.seated) c.args.row c.args.h c.args.token c.args.target c.requires.evidence)
