use Rattle.std.proofs.Common.{ℕ, Bool, false, nat_eq, eq-eqb, ne_eqb, sym}
use Rattle.vsd_rule.specs.declared.step.Act.TheVariants.{Claim}
use Rattle.vsd_trails.specs.Programs.{done, when◌then◌else◌}
use Rattle.vsd_trails.specs.RowTrails.{trying, claiming_row}
use Rattle.vsd_rows.proofs.Makes.{reads, joined, answers, when_true, when_false, makes_none}
use Rattle.vsd_rows.proofs.StepsMade.{row_word_made, claim_made}
use Rattle.vsd_rows.proofs.Filling.{test_is}
use Rattle.vsd_rows.proofs.claims.claim_next.Goals as goal

pub returns-then-free-clause-trail : goal.returns-then-free-clause-trail
unfolding claiming_row
returns-then-free-clause-trail c =
    let row = c.args.hand.now.cursor in
    let found = c.row_word-free.result in
    joined (λ (free : Bool). when free then trying (Claim row) 0 else done false)
    (reads (λ (word : ℕ). nat_eq word 0) (row_word_made _ _ _ _ _ c.row_word-free.ensures.step))
    (when_true (nat_eq found 0) (trying (Claim row) 0) (done false) (eq-eqb found 0 c.if-free.true)
    (answers (test_is c.claim.result.0 c.claim.result.1 0 c.claim.ensures.won)
    (reads (λ (word : ℕ). nat_eq word 0) (claim_made _ _ _ _ c.claim.ensures.step))))

pub returns-else-free-clause-trail : goal.returns-else-free-clause-trail
unfolding claiming_row
returns-else-free-clause-trail c =
    let row = c.args.hand.now.cursor in
    let found = c.row_word-free.result in
    let fails = ne_eqb found 0 c.if-free.false in
    answers (sym fails) (joined (λ (free : Bool). when free then trying (Claim row) 0 else done false)
    (reads (λ (word : ℕ). nat_eq word 0) (row_word_made _ _ _ _ _ c.row_word-free.ensures.step))
    (when_false (nat_eq found 0) (trying (Claim row) 0) (done false) fails (makes_none _ false)))
