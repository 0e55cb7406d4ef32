use Rattle.std.proofs.Common.{◌≡◌, sym, rules}
use Rattle.vsd_trails.specs.Words.{counted}
use Rattle.vsd_rows.proofs.Makes.{reads, answers}
use Rattle.vsd_rows.proofs.StepsMade.{count_made}
use Rattle.vsd_cells.proofs.counters.miss.Goals as goal

pub returns-clause-trail : goal.returns-clause-trail
returns-clause-trail c =
    let told : c.saturating_add.result ≡ counted c.count-found.result = search rules in
    answers (sym told) (reads counted (count_made _ _ _ _ c.count-found.ensures.step))
