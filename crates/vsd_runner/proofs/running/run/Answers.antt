use Rattle.std.proofs.Common.{ℕ, ◌≡◌, ◌<◌, subst, arith}
use Rattle.vsd_runner.specs.Outcomes.{ReadCounted, WriteCounted}
use Rattle.vsd_runner.proofs.Runs.{headline_at, ends_as_defined, room_suffices, unless_fault, read_told, write_told}
use Rattle.vsd_runner.proofs.running.run.Goals as goal

-- a count that rose isn't the same
risen : (old new : ℕ) → old < new → new ≡ old → ⊥
risen old new more same = absurd (omega arith)

pub returns-clause-done : goal.returns-clause-done
returns-clause-done g c = headline_at _ _ _ _ _ _ _ _ _ c.status_of.ensures.outcome

pub returns-clause-read_fault_must : goal.returns-clause-read_fault_must
returns-clause-read_fault_must g c more = read_told _ _ (risen _ _ more) _ c.status_of.ensures.reads

pub returns-clause-write_fault_must : goal.returns-clause-write_fault_must
returns-clause-write_fault_must g c more = write_told _ _ (risen _ _ more) _ c.status_of.ensures.writes

pub returns-clause-as_defined : goal.returns-clause-as_defined
returns-clause-as_defined g c text status bytes is defined =
    ends_as_defined _ _ _ _ _ _ _ _ text status bytes is defined _ c.status_of.ensures.outcome

pub returns-clause-complete : goal.returns-clause-complete
returns-clause-complete g c text status bytes is defined no_read no_write =
    let reads = c.status_of.ensures.reads in
    let writes = c.status_of.ensures.writes in
    unless_fault _ _ status bytes _ (ends_as_defined _ _ _ _ _ _ _ _ text status bytes is defined _ c.status_of.ensures.outcome)
    (λ fault. no_read (subst (ReadCounted _ _) fault reads)) (λ fault. no_write (subst (WriteCounted _ _) fault writes))

pub returns-clause-sure_sink : goal.returns-clause-sure_sink
returns-clause-sure_sink g c text status bytes size is defined room fits =
    room_suffices _ _ _ _ _ _ _ _ text status bytes is defined (λ lacks. let less = lacks size room in absurd (omega arith)) _
    c.status_of.ensures.outcome
