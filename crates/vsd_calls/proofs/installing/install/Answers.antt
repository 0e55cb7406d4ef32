use Rattle.std.proofs.Common.{None, Some, sym, ◌∙◌}
use Rattle.vsd_table.specs.Seating.{view_of, key_of}
use Rattle.vsd_rows.proofs.Makes.{answers}
use Rattle.vsd_rows.proofs.Leaving.{goes_not, goes_on, claims_go, evidence_stays}
use Rattle.vsd_calls.proofs.PartsMade.{installs_not, installs_none, installs_given}
use Rattle.vsd_calls.proofs.installing.install.Goals as goal

pub install_row-requires-clause-evidence : goal.install_row-requires-clause-evidence
install_row-requires-clause-evidence c = evidence_stays c.args.hand.now.seated c.claim.new.hand.seated c.args.h c.args.token c.args.target c.claim.ensures.trail.stays c.requires.evidence

pub returns-then-not-is_lookup-clause-trail : goal.returns-then-not-is_lookup-clause-trail
returns-then-not-is_lookup-clause-trail c =
    installs_not (key_of c.args.table.now) c.args.site c.args.h c.args.target c.args.hand.now.seated c.args.cell (λ is. let clash = sym (c.is_lookup.ensures.1 is) ∙ c.if-not-is_lookup.true in cc)

pub returns-then-not-is_lookup-clause-goes : goal.returns-then-not-is_lookup-clause-goes
returns-then-not-is_lookup-clause-goes c = goes_not (view_of c.args.hand.now.seated)

pub returns-in_default-clause-trail : goal.returns-in_default-clause-trail
returns-in_default-clause-trail c =
    installs_given (key_of c.args.table.now) c.args.site c.args.h c.args.target c.args.hand.now.seated _ _ c.args.cell None (c.is_lookup.ensures.0 c.if-not-is_lookup.false) (answers c.in_default.is c.claim.ensures.trail)
    (installs_none (key_of c.args.table.now) c.args.site c.args.h c.args.target _)

pub returns-in_default-clause-goes : goal.returns-in_default-clause-goes
returns-in_default-clause-goes c = claims_go (view_of c.args.hand.now.seated) (view_of c.claim.new.hand.seated) c.claim.result c.claim.ensures.changes

pub returns-clause-trail : goal.returns-clause-trail
returns-clause-trail c =
    installs_given (key_of c.args.table.now) c.args.site c.args.h c.args.target c.args.hand.now.seated _ _ c.args.cell (Some c.in-Some.row) (c.is_lookup.ensures.0 c.if-not-is_lookup.false) (answers c.in-Some.is c.claim.ensures.trail) c.install_row.ensures.trail

pub returns-clause-goes : goal.returns-clause-goes
returns-clause-goes c =
    let old = view_of c.args.hand.now.seated in
    let one = view_of c.claim.new.hand.seated in
    goes_on old one (view_of c.install_row.new.hand.seated) (claims_go old one c.claim.result c.claim.ensures.changes) c.install_row.ensures.goes
