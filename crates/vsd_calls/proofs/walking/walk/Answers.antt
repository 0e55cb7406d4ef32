use Rattle.std.proofs.Common.{◌≡◌, Err, sym, rules}
use Rattle.vsd_table.specs.Seating.{view_of, key_of}
use Rattle.vsd_rows.proofs.Makes.{answers}
use Rattle.vsd_rows.proofs.Leaving.{evidence_stays}
use Rattle.vsd_calls.proofs.Walks.{sure_ok, err_not_ok, walks, walks_not, asked_evidence, entry_is, type_stays, stays_then}
use Rattle.vsd_calls.proofs.walking.walk.Goals as goal

pub returns-in_err-number-clause-trail : goal.returns-in_err-number-clause-trail
returns-in_err-number-clause-trail g c =
    let u = c.in_err-number.field-0.0 in
    let is : c.from_residual.result ≡ Err u = search rules in
    answers (sym is) (walks_not (key_of c.args.table.now) c.args.site c.args.h c.args.cell c.args.seen u _ _ c.in_err-number.ensures.trail)

pub returns-in_err-number-clause-stays : goal.returns-in_err-number-clause-stays
returns-in_err-number-clause-stays g c = type_stays c.args.hand.now.seated c.type_of.new.hand.seated c.args.h c.type_of.result c.type_of.ensures.loads

pub cache-requires-clause-evidence : goal.cache-requires-clause-evidence
cache-requires-clause-evidence g c =
    let k = key_of c.args.table.now in
    asked_evidence (view_of c.type_of.new.hand.seated) k c.args.h c.in_ok-number.number c.args.token c.select-target.result c.type_of.ensures.seat.key c.in_ok-number.ensures.learnt c.requires.token_in
    (entry_is k (g.R.Resolver.sel c.args.resolver.now) (g.R.Resolver.tokens c.args.resolver.now) c.in_ok-number.number c.args.token c.select-target.result c.requires.sel c.requires.tokens c.select-target.ensures)

pub install-requires-clause-evidence : goal.install-requires-clause-evidence
install-requires-clause-evidence g c =
    let k = key_of c.args.table.now in
    evidence_stays c.type_of.new.hand.seated c.cache.new.hand.seated c.args.h c.args.token c.select-target.result c.cache.ensures.trail.stays
    (asked_evidence (view_of c.type_of.new.hand.seated) k c.args.h c.in_ok-number.number c.args.token c.select-target.result c.type_of.ensures.seat.key c.in_ok-number.ensures.learnt c.requires.token_in
    (entry_is k (g.R.Resolver.sel c.args.resolver.now) (g.R.Resolver.tokens c.args.resolver.now) c.in_ok-number.number c.args.token c.select-target.result c.requires.sel c.requires.tokens c.select-target.ensures))

pub returns-clause-trail : goal.returns-clause-trail
returns-clause-trail g c =
    let k = key_of c.args.table.now in
    walks k c.args.site c.args.h c.args.cell c.args.seen c.in_ok-number.number c.args.token c.select-target.result _ _ _ _ c.requires.token
    (entry_is k (g.R.Resolver.sel c.args.resolver.now) (g.R.Resolver.tokens c.args.resolver.now) c.in_ok-number.number c.args.token c.select-target.result c.requires.sel c.requires.tokens c.select-target.ensures)
    c.in_ok-number.ensures.trail c.cache.ensures.trail c.install.ensures.trail

pub returns-clause-evidence : goal.returns-clause-evidence
returns-clause-evidence g c =
    let k = key_of c.args.table.now in
    evidence_stays c.cache.new.hand.seated c.install.new.hand.seated c.args.h c.args.token c.select-target.result c.install.ensures.trail.stays
    (evidence_stays c.type_of.new.hand.seated c.cache.new.hand.seated c.args.h c.args.token c.select-target.result c.cache.ensures.trail.stays
    (asked_evidence (view_of c.type_of.new.hand.seated) k c.args.h c.in_ok-number.number c.args.token c.select-target.result c.type_of.ensures.seat.key c.in_ok-number.ensures.learnt c.requires.token_in
    (entry_is k (g.R.Resolver.sel c.args.resolver.now) (g.R.Resolver.tokens c.args.resolver.now) c.in_ok-number.number c.args.token c.select-target.result c.requires.sel c.requires.tokens c.select-target.ensures)))

pub returns-clause-stays : goal.returns-clause-stays
returns-clause-stays g c =
    let old = view_of c.args.hand.now.seated in
    let one = view_of c.type_of.new.hand.seated in
    let two = view_of c.cache.new.hand.seated in
    stays_then old two (view_of c.install.new.hand.seated) (stays_then old one two (type_stays c.args.hand.now.seated c.type_of.new.hand.seated c.args.h c.type_of.result c.type_of.ensures.loads) c.cache.ensures.goes) c.install.ensures.goes

pub returns-in_err-number-clause-complete : goal.returns-in_err-number-clause-complete
returns-in_err-number-clause-complete g c = λ sure.
    absurd (err_not_ok c.type_of.result c.in_err-number.field-0.0 c.in_err-number.was
    (sure_ok (view_of c.args.hand.now.seated) (key_of c.args.table.now) c.args.h c.type_of.result c.requires.seat.key c.type_of.ensures.own c.type_of.ensures.host sure))
