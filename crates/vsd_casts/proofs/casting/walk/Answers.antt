use Rattle.std.proofs.Common.{◌≡◌, ◌+◌, ◌*◌, Err, sym, rules}
use Rattle.vsd_table.specs.Seating.{view_of, key_of}
use Rattle.vsd_rows.proofs.Makes.{answers, knows_on}
use Rattle.vsd_ccache.proofs.Writing.{cast_evidence_stays}
use Rattle.vsd_casts.proofs.CastsMade.{walks_no_source, walks_no_target, walks, writes_go}
use Rattle.vsd_casts.proofs.Walked.{given_is, answer_is, asked_evidence, only_source, only_target, world_is}
use Rattle.vsd_casts.proofs.casting.walk.Goals as goal

pub returns-in_err-number-clause-trail : goal.returns-in_err-number-clause-trail
returns-in_err-number-clause-trail g c =
    let u = c.in_err-number.field-0.0 in
    let is : c.from_residual.result ≡ Err u = search rules in
    answers (sym is) (walks_no_source (key_of c.args.table.now) c.args.source c.args.target c.args.miss u _ _ c.in_err-number.ensures.trail)

pub returns-in_err-other-clause-trail : goal.returns-in_err-other-clause-trail
returns-in_err-other-clause-trail g c =
    let u = c.in_err-other.field-0.0 in
    let is : c.from_residual-in_err-other.result ≡ Err u = search rules in
    answers (sym is) (walks_no_target (key_of c.args.table.now) c.args.source c.args.target c.args.miss c.in_ok-number.number u _ _ _ c.in_ok-number.ensures.trail c.in_err-other.ensures.trail)

pub put-requires-clause-evidence : goal.put-requires-clause-evidence
put-requires-clause-evidence g c =
    let k = key_of c.args.table.now in
    let n = c.in_ok-number.number in
    let o = c.in_ok-other.other in
    let r = c.args.resolver.now in
    let cmp = g.R.Resolver.cmp r in
    let types = g.R.Resolver.types r in
    let is = answer_is k cmp types n o c.compat-yes.result c.requires.cmp c.requires.types c.compat-yes.ensures (g.met.R.Resolver.answers_are_bits r (n * types + o)) in
    let two = c.type_of-2.new.hand.seated in
    let known = knows_on (view_of c.type_of.new.hand.seated).handles (view_of two).handles c.args.source n c.in_ok-other.ensures.trail.stays.bindings c.in_ok-number.ensures.learnt in
    let evidence = asked_evidence (view_of two) k c.args.source c.args.target n o c.compat-yes.result c.in_ok-other.ensures.seat.key known c.in_ok-other.ensures.learnt is in
    evidence

pub returns-clause-trail : goal.returns-clause-trail
returns-clause-trail g c =
    let k = key_of c.args.table.now in
    let n = c.in_ok-number.number in
    let o = c.in_ok-other.other in
    let r = c.args.resolver.now in
    let cmp = g.R.Resolver.cmp r in
    let types = g.R.Resolver.types r in
    walks k c.args.source c.args.target c.args.miss n o c.compat-yes.result c.put.result _ _ _ _
    (given_is k cmp types n o c.compat-yes.result c.requires.cmp c.requires.types c.compat-yes.ensures) c.in_ok-number.ensures.trail c.in_ok-other.ensures.trail c.put.ensures.trail

pub returns-clause-evidence : goal.returns-clause-evidence
returns-clause-evidence g c =
    let k = key_of c.args.table.now in
    let n = c.in_ok-number.number in
    let o = c.in_ok-other.other in
    let r = c.args.resolver.now in
    let cmp = g.R.Resolver.cmp r in
    let types = g.R.Resolver.types r in
    let is = answer_is k cmp types n o c.compat-yes.result c.requires.cmp c.requires.types c.compat-yes.ensures (g.met.R.Resolver.answers_are_bits r (n * types + o)) in
    let two = c.type_of-2.new.hand.seated in
    let known = knows_on (view_of c.type_of.new.hand.seated).handles (view_of two).handles c.args.source n c.in_ok-other.ensures.trail.stays.bindings c.in_ok-number.ensures.learnt in
    let evidence = asked_evidence (view_of two) k c.args.source c.args.target n o c.compat-yes.result c.in_ok-other.ensures.seat.key known c.in_ok-other.ensures.learnt is in
    cast_evidence_stays two c.put.new.hand.seated c.args.source c.args.target c.compat-yes.result c.put.ensures.trail.stays evidence

pub returns-clause-world : goal.returns-clause-world
returns-clause-world g c =
    let k = key_of c.args.table.now in
    let n = c.in_ok-number.number in
    let o = c.in_ok-other.other in
    let r = c.args.resolver.now in
    let cmp = g.R.Resolver.cmp r in
    let types = g.R.Resolver.types r in
    let is = answer_is k cmp types n o c.compat-yes.result c.requires.cmp c.requires.types c.compat-yes.ensures (g.met.R.Resolver.answers_are_bits r (n * types + o)) in
    let old = c.args.hand.now.seated in
    let one = c.type_of.new.hand.seated in
    let two = c.type_of-2.new.hand.seated in
    let new = c.put.new.hand.seated in
    let goes = writes_go (view_of two) (view_of new) c.put.ensures.changes in
    let first = only_source old one two c.args.source c.args.target n o c.in_ok-number.ensures.loads c.in_ok-other.ensures.loads c.in_ok-number.ensures.known c.in_ok-other.ensures.known c.in_ok-number.ensures.learnt in
    let second = only_target old one two c.args.source c.args.target n o c.in_ok-number.ensures.loads c.in_ok-other.ensures.loads c.in_ok-number.ensures.known c.in_ok-other.ensures.known c.in_ok-number.ensures.learnt in
    world_is (view_of two) (view_of new) k c.args.source c.args.target n o c.compat-yes.result goes.handles first second is
