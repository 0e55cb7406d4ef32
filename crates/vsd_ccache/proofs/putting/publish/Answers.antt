use Rattle.std.proofs.Common.{refl}
use Rattle.vsd_table.specs.Seating.{view_of}
use Rattle.vsd_ccache.proofs.CastStepsMade.{set_source_made, set_cast_made}
use Rattle.vsd_ccache.proofs.Writing.{source_written, word_written, is_written, publishes, cast_evidence_stays}
use Rattle.vsd_ccache.proofs.putting.publish.Goals as goal

pub set_cast-requires-clause-writing : goal.set_cast-requires-clause-writing
set_cast-requires-clause-writing c =
    (_, source_written c.args.region c.args.row c.args.source c.args.word c.args.version (view_of c.args.hand.now.seated) (view_of c.set_source.new.self) c.requires.writing c.set_source.ensures.step.view)

pub set_cast-requires-clause-evidence : goal.set_cast-requires-clause-evidence
set_cast-requires-clause-evidence c = (
  c.args.source,
  cast_evidence_stays c.args.hand.now.seated c.set_source.new.self c.args.source c.args.word.target c.args.word.yes
      (set_source_made c.args.hand.now.seated c.set_source.new.self c.args.region c.args.row c.args.source c.set_source.ensures.step).stays c.requires.evidence,
)

pub publish-requires-clause-written : goal.publish-requires-clause-written
publish-requires-clause-written c =
    let old = c.args.hand.now.seated in
    let one = c.set_source.new.self in
    let two = c.set_cast.new.self in
    let first = source_written c.args.region c.args.row c.args.source c.args.word c.args.version (view_of old) (view_of one) c.requires.writing c.set_source.ensures.step.view in
    let second = word_written c.args.region c.args.row c.args.source c.args.word c.args.version (view_of one) (view_of two) first c.set_cast.ensures.step.view in
    let evidence = cast_evidence_stays one two c.args.source c.args.word.target c.args.word.yes (set_cast_made one two c.args.region c.args.row c.args.word c.set_cast.ensures.step).stays
    (cast_evidence_stays old one c.args.source c.args.word.target c.args.word.yes (set_source_made old one c.args.region c.args.row c.args.source c.set_source.ensures.step).stays c.requires.evidence) in
    is_written c.args.region c.args.row c.args.source c.args.word c.args.version (view_of two) _ refl second evidence

pub returns-clause-trail : goal.returns-clause-trail
returns-clause-trail c =
    publishes c.args.region c.args.row c.args.source c.args.word c.args.version c.args.hand.now.seated c.set_source.new.self c.set_cast.new.self c.publish.new.self
    c.set_source.ensures.step c.set_cast.ensures.step c.publish.ensures.step
