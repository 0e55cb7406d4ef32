use Rattle.vsd_table.specs.Seating.{view_of}
use Rattle.vsd_rows.proofs.Leaving.{goes_on}
use Rattle.vsd_unloads.proofs.PartsMade.{bucket_purged, bucket_passed}
use Rattle.vsd_unloads.proofs.Leaving.{look_goes}
use Rattle.vsd_unloads.proofs.buckets.purge_bucket.Goals as goal

pub returns-in-Some-clause-trail : goal.returns-in-Some-clause-trail
returns-in-Some-clause-trail c = bucket_purged c.args.h c.args.bucket c.in-Some.row c.look.result _ _ _ c.in-Some.is c.look.ensures.trail c.purge_named.ensures.trail

pub returns-in-Some-clause-goes : goal.returns-in-Some-clause-goes
returns-in-Some-clause-goes c =
    let old = view_of c.args.hand.now.seated in
    let one = view_of c.look.new.hand.seated in
    goes_on old one (view_of c.purge_named.new.hand.seated) (look_goes old one c.args.bucket c.look.result c.look.ensures.step.view) c.purge_named.ensures.goes

pub returns-in_default-clause-trail : goal.returns-in_default-clause-trail
returns-in_default-clause-trail c = bucket_passed c.args.h c.args.bucket c.look.result _ _ c.in_default.is c.look.ensures.trail

pub returns-in_default-clause-goes : goal.returns-in_default-clause-goes
returns-in_default-clause-goes c = look_goes (view_of c.args.hand.now.seated) (view_of c.look.new.hand.seated) c.args.bucket c.look.result c.look.ensures.step.view
