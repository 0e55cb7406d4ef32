use Rattle.std.proofs.Common.{◌+◌, ◌*◌, arith}
use Rattle.vsd_trails.specs.RowTrails.{typing, sweeping}
use Rattle.vsd_trails.specs.CallTrails.{calling}
use Rattle.vsd_trails.specs.CastTrails.{casting}
use Rattle.vsd_trails.specs.UnloadTrails.{binding, unloading}
use Rattle.vsd_trails.proofs.Runs.{is_bounded}
use Rattle.vsd_trails.proofs.Bounds.{at_sweeping}
use Rattle.vsd_trails.proofs.CallBounds.{at_calling, at_casting, at_binding, at_unloading}
use Rattle.vsd_trails.proofs.operations.takes_few_steps.Goals as goal

pub returns-clause-call : goal.returns-clause-call
returns-clause-call c k site h f trail answer = is_bounded (52 + k.sizes.callers) k f (calling k site h) trail answer (at_calling k site h).few

pub returns-clause-cast : goal.returns-clause-cast
returns-clause-cast c k source target f trail answer = is_bounded 39 k f (casting k source target) trail answer (at_casting k source target).few

pub returns-clause-load : goal.returns-clause-load
returns-clause-load c k h number f trail answer = is_bounded 1 k f (binding h number) trail answer (at_binding h number).few

pub returns-clause-unload : goal.returns-clause-unload
returns-clause-unload c k h f trail answer = is_bounded (5 + k.sizes.callers + 5 * (k.sizes.sites + k.sizes.buckets)) k f (unloading k h) trail answer (at_unloading k h).few

pub returns-clause-learn : goal.returns-clause-learn
returns-clause-learn c k h f trail answer = is_bounded 1 k f (typing h) trail answer (0, omega arith, λ word. tt)

pub returns-clause-sweep : goal.returns-clause-sweep
returns-clause-sweep c k f trail answer = is_bounded (k.sizes.callers + 1) k f (sweeping k) trail answer (at_sweeping k).few
