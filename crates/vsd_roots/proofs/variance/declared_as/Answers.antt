use Rattle.std.proofs.Common.{ap, ◌∙◌}
use Rattle.std.specs.List.{slice_get}
use Rattle.vsd_roots.proofs.VarianceLemmas.{place_of-get}
use Rattle.vsd_roots.proofs.variance.declared_as.Goals as goal

pub returns : goal.returns
returns c =
    c.at.ensures ∙ ap (slice_get c.args.h.now.decls.now) (c.requires.settled.numbered c.args.name c.requires.named) ∙ place_of-get c.args.h.now.decls.now c.args.name
