use Rattle.std.proofs.Common.{List, slice_get, ◌∙◌, ap}
use Rattle.vsd_rows.specs.declared.limbo.Limbo.{Limbo}
use Rattle.vsd_rows.proofs.Sweeping.{has_oldest}
use Rattle.vsd_rows.proofs.retiring.oldest.Goals as goal

pub returns : goal.returns
returns c = has_oldest c.args.hand.now.limbo.items c.copied.result (c.copied.ensures ∙ (c.first.ensures.value ∙ ap (λ (l : List Limbo). slice_get l 0) c.deref.ensures.0))
