use Rattle.std.proofs.Common.{length, sym, ap, ◌∙◌}
use Rattle.vsd_slots.proofs.RaggedLaws.{cut-length}
use Rattle.vsd_slots.proofs.ragged.Ragged.count.Goals as goal

pub returns : goal.returns
returns c = ap length c.as_slice.ensures.value ∙ sym (cut-length c.self.inside.starts.items c.self.inside.entries.items) ∙ ap length c.self.view_is
