use Rattle.std.proofs.Common.{[], ◌∷◌}
use Rattle.vsd_slots.proofs.RaggedLaws.{more-cut, starts-grown}
use Rattle.vsd_slots.proofs.ragged.Ragged.push.Goals as goal

pub invariant_of-self-2 : goal.invariant_of-self-2
invariant_of-self-2 c = rw c.in_ok-push.ensures.items (starts-grown c.self.inside.starts.items c.self.inside.entries.items (c.args.entry ∷ []) c.self.invariant)

pub returns : goal.returns
returns c = rw (c.in_ok-push.ensures.items, ← c.self.view_is) (more-cut c.self.inside.starts.items c.self.inside.entries.items (c.args.entry ∷ []) c.self.invariant)
