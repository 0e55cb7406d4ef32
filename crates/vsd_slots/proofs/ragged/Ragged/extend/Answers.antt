use Rattle.vsd_slots.proofs.RaggedLaws.{more-cut, starts-grown}
use Rattle.vsd_slots.proofs.ragged.Ragged.extend.Goals as goal

pub invariant_of-self-2 : goal.invariant_of-self-2
invariant_of-self-2 c = rw c.in_ok-extend_from_slice.ensures.items (starts-grown c.self.inside.starts.items c.self.inside.entries.items c.args.more.now c.self.invariant)

pub returns : goal.returns
returns c = rw (c.in_ok-extend_from_slice.ensures.items, ← c.self.view_is) (more-cut c.self.inside.starts.items c.self.inside.entries.items c.args.more.now c.self.invariant)
