use Rattle.std.proofs.Common.{ℕ, ◌<◌, List, length, sym, subst}
use Rattle.vsd_slots.proofs.RaggedLaws.{listed}
use Rattle.vsd_slots.proofs.ragged.Ragged.list.Goals as goal

pub list_of-requires-clause-within : goal.list_of-requires-clause-within
list_of-requires-clause-within c =
    let inside = listed c.self.inside.starts.items c.self.inside.entries.items c.args.self.now c.args.k c.self.view_is c.requires in
    subst (λ (l : List ℕ). c.args.k < length l) (sym c.as_slice-2.ensures.value) inside
