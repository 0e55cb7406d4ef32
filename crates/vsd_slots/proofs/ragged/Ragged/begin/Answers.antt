use Rattle.std.proofs.Common.{◌≡◌, length, ap}
use Rattle.vsd_slots.proofs.RaggedLaws.{begin-cut, starts-begin}
use Rattle.vsd_slots.proofs.ragged.Ragged.begin.Goals as goal

pub invariant_of-self-2 : goal.invariant_of-self-2
invariant_of-self-2 c =
    let run = c.self.inside in
    let is : length c.as_slice-end.result.now ≡ length run.entries.items = ap length c.as_slice-end.ensures.value in
    rw c.in_ok-push.ensures.items (starts-begin run.starts.items (length run.entries.items) (length c.as_slice-end.result.now) c.self.invariant is)

pub returns : goal.returns
returns c =
    let run = c.self.inside in
    let is : length c.as_slice-end.result.now ≡ length run.entries.items = ap length c.as_slice-end.ensures.value in
    rw (c.in_ok-push.ensures.items, ← c.self.view_is) (begin-cut run.starts.items run.entries.items (length c.as_slice-end.result.now) is)
