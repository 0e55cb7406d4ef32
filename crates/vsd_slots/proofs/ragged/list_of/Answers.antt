use Rattle.std.proofs.Common.{length, arith}
use Rattle.vsd_slots.proofs.RaggedLaws.{bounds, cut-at}
use Rattle.vsd_slots.proofs.ragged.list_of.Goals as goal

pub slice_bounds-result-start : goal.slice_bounds-result-start
slice_bounds-result-start c =
    let both = bounds c.args.starts.now (length c.args.entries.now) c.args.k c.requires.starts c.requires.within in
    omega (arith, both.0, both.1, c.end_of-end.ensures)

pub slice_bounds-result-end : goal.slice_bounds-result-end
slice_bounds-result-end c =
    let both = bounds c.args.starts.now (length c.args.entries.now) c.args.k c.requires.starts c.requires.within in
    omega (arith, both.0, both.1, c.end_of-end.ensures)

pub slice_bounds-result-count : goal.slice_bounds-result-count
slice_bounds-result-count c =
    let both = bounds c.args.starts.now (length c.args.entries.now) c.args.k c.requires.starts c.requires.within in
    omega (arith, both.0, both.1, c.end_of-end.ensures)

pub offset_bounds-entries-start : goal.offset_bounds-entries-start
offset_bounds-entries-start c =
    let both = bounds c.args.starts.now (length c.args.entries.now) c.args.k c.requires.starts c.requires.within in
    omega (arith, both.0, both.1, c.end_of-end.ensures)

pub returns : goal.returns
returns c = cut-at c.args.starts.now c.args.entries.now c.args.k c.end_of-end.result c.requires.within c.end_of-end.ensures
