use Rattle.vsd_ways.proofs.MarksLemmas.{one_marked}
use Rattle.vsd_ways.proofs.marks.marked.Goals as goal

pub returns : goal.returns
returns c p = one_marked 64 c.args.o p c.requires
