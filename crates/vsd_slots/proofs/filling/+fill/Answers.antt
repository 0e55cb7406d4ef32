use Rattle.std.proofs.Common.{◌<◌, arith}
use Rattle.vsd_check.specs.Checked.{depths_of}
use Rattle.vsd_types.specs.Types.{type_at}
use Rattle.vsd_interfaces.specs.Ranks.{rank_of}
use Rattle.vsd_interfaces.proofs.RankLaws.{base-falls}
use Rattle.vsd_slots.proofs.filling.+fill.Goals as goal

pub fill-requires : goal.fill-requires
fill-requires t c =
    let s = c.args.closed.now in
    let ds = s.decls.list in
    let depths = depths_of c.args.checked.now in
    let b = c.in-Some.base in
    let lower = base-falls ds depths c.requires.parts.hierarchy (type_at s.types c.args.t) (type_at s.types b) c.in-Some.ensures.base in
    let falls : rank_of ds depths (type_at s.types b) < t = omega (arith, c.decreases, lower) in
    (falls, (c.requires.together, (c.requires.parts, (c.requires.named, (c.requires.right, (c.requires.blank, (c.requires.kept, c.in-Some.ensures.within)))))))
