use Rattle.std.proofs.Common.{◌≤◌, length, arith}
use Rattle.vsd_check.specs.Checked.{decls_of, depths_of}
use Rattle.vsd_interfaces.proofs.DepthLaws.{depth_most}
use Rattle.vsd_interfaces.proofs.ranks.rank.Goals as goal

pub overflow_add-result : goal.overflow_add-result
overflow_add-result c =
    let checked = c.args.checked.now in
    let ds = (decls_of checked).list in
    let most = depth_most ds (depths_of checked) c.depth.ensures.hierarchy.deep c.in-Some.place in
    let few : length ds ≤ 1024 = c.depth.ensures.well_formed.few in
    omega (arith, c.depth.ensures.depth, most, few)
