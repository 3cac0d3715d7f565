use Rattle.std.proofs.Common.{length}
use Rattle.qm_relax.proofs.LastPlaces.{depth_within, ranges_there}
use Rattle.qm_relax.proofs.fixed.fits_last.Goals as goal

pub split_at-requires : goal.split_at-requires
split_at-requires c =
    let P = c.args.game.now in
    let within = rw (c.as_slice.ensures, c.problem-problem.ensures.value) at c.depth_of_last-depth.ensures.within in
    rw c.as_slice-2.ensures (depth_within P.vars c.args.bx.now P.wholes c.depth_of_last-depth.result c.requires within)

pub fits-requires : goal.fits-requires
fits-requires c =
    let P = c.args.game.now in
    let count = rw c.as_slice-2.ensures at c.split_at.ensures.back_len in
    rw (c.as_slice.ensures, c.problem-problem.ensures.value)
    (ranges_there P.vars c.args.bx.now P.wholes c.depth_of_last-depth.result c.requires (length c.split_at.result.1.now) count)
