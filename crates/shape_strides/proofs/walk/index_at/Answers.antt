use Rattle.std.proofs.Common.{◌≡◌, ◌+◌, ◌-◌, subst, arith}
use Rattle.shape_strides.proofs.RankLaws.{IsFound, long_axis, found_more}
use Rattle.shape_strides.proofs.walk.index_at.Goals as goal

pub nonzero_rem-index : goal.nonzero_rem-index
nonzero_rem-index c =
    let j = c.loop-axis.axis - 1 in
    let next : c.loop-axis.axis ≡ j + 1 = omega arith in
    let found = subst (IsFound c.args.lengths.now c.loop-axis.index c.args.at c.loop-axis.left) next c.loop-axis.invariant in
    long_axis c.args.lengths.now c.loop-axis.index c.args.at c.loop-axis.left j (omega (arith, found.within)) found

pub nonzero_div-left : goal.nonzero_div-left
nonzero_div-left c =
    let j = c.loop-axis.axis - 1 in
    let next : c.loop-axis.axis ≡ j + 1 = omega arith in
    let found = subst (IsFound c.args.lengths.now c.loop-axis.index c.args.at c.loop-axis.left) next c.loop-axis.invariant in
    long_axis c.args.lengths.now c.loop-axis.index c.args.at c.loop-axis.left j (omega (arith, found.within)) found

pub loop-axis-preserved : goal.loop-axis-preserved
loop-axis-preserved c =
    let j = c.loop-axis.axis - 1 in
    let next : c.loop-axis.axis ≡ j + 1 = omega arith in
    let found = subst (IsFound c.args.lengths.now c.loop-axis.index c.args.at c.loop-axis.left) next c.loop-axis.invariant in
    found_more c.args.lengths.now c.loop-axis.index c.args.at c.loop-axis.left j (omega (arith, found.within)) found
