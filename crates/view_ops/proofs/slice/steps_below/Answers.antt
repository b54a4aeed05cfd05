use Rattle.std.proofs.Common.{ap, ◌∙◌, unsigned_abs}
use Rattle.view_ops.proofs.Words.{w128, div_ceil, to_z-of_z, steps_end_below, abs_pos}
use Rattle.view_ops.proofs.slice.steps_below.Goals as goal

pub returns : goal.returns
returns c k =
    let size = c.unsigned_abs.ensures.value ∙ ap unsigned_abs (to_z-of_z w128 c.args.step c.ranges.step) in
    let count = c.div_ceil.ensures ∙ ap (div_ceil c.args.gap) size in
    rw count (steps_end_below c.args.gap (unsigned_abs c.args.step) k (abs_pos c.args.step c.requires))
