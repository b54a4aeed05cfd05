use Rattle.std.proofs.Common.{◌≡◌, to_z, of_z}
use Rattle.view_ops.proofs.Words.{w128, to_z-of_z, lowest, from_front, clamped}
use Rattle.view_ops.proofs.SliceLaws.{clamp_low}
use Rattle.view_ops.proofs.slice.clamped.Goals as goal

value : (c : goal.After-min) → to_z w128 (of_z w128 c.min.result) ≡ clamped c.args.n c.args.step c.args.at
value c =
    let step = to_z-of_z w128 c.args.step c.ranges.step in
    let at = to_z-of_z w128 c.args.at c.ranges.at in
    let min = to_z-of_z w128 c.min.result (record { sfits = c.min.type_inv }) in
    let max = to_z-of_z w128 c.max.result (record { sfits = c.max.type_inv }) in
    let highest = to_z-of_z w128 c.highest.result (record { sfits = c.highest.type_inv }) in
    let lowest = to_z-of_z w128 c.lowest.result (record { sfits = c.lowest.type_inv }) in
    let front = to_z-of_z w128 c.from_front.result (record { sfits = c.from_front.type_inv }) in
    let a = c.min.ensures.value in
    let b = c.max.ensures.value in
    rw (min, a, max, b, highest, lowest, front, c.highest.ensures, c.lowest.ensures, c.from_front.ensures, step, at)

pub returns-clause-value : goal.returns-clause-value
returns-clause-value c = value c

pub returns-clause-low : goal.returns-clause-low
returns-clause-low c = rw (value c) (clamp_low (from_front c.args.n c.args.at) (lowest c.args.step) c.args.n)
