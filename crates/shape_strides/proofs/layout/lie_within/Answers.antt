use Rattle.std.proofs.Common.{◌<◌, refl, arith}
use Rattle.shape_strides.proofs.Words.{count}
use Rattle.shape_strides.proofs.ReachLaws.{LieWithin-from_reach, reach_from_LieWithin, LieWithin-empty, le_from_test, test_from_le}
use Rattle.shape_strides.proofs.layout.lie_within.Goals as goal

pub returns-then-items-eq0 : goal.returns-then-items-eq0
returns-then-items-eq0 c = (λ _. LieWithin-empty c.args.shape.now c.args.strides.now c.args.offset c.args.len c.args.item (omega (arith, c.items.ensures.value)), λ _. refl)

pub returns-then-reach-offset : goal.returns-then-reach-offset
returns-then-reach-offset c =
    let some : 0 < count c.args.shape.now = omega (arith, c.items.ensures.value) in
    let below = rw (c.as_slice-strides.ensures, c.as_slice-lengths.ensures.value) at c.reach_of-reach.ensures.below in
    let above = rw (c.as_slice-strides.ensures, c.as_slice-lengths.ensures.value) at c.reach_of-reach.ensures.above in (
      λ test. LieWithin-from_reach c.args.shape.now c.args.strides.now c.args.offset c.args.len c.args.item (omega arith) (omega (arith, le_from_test _ _ test)),
      λ lie. let reach = reach_from_LieWithin c.args.shape.now c.args.strides.now c.args.offset c.args.len c.args.item c.requires some lie in test_from_le _ _ (omega (arith, reach.1)),
    )

pub returns-else-reach-offset : goal.returns-else-reach-offset
returns-else-reach-offset c =
    let some : 0 < count c.args.shape.now = omega (arith, c.items.ensures.value) in
    let below = rw (c.as_slice-strides.ensures, c.as_slice-lengths.ensures.value) at c.reach_of-reach.ensures.below in (
      λ test. absurd (omega (arith, le_from_test _ _ test)),
      λ lie. let reach = reach_from_LieWithin c.args.shape.now c.args.strides.now c.args.offset c.args.len c.args.item c.requires some lie in test_from_le _ _ (omega (arith, reach.0)),
    )
