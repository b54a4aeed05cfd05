use Rattle.std.proofs.Common.{ap, arith}
use Rattle.elem_descr.proofs.Words.{leaves_in, rest_at}
use Rattle.elem_descr.proofs.descr.leaf_sum.Goals as goal

pub overflow_add-sum : goal.overflow_add-sum
overflow_add-sum c =
    let here = ap leaves_in (rest_at c.args.fields.now c.field-item.result c.loop-field.field-index c.loop-field-test.true c.field-item.is) in
    omega (arith, here, c.loop-field.invariant, c.requires, c.leaf_count-sum.ensures.value)

pub loop-field-preserved : goal.loop-field-preserved
loop-field-preserved c =
    let here = ap leaves_in (rest_at c.args.fields.now c.field-item.result c.loop-field.field-index c.loop-field-test.true c.field-item.is) in
    omega (arith, here, c.loop-field.invariant, c.leaf_count-sum.ensures.value)
