use Rattle.broadcasting.proofs.Words.{err_from_is_err_and, given-fits}
use Rattle.broadcasting.proofs.CommonLaws.{seen, common-more, common-refused, finished}
use Rattle.broadcasting.proofs.common_shape.common.Goals as goal

pub returns-in_err-lengths-clause-value : goal.returns-in_err-lengths-clause-value
returns-in_err-lengths-clause-value c =
    let p = err_from_is_err_and c.from_residual.result c.from_residual.ensures.1 in
    rw (p.1, p.2) (common-refused c.loop-shape.lengths.items c.as_slice.result.now c.as_slice-in-loop-shape.result.now c.in_err-lengths.field-0.0 c.args.shapes.now c.loop-shape.shape-index c.shape-item.result c.loop-shape-test.true c.shape-item.is c.as_slice-in-loop-shape.ensures.value c.as_slice.ensures c.in_err-lengths.ensures c.loop-shape.invariant)

pub loop-shape-preserved : goal.loop-shape-preserved
loop-shape-preserved c =
    common-more c.loop-shape.lengths.items c.as_slice.result.now c.as_slice-in-loop-shape.result.now c.in_ok-lengths.lengths.items c.args.shapes.now c.loop-shape.shape-index c.shape-item.result c.loop-shape-test.true c.shape-item.is c.as_slice-in-loop-shape.ensures.value c.as_slice.ensures c.in_ok-lengths.ensures c.loop-shape.invariant

pub returns-clause-value : goal.returns-clause-value
returns-clause-value c =
    finished c.loop-shape.lengths.items c.as_slice-2.result.now c.args.shapes.now c.loop-shape.shape-index c.try_new.result c.loop-shape-test.false c.loop-shape.invariant c.as_slice-2.ensures c.try_new.ensures

pub returns-clause-fits : goal.returns-clause-fits
returns-clause-fits c =
    given-fits (seen c.args.shapes.now) c.try_new.result (finished c.loop-shape.lengths.items c.as_slice-2.result.now c.args.shapes.now c.loop-shape.shape-index c.try_new.result c.loop-shape-test.false c.loop-shape.invariant c.as_slice-2.ensures c.try_new.ensures)
