use Rattle.std.proofs.Common.{map}
use Rattle.fancy_index.proofs.Words.{err_from_is_err_and, shown_part}
use Rattle.fancy_index.proofs.AnswerLaws.{view_no_points, view_no_shape}
use Rattle.fancy_index.proofs.planning.shapes.Goals as goal

pub returns-in_err-points-clause-err : goal.returns-in_err-points-clause-err
returns-in_err-points-clause-err c =
    let p = err_from_is_err_and c.from_residual.result c.from_residual.ensures.1 in
    rw (p.1, p.2) (view_no_points (map shown_part c.args.parts.now) c.in_err-points.field-0.0 c.in_err-points.ensures)

pub returns-in_err-shape-clause-err : goal.returns-in_err-shape-clause-err
returns-in_err-shape-clause-err c =
    let p = err_from_is_err_and c.from_residual-in_err-shape.result c.from_residual-in_err-shape.ensures.1 in
    rw (p.1, p.2) (view_no_shape (map shown_part c.args.parts.now) c.in_ok-points.points.items c.as_slice.result.now c.in_err-shape.field-0.0 c.in_ok-points.ensures c.as_slice.ensures c.in_err-shape.ensures)
