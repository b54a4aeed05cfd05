use Rattle.std.proofs.Common.{refl}
use Rattle.bench_engine.proofs.Words.{err_from_is_err_and, operation_scalar}
use Rattle.bench_engine.proofs.operate.result_scalar.Goals as goal

pub returns-in_err-from : goal.returns-in_err-from
unfolding operation_scalar
returns-in_err-from c =
    let p = err_from_is_err_and c.from_residual.result c.from_residual.ensures.1 in
    rw (p.1, p.2, c.in_err-from.ensures) refl

pub returns-in_err-other : goal.returns-in_err-other
unfolding operation_scalar
returns-in_err-other c =
    let p = err_from_is_err_and c.from_residual-in_err-other.result c.from_residual-in_err-other.ensures.1 in
    rw (p.1, p.2, c.in_ok-from.ensures, c.in_err-other.ensures) refl

pub returns-in-Binary : goal.returns-in-Binary
unfolding operation_scalar
returns-in-Binary c = rw (c.in-Binary.is, c.in_ok-from.ensures, c.in_ok-other.ensures) c.promote.ensures

pub returns-in-Compare : goal.returns-in-Compare
unfolding operation_scalar
returns-in-Compare c = rw (c.in-Compare.is, c.in_ok-from.ensures, c.in_ok-other.ensures) c.compared_type.ensures
