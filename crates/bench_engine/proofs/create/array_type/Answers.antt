use Rattle.std.proofs.Common.{◌*◌, inr, refl}
use Rattle.bench_engine.proofs.Words.{le-leb, lt-leb, err_from_is_err_and, descriptor, item_size, max_bytes, count, shape_of, array_type}
use Rattle.bench_engine.specs.NewArrayLaws.{passed}
use Rattle.bench_engine.proofs.create.array_type.Goals as goal

pub returns-in_err-descr-clause-value : goal.returns-in_err-descr-clause-value
unfolding array_type
returns-in_err-descr-clause-value c lengths given =
    let p = err_from_is_err_and c.from_residual.result c.from_residual.ensures.1 in
    rw (p.1, p.2) (passed (descriptor c.args.descr.now) _ _ (λ bad. rw bad refl) c.in_err-descr.ensures)

pub returns-in_err-shape-clause-value : goal.returns-in_err-shape-clause-value
unfolding array_type
returns-in_err-shape-clause-value c lengths given =
    let p = err_from_is_err_and c.from_residual-in_err-shape.result c.from_residual-in_err-shape.ensures.1 in
    rw (p.1, p.2) (passed (shape_of lengths) _ _ (λ bad. rw (c.in_ok-descr.ensures, bad) refl) (rw c.in_err-shape.was at given))

pub returns-in_err-bytes_of-clause-value : goal.returns-in_err-bytes_of-clause-value
unfolding array_type
returns-in_err-bytes_of-clause-value c lengths given =
    let p = err_from_is_err_and c.from_residual-in_err-bytes_of.result c.from_residual-in_err-bytes_of.ensures.1 in
    let large = rw c.items.ensures.value at c.in_err-bytes_of.ensures.large in
    rw (p.1, p.2, large.0) (inr (rw (c.in_ok-descr.ensures, rw c.in_ok-shape.was at given, lt-leb (count c.in_ok-shape.shape * item_size c.in_ok-descr.descr) max_bytes large.1) refl))

pub returns-clause-value : goal.returns-clause-value
unfolding array_type
returns-clause-value c lengths given =
    rw (c.in_ok-descr.ensures, rw c.in_ok-shape.was at given, le-leb (count c.in_ok-shape.shape * item_size c.in_ok-descr.descr) max_bytes (rw (c.in_ok-bytes_of.ensures.bytes, c.items.ensures.value) at c.in_ok-bytes_of.ensures.within)) refl

pub returns-clause-bytes : goal.returns-clause-bytes
returns-clause-bytes c = rw (c.in_ok-bytes_of.ensures.bytes, c.items.ensures.value) at c.in_ok-bytes_of.ensures.within
