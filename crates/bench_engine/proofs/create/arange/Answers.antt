use Rattle.std.proofs.Common.{◌≡◌, ◌*◌, ◌∙◌, [], ◌∷◌, Ok, Err, sym, inl, inr, arith, ap, refl}
use Rattle.bench_engine.proofs.Words.{err_from_is_err_and, size, count, descriptor, range_items, range_scalar, arange_contents}
use Rattle.bench_engine.specs.NewArrayLaws.{in-order, passed}
use Rattle.bench_engine.proofs.Makes.{integer-given, range-shape, range-shape-refused, arange-done}
use Rattle.bench_engine.proofs.create.arange.Goals.{After-branch-len}
use Rattle.bench_engine.proofs.create.arange.Goals as goal

given : (c : After-branch-len) → range_scalar c.args.descr.now ≡ Ok c.in_ok-scalar.scalar
given c = integer-given c.args.descr.now c.in_ok-descr.descr (Ok c.in_ok-scalar.scalar) (rw c.as_slice.ensures at c.in_ok-descr.ensures) c.in_ok-scalar.ensures.value

pub returns-in_err-descr : goal.returns-in_err-descr
unfolding arange_contents range_scalar
returns-in_err-descr c =
    let p = err_from_is_err_and c.from_residual.result c.from_residual.ensures.1 in
    rw (p.1, p.2) (passed (descriptor c.args.descr.now) _ _ (λ bad. rw bad refl) (rw c.as_slice.ensures at c.in_err-descr.ensures))

pub returns-in_err-scalar : goal.returns-in_err-scalar
unfolding arange_contents
returns-in_err-scalar c =
    let p = err_from_is_err_and c.from_residual-in_err-scalar.result c.from_residual-in_err-scalar.ensures.1 in
    rw (p.1, p.2) (passed (range_scalar c.args.descr.now) _ _ (λ bad. rw bad refl) (integer-given _ c.in_ok-descr.descr (Err _) (rw c.as_slice.ensures at c.in_ok-descr.ensures) c.in_err-scalar.ensures.value))

pub returns-in_err-len : goal.returns-in_err-len
unfolding arange_contents range_items
returns-in_err-len c =
    let p = err_from_is_err_and c.from_residual-in_err-len.result c.from_residual-in_err-len.ensures.1 in
    rw (p.1, p.2) (inr (rw (given (goal.at.returns-in_err-len c).After-branch-len, sym c.in_err-len.ensures.value) refl))

pub returns-in_err-shape : goal.returns-in_err-shape
returns-in_err-shape c =
    let p = err_from_is_err_and c.from_residual-in_err-shape.result c.from_residual-in_err-shape.ensures.1 in
    rw p.1 (inl (p.2 ∙ range-shape-refused c.in_ok-len.len _ c.in_ok-len.ensures.few c.in_err-shape.ensures))

pub returns-in_err-block : goal.returns-in_err-block
unfolding arange_contents
returns-in_err-block c =
    let p = err_from_is_err_and c.from_residual-in_err-block.result c.from_residual-in_err-block.ensures.1 in
    rw (p.1, p.2) (passed (range_items c.in_ok-scalar.scalar c.args.start.now c.args.stop.now c.args.step.now) _ _ (λ bad. rw (given (goal.at.returns-in_err-block c).After-branch-len, bad) refl) c.in_err-block.ensures.items)

pub over-requires-clause-whole : goal.over-requires-clause-whole
over-requires-clause-whole c =
    let once : c.in_ok-len.len ≡ c.in_ok-len.len * 1 = omega arith in
    c.in_ok-block.ensures.whole ∙ ap (λ n. n * size c.in_ok-scalar.scalar) (sym c.in_ok-len.ensures.count ∙ once ∙ sym (ap count (range-shape c.in_ok-len.len c.in_ok-shape.shape c.in_ok-len.ensures.few c.in_ok-shape.ensures)))

pub returns : goal.returns
returns c =
    let shaped = c.in_ok-over.ensures.shape ∙ range-shape c.in_ok-len.len _ c.in_ok-len.ensures.few c.in_ok-shape.ensures in
    arange-done _ _ _ _ _ _ c.in_ok-block.block c.in_ok-over.field-0 (given (goal.at.returns c).After-branch-len) c.in_ok-block.ensures.items
    c.in_ok-over.ensures.descr (shaped ∙ ap (λ n. n ∷ []) c.in_ok-len.ensures.count) c.in_ok-over.ensures.block
    (in-order c.in_ok-over.field-0 _ _ c.in_ok-over.ensures.descr c.in_ok-over.ensures.shape c.in_ok-over.ensures.order)
