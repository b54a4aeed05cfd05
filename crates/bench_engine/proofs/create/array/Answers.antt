use Rattle.std.proofs.Common.{◌≡◌, length, arith, inr, ap, refl}
use Rattle.bench_engine.proofs.Words.{err_from_is_err_and, count, item_values, array_type, array_contents, eq-eqb}
use Rattle.bench_engine.specs.NewArrayLaws.{passed}
use Rattle.bench_engine.proofs.Makes.{array-number, array-done}
use Rattle.bench_engine.proofs.create.array.Goals as goal

pub returns-in_err-descr : goal.returns-in_err-descr
unfolding array_contents
returns-in_err-descr c =
    let p = err_from_is_err_and c.from_residual.result c.from_residual.ensures.1 in
    rw (p.1, p.2) (passed (array_type c.args.descr.now c.args.lengths.now) _ _ (λ bad. rw bad refl) c.in_err-descr.ensures.value)

pub returns-then-literals-items : goal.returns-then-literals-items
returns-then-literals-items c =
    inr (array-number _ _ c.args.literals.now _ _ c.in_ok-descr.ensures.value (λ same. omega (arith, ap length c.as_slice-literals.ensures, c.items.ensures.value)))

pub returns-in_err-block : goal.returns-in_err-block
unfolding array_contents
returns-in_err-block c =
    let p = err_from_is_err_and c.from_residual-in_err-block.result c.from_residual-in_err-block.ensures.1 in
    let many : length c.args.literals.now ≡ count c.in_ok-descr.shape = omega (arith, ap length c.as_slice-literals.ensures, c.items.ensures.value) in
    rw (p.1, p.2) (passed (item_values c.in_ok-descr.descr c.args.literals.now) _ _ (λ bad. rw (c.in_ok-descr.ensures.value, eq-eqb (length c.args.literals.now) (count c.in_ok-descr.shape) many, bad) refl) (rw c.as_slice-literals.ensures at c.in_err-block.ensures.items))

pub returns : goal.returns
returns c =
    let many : length c.args.literals.now ≡ count c.in_ok-descr.shape = omega (arith, ap length c.as_slice-literals.ensures, c.items.ensures.value) in
    array-done _ _ c.args.literals.now _ _ c.in_ok-block.block c.in_ok-over.field-0 c.in_ok-descr.ensures.value many (rw c.as_slice-literals.ensures at c.in_ok-block.ensures.items)
    c.in_ok-over.ensures.descr c.in_ok-over.ensures.shape c.in_ok-over.ensures.block c.in_ok-over.ensures.order
