use Rattle.std.proofs.Common.{◌≡◌, ◌*◌, inr, arith, refl}
use Rattle.bench_c.proofs.Facts.{err_from_is_err_and}
use Rattle.bench_c.specs.Words.{item_size, count, array_type}
use Rattle.bench_c.specs.Arrays.{given_contents}
use Rattle.bench_c.proofs.GivenLaws.{given-number, given-done}
use Rattle.bench_engine.specs.NewArrayLaws.{passed}
use Rattle.bench_c.proofs.given.owned_of.Goals as goal

pub returns-in_err-descr : goal.returns-in_err-descr
unfolding given_contents
returns-in_err-descr c =
    let p = err_from_is_err_and c.from_residual.result c.from_residual.ensures.1 in
    rw (p.1, p.2) (passed (array_type c.args.array.now.descr.now c.args.array.now.shape.now) _ _ (λ bad. rw bad refl) (c.in_err-descr.ensures.value _ c.try_new-shape.ensures))

pub returns-then-array-items : goal.returns-then-array-items
returns-then-array-items c =
    let bytes : c.items.result * c.size.result ≡ count c.in_ok-descr.shape * item_size c.in_ok-descr.descr = cc in
    inr (given-number _ _ _ c.in_ok-descr.descr c.in_ok-descr.shape (c.in_ok-descr.ensures.value _ c.try_new-shape.ensures) (λ same. omega (arith, bytes, same)))

pub returns : goal.returns
returns c =
    let bytes : c.items.result * c.size.result ≡ count c.in_ok-descr.shape * item_size c.in_ok-descr.descr = cc in
    let e = c.in_ok-over.ensures in
    given-done _ _ _ c.in_ok-descr.descr c.in_ok-descr.shape c.in_ok-over.field-0 (c.in_ok-descr.ensures.value _ c.try_new-shape.ensures) (omega (arith, bytes)) e.descr e.shape (rw e.block c.in_ok-block.ensures) e.order
