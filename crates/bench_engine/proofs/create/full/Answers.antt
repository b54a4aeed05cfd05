use Rattle.std.proofs.Common.{◌≡◌, ◌∙◌, ap, sym, subst, length, replicate, Ok, arith, refl}
use Rattle.bench_engine.proofs.Words.{err_from_is_err_and, item_size, decode_item, blocks, item_value, array_type, full_contents}
use Rattle.bench_engine.specs.NewArrayLaws.{passed}
use Rattle.bench_engine.proofs.Makes.{full-done}
use Rattle.bench_engine.proofs.create.full.Goals as goal

pub returns-in_err-descr : goal.returns-in_err-descr
unfolding full_contents
returns-in_err-descr c =
    let p = err_from_is_err_and c.from_residual.result c.from_residual.ensures.1 in
    rw (p.1, p.2) (passed (array_type c.args.descr.now c.args.lengths.now) _ _ (λ bad. rw bad refl) c.in_err-descr.ensures.value)

pub returns-in_err-item : goal.returns-in_err-item
unfolding full_contents
returns-in_err-item c =
    let p = err_from_is_err_and c.from_residual-in_err-item.result c.from_residual-in_err-item.ensures.1 in
    rw (p.1, p.2) (passed (item_value c.in_ok-descr.descr c.args.literal.now) _ _ (λ bad. rw (c.in_ok-descr.ensures.value, bad) refl) c.in_err-item.ensures.value)

pub returns : goal.returns
returns c =
    let item = c.as_slice.result.now in
    let whole : length item ≡ item_size c.in_ok-descr.descr = omega (arith, ap length c.as_slice.ensures, c.in_ok-item.ensures.len) in
    let value = c.in_ok-item.ensures.value ∙ ap (λ bytes. Ok (decode_item c.in_ok-descr.descr bytes)) (sym c.as_slice.ensures) in
    full-done _ _ _ _ _ item c.in_ok-block.block c.in_ok-over.field-0 c.in_ok-descr.ensures.value value whole
    (subst (λ n. blocks (length item) n c.in_ok-block.block ≡ replicate n item) c.items.ensures.value c.in_ok-block.ensures.items)
    c.in_ok-over.ensures.descr c.in_ok-over.ensures.shape c.in_ok-over.ensures.block c.in_ok-over.ensures.order
