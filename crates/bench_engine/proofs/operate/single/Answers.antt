use Rattle.std.proofs.Common.{◌≡◌, ◌*◌, ◌∷◌, [], length, ap, sym, ◌∙◌, inl, inr, arith}
use Rattle.bench_engine.proofs.Words.{err_from_is_err_and, ScalarDescr, item_size, count, multiples, shape_of-same}
use Rattle.bench_engine.proofs.LegalLaws.{no-refusal}
use Rattle.bench_engine.proofs.operate.single.Goals as goal

pub filled-requires : goal.filled-requires
filled-requires c = record { bytes = omega (arith, ap length c.as_slice.ensures, c.in_ok-item.ensures.len, c.size-size.ensures.value, c.size-size.ensures.within) }

pub returns-in_err-shape-clause-item : goal.returns-in_err-shape-clause-item
returns-in_err-shape-clause-item c =
    let p = err_from_is_err_and c.from_residual-in_err-shape.result c.from_residual-in_err-shape.ensures.1 in
    rw (p.1, p.2) (inl (elim c.in_err-shape.ensures [
      | inl lacks ↦ lacks
      | inr bad ↦ absurd (no-refusal _ bad)
    ]))

pub over-requires-clause-whole : goal.over-requires-clause-whole
over-requires-clause-whole c =
    let size = item_size (ScalarDescr c.args.scalar.now) in
    let same : length c.as_slice.result.now ≡ size = omega (arith, ap length c.as_slice.ensures, c.in_ok-item.ensures.len) in
    c.in_ok-block.ensures.whole ∙ (λ i. count (shape_of-same [] c.in_ok-shape.shape c.in_ok-shape.ensures i) * same i)

pub over-requires-clause-small : goal.over-requires-clause-small
over-requires-clause-small c = omega (arith, c.in_ok-block.ensures.whole, ap length c.as_slice.ensures, c.in_ok-item.ensures.len, c.size-size.ensures.value, c.size-size.ensures.within)

pub returns-clause-shape : goal.returns-clause-shape
returns-clause-shape c = c.in_ok-over.ensures.shape ∙ sym (shape_of-same [] c.in_ok-shape.shape c.in_ok-shape.ensures)

pub returns-clause-offsets : goal.returns-clause-offsets
returns-clause-offsets c =
    let size = item_size (ScalarDescr c.args.scalar.now) in
    let none : size * 0 ≡ 0 = omega arith in
    c.in_ok-over.ensures.order ∙ ap (λ n. multiples size n) (ap count (sym (shape_of-same [] c.in_ok-shape.shape c.in_ok-shape.ensures))) ∙ ap (λ at. at ∷ []) none
