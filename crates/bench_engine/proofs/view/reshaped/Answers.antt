use Rattle.std.proofs.Common.{refl, Ok, Err}
use Rattle.std.proofs.lemmas.Result.{err_from_is_err_and}
use Rattle.bench_engine.proofs.Words.{Fresh}
use Rattle.bench_engine.proofs.Reshapes.{target-refused, seen-where_it_stands, seen-copied, items-duplicated, duplicate-refused}
use Rattle.bench_engine.proofs.view.reshaped.Goals as goal

pub returns-in_err-shape : goal.returns-in_err-shape
returns-in_err-shape c s array shows =
    let p = err_from_is_err_and c.from_residual.result c.from_residual.ensures.1 in
    rw (p.1, p.2) (target-refused s array c.args.array.now _ _ shows c.in_err-shape.ensures.value)

pub returns-in-Some : goal.returns-in-Some
returns-in-Some c s array shows =
    seen-where_it_stands s array c.args.array.now c.args.numbers.now c.in_ok-shape.shape c.items.result _ shows c.in_ok-shape.ensures.value (rw c.in-Some.is at c.in_ok-layout.ensures.decided)
    c.items.ensures.bound c.items.ensures.descr (rw c.in-Some.is at c.in_ok-layout.ensures.reshape)

pub returns-in_err-copy : goal.returns-in_err-copy
returns-in_err-copy c s array shows =
    let p = err_from_is_err_and c.from_residual-in_err-copy.result c.from_residual-in_err-copy.ensures.1 in
    rw (p.1, p.2) (seen-copied s array c.args.array.now c.args.numbers.now c.in_ok-shape.shape (Err c.in_err-copy.field-0.0) shows c.in_ok-shape.ensures.value (rw c.in_default.is at c.in_ok-layout.ensures.decided)
    (duplicate-refused s array c.args.array.now c.in_ok-shape.shape _ shows c.in_ok-shape.ensures.items c.in_err-copy.ensures.refused))

pub returns : goal.returns
returns c s array shows =
    let e = c.in_ok-copy.ensures in
    seen-copied s array c.args.array.now c.args.numbers.now c.in_ok-shape.shape (Ok (record { bound = Fresh c.in_ok-owned.owned; descr = c.args.array.now.descr })) shows c.in_ok-shape.ensures.value (rw c.in_default.is at c.in_ok-layout.ensures.decided)
    (items-duplicated s array c.args.array.now c.in_ok-shape.shape c.in_ok-copy.copy c.in_ok-owned.owned shows c.in_ok-shape.ensures.items e.within e.descr e.order e.items
    c.in_ok-owned.ensures.descr c.in_ok-owned.ensures.shape c.in_ok-owned.ensures.block c.in_ok-owned.ensures.order _ refl refl)
