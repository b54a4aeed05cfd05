use Rattle.std.proofs.Common.{inr, subst, sym}
use Rattle.bench_c.proofs.Facts.{err_from_is_err_and}
use Rattle.bench_c.specs.Words.{Descr, Gives, Owned}
use Rattle.bench_c.specs.Arrays.{bytes_as, items_called, numbers_called}
use Rattle.bench_c.proofs.ArrayLaws.{form-refused}
use Rattle.bench_c.proofs.asked.items_called.Goals as goal

pub returns-in_err-array : goal.returns-in_err-array
returns-in_err-array c =
    let p = err_from_is_err_and c.from_residual.result c.from_residual.ensures.1 in
    rw (p.1, p.2) (inr (form-refused c.args.form _ _ _ c.in_err-array.ensures))

pub cast_to-requires : goal.cast_to-requires
cast_to-requires c = record { inside = c.in_ok-array.ensures.2.inside }

pub cast_to-requires-in-Number : goal.cast_to-requires-in-Number
cast_to-requires-in-Number c = record { inside = c.in_ok-array.ensures.2.inside }

pub returns-in-Own : goal.returns-in-Own
unfolding items_called
returns-in-Own c =
    let it = c.in_ok-array.ensures in
    rw (c.in-Own.is, it.1) (subst (λ (d : Descr). Gives (λ (o : Owned). o.block) c.cast_to.result (bytes_as d c.args.bench.now.state it.0)) (sym it.2.descr) (c.cast_to.ensures _ it.0 it.2))

pub returns : goal.returns
unfolding numbers_called
returns c =
    let it = c.in_ok-array.ensures in
    rw (c.in-Number.is, it.1) (c.cast_to-in-Number.ensures _ it.0 it.2)
