use Rattle.std.proofs.Common.{refl}
use Rattle.bench_engine.proofs.Words.{err_from_is_err_and, array_type, zeros_contents}
use Rattle.bench_engine.specs.NewArrayLaws.{passed}
use Rattle.bench_engine.proofs.Makes.{zeros-made}
use Rattle.bench_engine.proofs.create.zeros.Goals as goal

pub returns-in_err-descr : goal.returns-in_err-descr
unfolding zeros_contents
returns-in_err-descr c =
    let p = err_from_is_err_and c.from_residual.result c.from_residual.ensures.1 in
    rw (p.1, p.2) (passed (array_type c.args.descr.now c.args.lengths.now) _ _ (λ bad. rw bad refl) c.in_err-descr.ensures.value)

pub returns : goal.returns
returns c = zeros-made _ _ _ _ c.zeroed.result c.in_ok-descr.ensures.value c.in_ok-descr.ensures.bytes c.zeroed.ensures.descr c.zeroed.ensures.shape c.zeroed.ensures.zeros c.zeroed.ensures.order c.zeroed.ensures.refused
