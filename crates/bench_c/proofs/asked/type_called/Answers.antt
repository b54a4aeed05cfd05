use Rattle.std.proofs.Common.{inr, ap, sym, ◌∙◌, Ok, refl}
use Rattle.bench_c.proofs.Facts.{err_from_is_err_and}
use Rattle.bench_c.specs.Words.{descr_text}
use Rattle.bench_c.specs.Arrays.{type_called}
use Rattle.bench_c.proofs.asked.type_called.Goals as goal

pub returns-in_err-array : goal.returns-in_err-array
unfolding type_called
returns-in_err-array c =
    let p = err_from_is_err_and c.from_residual.result c.from_residual.ensures.1 in
    rw (p.1, p.2) (inr (rw c.in_err-array.ensures refl))

pub returns : goal.returns
unfolding type_called
returns c =
    let it = c.in_ok-array.ensures in
    rw it.1 (ap Ok (ap descr_text it.2.descr ∙ sym c.in_ok-descr_text.ensures))
