use Rattle.std.proofs.Common.{◌≤◌}
use Rattle.elem_descr.proofs.Words.{size}
use Rattle.elem_descr.proofs.RoundTrip.{reads_scalar_back}
use Rattle.elem_descr.proofs.format_text.write.will_read.Goals as goal

pub returns-in-Scalar : goal.returns-in-Scalar
returns-in-Scalar c =
    let sized = c.size.ensures in
    let some : 1 ≤ size c.in-Scalar.scalar = rw (← sized.value) sized.not_empty in
    let small : size c.in-Scalar.scalar ≤ 65536 = rw (← sized.value) sized.within in
    reads_scalar_back c.args.descr.now c.in-Scalar.scalar c.in-Scalar.is some small
