use Rattle.std.proofs.Common.{inr, refl}
use Rattle.bench_c.specs.Arrays.{shape_called}
use Rattle.bench_c.proofs.CallLaws.{gives-shape, refuses}
use Rattle.bench_c.proofs.open_bench.OpenBench.give_shape.Goals as goal

pub returns-in-Ok : goal.returns-in-Ok
returns-in-Ok c =
    let it = c.in-Ok.ensures in
    gives-shape c.args.name.now it.0 c.in-Ok.array _ _ _ _ c.args.self.now _ it.1 it.2 c.as_slice.ensures.value c.copy_out.ensures

pub returns-in-Err : goal.returns-in-Err
unfolding shape_called
returns-in-Err c = refuses (shape_called c.args.name.now) _ _ c.args.self.now _ c.in-Err.refusal (inr (rw c.in-Err.ensures refl)) c.refuse.ensures.reply c.refuse.ensures.status
