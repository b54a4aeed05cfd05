use Rattle.std.proofs.Common.{inl, inr, refl, ap}
use Rattle.bench_c.specs.Arrays.{info_called}
use Rattle.bench_c.proofs.CallLaws.{known}
use Rattle.bench_c.proofs.open_bench.OpenBench.give_info.Goals as goal

pub returns-in-Ok : goal.returns-in-Ok
returns-in-Ok c =
    let it = c.in-Ok.ensures in
    inl (known _ _ it.0 c.in-Ok.array _ _ it.1 it.2 c.items.ensures.value c.size.ensures.value, refl, refl)

pub returns-in-Err : goal.returns-in-Err
unfolding info_called
returns-in-Err c = inr (c.in-Err.refusal, rw c.in-Err.ensures refl, (ap (λ text. record c.args.self.now { reply = text }) c.refuse.ensures.reply, c.refuse.ensures.status), refl)
