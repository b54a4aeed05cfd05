use Rattle.std.proofs.Common.{inl, inr, refl}
use Rattle.bench_c.proofs.CallLaws.{may-lack}
use Rattle.bench_c.proofs.open_bench.OpenBench.put_array.Goals as goal

pub returns-in-Ok : goal.returns-in-Ok
returns-in-Ok c =
    let e = c.in-Ok.ensures in
    record { files = refl; puts = inl (e.0, e.1, e.2, refl) }

pub returns-in-Err : goal.returns-in-Err
returns-in-Err c =
    let e = c.in-Err.ensures in
    record { files = refl; puts = inr (c.in-Err.refusal, may-lack _ _ e.1, e.0, c.refuse.ensures.reply, c.refuse.ensures.status) }
