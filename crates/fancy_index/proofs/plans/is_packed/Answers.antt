use Rattle.std.proofs.Common.{arith}
use Rattle.fancy_index.proofs.GatherLaws.{packed-run}
use Rattle.fancy_index.proofs.plans.is_packed.Goals as goal

pub returns : goal.returns
returns c = λ yes. packed-run c.in-Some.run' c.args.width _ c.in-Some.ensures.items (omega (arith, c.if-run-gt0.false)) (c.is_packed.ensures.0 yes)
