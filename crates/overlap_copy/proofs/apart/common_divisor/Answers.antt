use Rattle.std.proofs.Common.{arith}
use Rattle.overlap_copy.proofs.Words.{IsGcd-from_mod, IsGcd-from_zero}
use Rattle.overlap_copy.proofs.apart.common_divisor.Goals as goal

pub loop-rest-preserved : goal.loop-rest-preserved
loop-rest-preserved c = λ g is. c.loop-rest.invariant g (IsGcd-from_mod c.loop-rest.divisor c.loop-rest.rest g is)

pub returns : goal.returns
returns c = c.loop-rest.invariant c.loop-rest.divisor (IsGcd-from_zero c.loop-rest.divisor c.loop-rest.rest (omega (arith, c.loop-rest-test.false)))
