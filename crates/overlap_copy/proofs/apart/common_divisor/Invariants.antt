use Rattle.std.proofs.Common.{ℕ}
use Rattle.overlap_copy.proofs.Words.{IsGcd}
use Rattle.overlap_copy.proofs.apart.common_divisor.Given as goal

-- the greatest common divisor of the two numbers is that of the first two
abbrev pub invariant-loop-rest : goal.invariant-loop-rest
invariant-loop-rest l = (g : ℕ) → IsGcd l.divisor l.rest g → IsGcd l.fn.a l.fn.b g

abbrev pub decreases-loop-rest : goal.decreases-loop-rest
decreases-loop-rest l = l.rest
