use Rattle.std.proofs.Common.{arith}
use Rattle.elementwise.proofs.fast.byte_divisions.Reciprocals.new.Goals as goal

pub invariant_of-result-clause-none : goal.invariant_of-result-clause-none
invariant_of-result-clause-none c = c.loop-by.invariant.none

pub invariant_of-result-clause-are : goal.invariant_of-result-clause-are
invariant_of-result-clause-are c = λ by some small. c.loop-by.invariant.are by some (omega (arith, small, c.loop-by-test.false))
