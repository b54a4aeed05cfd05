use Rattle.std.proofs.Common.{ℕ, ◌∷◌, map, drop}
use Rattle.overlap_copy.proofs.Words.{axes, step_of, IsGreatestDivisor}
use Rattle.overlap_copy.proofs.apart.divisor_with.Given as goal

-- the divisor so far and the remaining axes have the same greatest divisor as all of them
abbrev pub invariant-loop-axis : goal.invariant-loop-axis
invariant-loop-axis l = (g : ℕ) → IsGreatestDivisor g (l.divisor ∷ map step_of (axes (drop l.axis l.strides) (drop l.axis l.lengths))) → IsGreatestDivisor g (l.number ∷ map step_of (axes l.strides l.lengths))
