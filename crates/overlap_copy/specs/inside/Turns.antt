-- Steps along an axis that can be taken back.
use Rattle.std.specs.Prelude.{ℕ, ◌+◌, ◌-◌, ◌*◌, ◌<◌, ◌≤◌, List}
use Rattle.overlap_copy.specs.Words.{Axis}
use Rattle.overlap_copy.specs.inside.Sums.{HasSum}

-- Suppose that at least `steps` steps are taken along the axis, that the upper bound leaves less than `far` for the
-- other axes, and that these have a sum within the bounds that are left. Then they also have one if `steps` fewer steps
-- are taken.
pub record IsTurn (axis : Axis) (axes : List Axis) (steps far : ℕ) : Type 0 where
  pub some : 0 < steps
  pub back : (low high j : ℕ) → steps ≤ j → axis.step * j ≤ high → high < axis.step * j + far
      → HasSum axes (low - axis.step * j) (high - axis.step * j) → HasSum axes (low - axis.step * (j - steps)) (high - axis.step * (j - steps))
