-- Pairs of items that do not overlap.
use Rattle.std.specs.Prelude.{ℕ, ℤ, ◌+◌, ◌<◌, ◌≤◌, ◌⊎◌}
use Rattle.raw_block.specs.Bytes.{place}

-- the two items of each of n pairs do not overlap
pub record LieApart (a : ℕ) (a_step : ℤ) (b : ℕ) (b_step : ℤ) (width n : ℕ) : Type 0 where
  pub apart : (k : ℕ) → k < n → (place a a_step k + width ≤ place b b_step k) ⊎ (place b b_step k + width ≤ place a a_step k)
