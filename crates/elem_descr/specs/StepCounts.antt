-- The number of steps within a gap.
use Rattle.std.proofs.Common.{◌↔◌, ℕ, ◌*◌, ◌<◌, ℤ, unsigned_abs}

-- `count` is the number of `k`, from 0 on, for which `k` steps together are shorter than the gap
abbrev pub CountsSteps : ℕ → ℕ → ℤ → Type 0
CountsSteps count gap step = (k : ℕ) → (k < count) ↔ (k * unsigned_abs step < gap)
