-- Runs, as lists of offsets.
use Rattle.std.specs.Prelude.{◌≡◌, ℕ, ◌≤◌, ℤ, List, length, reverse}
use Rattle.overlap_copy.specs.Words.{GoesBy, Layout, offsets}

-- a run with this step: at least two offsets, each of which is the one before it plus the step
abbrev pub IsRun : ℤ → List ℕ → Type 0
IsRun step offsets = (2 ≤ length offsets) × GoesBy step offsets

-- both layouts are runs with the same step
pub record AreRuns (to from : Layout) : Type 0 where
  pub step : ℤ
  pub to_run : IsRun step (offsets to)
  pub from_run : IsRun step (offsets from)

-- both layouts are runs, and each is the reverse of the other
pub record AreReversed (to from : Layout) : Type 0 where
  pub step : ℤ
  pub other : ℤ
  pub to_run : IsRun step (offsets to)
  pub from_run : IsRun other (offsets from)
  pub reversed : offsets from ≡ reverse (offsets to)
