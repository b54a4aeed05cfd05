-- Python's slices: `slice(start, stop, step).indices(n)`, and the `range` that it describes.
use Rattle.std.specs.Prelude.{◌≢◌, ℕ, ◌<◌, ◌≤◌, Bool, not, ◌&&◌, if◌then◌else◌, ℤ, pos, negsuc, ◌+ℤ◌, ◌*ℤ◌, ◌≤ℤ◌, int_lt, Option, Some, None, unwrap_or, List, map, Result, Ok}
use Rattle.view_ops.specs.Words.{int_min, int_max, int_eq, range_with_len, Refusal, ZeroStep, ◌>>=◌, check, stepped, natural}
use Rattle.view_ops.specs.declared.slice.Progression.{Progression}

-- the lowest and the highest position of a bound: 0 and n for a positive step, -1 and n - 1 for a negative one
abbrev pub lowest : ℤ → ℤ
lowest step = if int_lt step (pos 0) then negsuc 0 else pos 0

abbrev pub highest : ℕ → ℤ → ℤ
highest n step = lowest step +ℤ pos n

-- the position counted from the front. A negative number counts from the end.
abbrev pub from_front : ℕ → ℤ → ℤ
from_front n at = if int_lt at (pos 0) then at +ℤ pos n else at

-- whether a number is the position of one of n items, counted from 0, or from -1 backwards from the end
abbrev pub is_place : ℕ → ℤ → Bool
is_place n at = not (int_lt (from_front n at) (pos 0)) && int_lt (from_front n at) (pos n)

abbrev pub clamped : ℕ → ℤ → ℤ → ℤ
clamped n step at = int_min (int_max (from_front n at) (lowest step)) (highest n step)

-- A missing start is the end at which the steps begin, and a missing stop is the other end.
abbrev pub start_of : ℕ → ℤ → Option ℤ → ℤ
start_of n step None = if int_lt step (pos 0) then highest n step else lowest step
start_of n step (Some at) = clamped n step at

abbrev pub stop_of : ℕ → ℤ → Option ℤ → ℤ
stop_of n step None = if int_lt step (pos 0) then lowest step else highest n step
stop_of n step (Some at) = clamped n step at

-- the numbers of 0, 1, .., n - 1 that a slice takes, or its refusal
unfoldable pub slice_indices : ℕ → Option ℤ → Option ℤ → Option ℤ → Result (List ℕ) Refusal
slice_indices n start stop given = do
  let step = unwrap_or given (pos 1)
  _ ← check (not (int_eq step (pos 0))) ZeroStep
  Ok (map natural (stepped n (start_of n step start) (stop_of n step stop) step))

-- the number at position `k` of a run
abbrev pub run_number : Progression → ℕ → ℕ
run_number run k = natural (pos run.first +ℤ run.step *ℤ pos k)

-- the numbers of a run
abbrev pub run_numbers : Progression → List ℕ
run_numbers run = map (run_number run) (range_with_len 0 run.count)

-- The numbers of a run are positions of n items, all different.
pub record IsRunWithin (run : Progression) (n : ℕ) : Type 0 where
  pub moves : run.step ≢ pos 0
  pub count_within : run.count ≤ n
  pub from_zero : (k : ℕ) → k < run.count → pos 0 ≤ℤ (pos run.first +ℤ run.step *ℤ pos k)
  pub below : (k : ℕ) → k < run.count → run_number run k < n
