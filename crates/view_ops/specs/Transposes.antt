-- Transposes, as in NumPy: axis k of the result is the axis named at position k.
use Rattle.std.specs.Prelude.{ℕ, ◌-◌, ◌==◌, Bool, true, not, ◌&&◌, ℤ, Option, Some, None, List, [], ◌∷◌, map, length, replicate, slice_index, slice_set, Result, Ok}
use Rattle.view_ops.specs.Words.{list_any, list_all, range_with_len, Refusal, BadAxis, ◌>>=◌, check, natural}
use Rattle.view_ops.specs.Slices.{from_front, is_place}
use Rattle.view_ops.specs.Views.{View}

-- No number is repeated.
abbrev pub are_distinct : List ℕ → Bool
are_distinct [] = true
are_distinct (axis ∷ axes) = not (list_any (λ other. other == axis) axes) && are_distinct axes

-- The named axes, each exactly once, or the refusal. If no axes are named, all axes in reverse order.
unfoldable pub axes_of : ℕ → Option (List ℤ) → Result (List ℕ) Refusal
axes_of rank None = Ok (map (λ k. rank - 1 - k) (range_with_len 0 rank))
axes_of rank (Some named) = do
  let axes = map (λ axis. natural (from_front rank axis)) named
  _ ← check (length named == rank) BadAxis
  _ ← check (list_all (is_place rank) named) BadAxis
  _ ← check (are_distinct axes) BadAxis
  Ok axes

-- the list `over` with each number written at the position of its axis
abbrev pub put_at : List ℕ → List ℕ → List ℕ → List ℕ
put_at (axis ∷ axes) (number ∷ numbers) over = slice_set (put_at axes numbers over) axis number
put_at _ _ over = over

-- The view with its axes in another order, or the refusal. Axis k has the length of the axis named at position k, and
-- number k of an index goes to that axis.
unfoldable pub transposed : List ℕ → Option (List ℤ) → Result View Refusal
transposed shape named = do
  axes ← axes_of (length shape) named
  Ok (record { shape = map (λ axis. slice_index shape axis) axes; leads = λ index. put_at axes index (replicate (length axes) 0) })
