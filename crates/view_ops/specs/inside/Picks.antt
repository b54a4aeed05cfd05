-- The picks of a basic index, with slices as runs.
use Rattle.std.specs.Prelude.{◌≡◌, ◌≤◌, ℕ, Bool, nat_le, nat_lt, length, if◌then◌else◌, ℤ, pos, neg_ℤ, ◌*ℤ◌, ◌≤ℤ◌, List, [], ◌∷◌, ◌++◌, map, Result, Ok}
use Rattle.view_ops.specs.Words.{list_all, IndexItem, Refusal, TooManyAxes, ◌>>=◌, check, max_axes, max_bytes}
use Rattle.view_ops.specs.declared.picks.AxisPick.{AxisPick}
use Rattle.view_ops.specs.declared.picks.AxisPick.TheVariants.{At as AtAxis, Along as AlongAxis, New as NewAxis}
use Rattle.view_ops.specs.declared.slice.Progression.{Progression}
pub use Rattle.view_ops.specs.Picks.{pick_shown, ArePicks}
use Rattle.view_ops.specs.Basics.{Pick, axes_taken, is_on_axis, picked_shape, placed}

-- The new list is the old one followed by picks of these axes, which are shown as `picks`.
pub record AddsPicks (old new : List AxisPick) (axes : List ℕ) (picks : List Pick) : Type 0 where
  pub added : List AxisPick
  pub after : new ≡ old ++ added
  pub are : ArePicks axes added
  pub show : map pick_shown added ≡ picks

abbrev pub are_on_axes : {A : Type 0} → List ℕ → List (IndexItem A) → Bool
are_on_axes shape items = list_all (λ p. is_on_axis p.axes p.item) (placed axes_taken shape items)

-- the shape of a view, or the refusal if it has too many axes
unfoldable pub shape_picked : List Pick → Result (List ℕ) Refusal
shape_picked picks = do
  _ ← check (nat_le (length (picked_shape picks)) max_axes) TooManyAxes
  Ok (picked_shape picks)

abbrev pub axes_of_pick : AxisPick → ℕ
axes_of_pick NewAxis = 0
axes_of_pick _ = 1

-- ---- strides

-- The stride of an axis of fewer than 2 items is 0.
abbrev pub run_stride : ℤ → Progression → ℤ
run_stride stride run = if nat_lt run.count 2 then pos 0 else stride *ℤ run.step

-- the stride of the axis, if any, that a pick makes from an axis with this stride
abbrev pub stride_of : ℤ → AxisPick → List ℤ
stride_of stride (AtAxis number) = []
stride_of stride (AlongAxis run) = run_stride stride run ∷ []
stride_of stride NewAxis = pos 0 ∷ []

abbrev pub picked_strides : List ℤ → List AxisPick → List ℤ
picked_strides strides (NewAxis ∷ picks) = pos 0 ∷ picked_strides strides picks
picked_strides (stride ∷ strides) (AtAxis number ∷ picks) = picked_strides strides picks
picked_strides (stride ∷ strides) (AlongAxis run ∷ picks) = run_stride stride run ∷ picked_strides strides picks
picked_strides _ _ = []

-- A step along an axis with this stride is within the limit of a buffer, in items and in bytes.
pub record IsSmallStep (stride step : ℤ) : Type 0 where
  pub step_low : neg_ℤ (pos max_bytes) ≤ℤ step
  pub step_high : step ≤ℤ pos max_bytes
  pub low : neg_ℤ (pos max_bytes) ≤ℤ (stride *ℤ step)
  pub high : (stride *ℤ step) ≤ℤ pos max_bytes

abbrev pub IsSmallPick : ℤ → AxisPick → Type 0
IsSmallPick stride (AlongAxis run) = 2 ≤ run.count → IsSmallStep stride run.step
IsSmallPick stride _ = Unit {0}

-- Each pick of axes with these strides takes small steps.
abbrev pub HaveSmallSteps : List ℤ → List AxisPick → Type 0
HaveSmallSteps strides (NewAxis ∷ picks) = HaveSmallSteps strides picks
HaveSmallSteps [] [] = Unit {0}
HaveSmallSteps (stride ∷ strides) (pick ∷ picks) = IsSmallPick stride pick × HaveSmallSteps strides picks
HaveSmallSteps _ _ = ⊥
