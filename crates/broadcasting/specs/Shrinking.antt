-- Arrays whose items repeat along some axes, and the smaller arrays from which they can be stretched.
use Rattle.std.specs.Prelude.{◌≡◌, ◌<◌, ◌⊎◌, ℕ, true, ℤ, pos, List, length, slice_index, slice_index_or}
use Rattle.broadcasting.specs.Words.{Layout, IsViewOf}
use Rattle.broadcasting.specs.Broadcasts.{can_stretch, broadcast_index}

-- The axis has two items or more, and its stride is 0, so that it repeats one item.
abbrev pub RepeatsAlong : Layout → ℕ → Type 0
RepeatsAlong l axis = (axis < length l.shape) × (1 < slice_index l.shape axis) × (slice_index_or l.strides axis (pos 0) ≡ pos 0)

-- An axis of length n keeps its length, or its length becomes 1 if it repeats one item.
abbrev pub ShrinksTo : ℕ → ℤ → ℕ → Type 0
ShrinksTo n stride m = (m ≡ n) ⊎ ((m ≡ 1) × (stride ≡ pos 0) × (1 < n))

-- Each axis of the shape shrinks in this way.
pub record CanShrink (shape : List ℕ) (strides : List ℤ) (small : List ℕ) : Type 0 where
  pub axes : length small ≡ length shape
  pub each : (k : ℕ) → k < length shape → ShrinksTo (slice_index shape k) (slice_index_or strides k (pos 0)) (slice_index small k)

-- The large layout is the small one stretched, and the small one shows the large one's items at the same indexes.
pub record IsStretchOf (small large : Layout) : Type 0 where
  pub can : can_stretch small.shape large.shape ≡ true
  pub larger : IsViewOf small large (record { shape = large.shape; leads = broadcast_index small.shape })
  pub smaller : IsViewOf large small (record { shape = small.shape; leads = λ index. index })
