-- Lists of axes in which each axis is named once.
use Rattle.std.specs.Prelude.{◌≡◌, ℕ, ◌<◌, ◌==◌, false, List, [], ◌∷◌, length, map, replicate, slice_index}
use Rattle.view_ops.specs.Words.{list_any}
use Rattle.view_ops.specs.Transposes.{put_at}

-- The axes are all below `rank`, and no axis is repeated.
abbrev pub AreAxes : ℕ → List ℕ → Type 0
AreAxes rank [] = Unit {0}
AreAxes rank (axis ∷ axes) = (axis < rank) × (list_any (λ other. other == axis) axes ≡ false) × AreAxes rank axes

-- the shape of a transpose
abbrev pub transposed_shape : List ℕ → List ℕ → List ℕ
transposed_shape axes shape = map (λ axis. slice_index shape axis) axes

-- the index of the old array to which an index of a transpose leads
abbrev pub transposed_index : List ℕ → List ℕ → List ℕ
transposed_index axes index = put_at axes index (replicate (length axes) 0)

-- There are `rank` axes, all different.
pub record AreAllAxes (rank : ℕ) (axes : List ℕ) : Type 0 where
  pub size : length axes ≡ rank
  pub are : AreAxes rank axes
