-- The run that the last axes make, as far as they can be joined.
use Rattle.std.specs.Prelude.{◌≡◌, ℕ, ◌-◌, ◌<◌, ◌≤◌, ℤ, pos, List, [], ◌∷◌, length, drop, slice_index, slice_index_or}
use Rattle.shape_strides.specs.declared.single_run.StridedAxis.{StridedAxis}
use Rattle.shape_strides.specs.Indexes.{count}
use Rattle.shape_strides.specs.Joined.{strided_axes, all_joined}
use Rattle.shape_strides.specs.inside.Single.{if_long}

-- The axes from `axis` on join to the single axis `along`.
pub record AreJoinedFrom (strides : List ℤ) (lengths : List ℕ) (axis : ℕ) (along : StridedAxis) : Type 0 where
  pub are : if_long along ≡ all_joined (strided_axes (drop axis strides) (drop axis lengths))
  pub items : along.len ≡ count (drop axis lengths)
  pub single : along.len ≡ 1 → along.stride ≡ pos 0

-- The axes from `outside` on join to `along`, and the axis before them does not join with it.
pub record IsLastRun (strides : List ℤ) (lengths : List ℕ) (outside : ℕ) (along : StridedAxis) : Type 0 where
  pub within : outside ≤ length lengths
  pub inside : AreJoinedFrom strides lengths outside along
  pub long : 0 < outside → 2 ≤ slice_index lengths (outside - 1)
  pub apart : 0 < outside → all_joined (strided_axes (drop (outside - 1) strides) (drop (outside - 1) lengths))
      ≡ record { len = slice_index lengths (outside - 1); stride = slice_index_or strides (outside - 1) (pos 0) } ∷ along ∷ []
