-- The axes of a layout. Adjacent axes are joined if a single stride steps through both.
use Rattle.std.specs.Prelude.{ℕ, ◌*◌, ◌==◌, Bool, if◌then◌else◌, ℤ, pos, ◌*ℤ◌, List, [], ◌∷◌}
use Rattle.shape_strides.specs.Words.{int_eq}
use Rattle.shape_strides.specs.declared.single_run.StridedAxis.{StridedAxis}

-- each axis with its stride, the first axis first
abbrev pub strided_axes : List ℤ → List ℕ → List StridedAxis
strided_axes (stride ∷ strides) (n ∷ shape) = record { len = n; stride = stride } ∷ strided_axes strides shape
strided_axes _ _ = []

-- One step along the outer axis is as long as `inner.len` steps along the inner one.
abbrev pub leads_over : StridedAxis → StridedAxis → Bool
leads_over outer inner = int_eq outer.stride (inner.stride *ℤ pos inner.len)

-- Adds an axis outside of joined axes. An axis of length 1 is skipped, and one that leads over the next axis is joined
-- with it.
abbrev pub join_outside : StridedAxis → List StridedAxis → List StridedAxis
join_outside axis [] = if axis.len == 1 then [] else axis ∷ []
join_outside axis (inner ∷ axes) = if axis.len == 1 then inner ∷ axes else if leads_over axis inner then record { len = axis.len * inner.len; stride = inner.stride } ∷ axes else axis ∷ inner ∷ axes

-- all axes joined, from the last to the first
abbrev pub all_joined : List StridedAxis → List StridedAxis
all_joined [] = []
all_joined (axis ∷ axes) = join_outside axis (all_joined axes)
