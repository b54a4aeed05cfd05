-- At most one joined axis.
use Rattle.std.specs.Prelude.{◌==◌, if◌then◌else◌, List, [], ◌∷◌}
use Rattle.shape_strides.specs.declared.single_run.StridedAxis.{StridedAxis}

-- a single axis as a list of joined axes: an axis of length 1 is skipped
abbrev pub if_long : StridedAxis → List StridedAxis
if_long axis = if axis.len == 1 then [] else axis ∷ []
