-- The lengths of axes.
use Rattle.std.specs.Prelude.{ℕ, List, map}
use Rattle.shape_strides.specs.declared.single_run.StridedAxis.{StridedAxis}

abbrev pub lengths_of : List StridedAxis → List ℕ
lengths_of axes = map (λ axis. axis.len) axes
