-- Rows of items that begin at the offsets of runs.
use Rattle.std.specs.Prelude.{List, map}
use Rattle.arrays.specs.Words.{flat_map, Grid, StridedAxis, Run, run_along, run_offsets}

-- the rows along an axis, one from each offset of the runs
abbrev pub rows_of : StridedAxis → List Run → List Run
rows_of along starts = map (run_along along) (flat_map run_offsets starts)

-- the rows that begin at the offsets of one run, as a grid
abbrev pub grid_of : StridedAxis → Run → Grid
grid_of along starts = record { at = starts.offset; row_step = starts.step; column_step = along.stride; rows = starts.count; columns = along.len }
