-- What the contracts of this crate cite: its own definitions, and names from std and from the crates below.
pub use Rattle.view_ops.specs.Basics.{axes_taken, axis_of, basic, has_step, is_on_axis, picked_shape, picked_view, picks, picks_of, takes_axis, whole, width}
pub use Rattle.view_ops.specs.FieldViews.{GivesField}
pub use Rattle.view_ops.specs.Picks.{ArePicks, first_of, pick_shown}
pub use Rattle.view_ops.specs.Slices.{IsRunWithin, clamped, from_front, highest, is_place, lowest, run_number, run_numbers, slice_indices, start_of, stop_of}
pub use Rattle.view_ops.specs.Transposes.{are_distinct, axes_of, transposed}
pub use Rattle.view_ops.specs.Views.{GivesView, IsViewOf, KeepsNested, View}
pub use Rattle.view_ops.specs.Words.{Fits, Gives, Integer, IsIndex, NewAxis, address, field_of, flat_map, int_max, is_basic, item_size, list_all, max_axes, max_bytes, range_with_len}
pub use Rattle.view_ops.specs.inside.Axes.{AreAllAxes, transposed_index, transposed_shape}
pub use Rattle.view_ops.specs.inside.Picks.{AddsPicks, HaveSmallSteps, IsSmallPick, IsSmallStep, are_on_axes, axes_of_pick, picked_strides, run_stride, shape_picked, stride_of}
