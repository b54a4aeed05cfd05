-- Names from std, from the crates below and from `specs/`, which the proofs use.
pub use Rattle.shape_strides.specs.Addresses.{dot}
pub use Rattle.shape_strides.specs.Layouts.{natural}
pub use Rattle.std.proofs.Math.Nat.{mul-le-mul_right}
pub use Rattle.std.proofs.lemmas.Bool.{and_parts, cases_Bool, cases_eq, cases_lt, false≢true, not-true}
pub use Rattle.std.proofs.lemmas.Bool.Decides.{Decides-int_eq, nat_tests}
pub use Rattle.std.proofs.lemmas.Int.{by_lt_z, clamps, ints, to_z-of_z}
pub use Rattle.std.proofs.lemmas.List.{append-nil, drop-drop, drop_all, drop_more, get_or-replicate, get_or-set_other, get_or-set_same, get_or_read, length-map, length-replicate, map-append, same_lists, take_more}
pub use Rattle.std.proofs.lemmas.List.Concat.{flat_map-append}
pub use Rattle.std.proofs.lemmas.List.Folds.{drop_split}
pub use Rattle.std.proofs.lemmas.List.FromFn.{length-range_with_len, map-range_with_len_more}
pub use Rattle.std.proofs.lemmas.Map.Steps.{length-le_from_distinct_below}
pub use Rattle.std.proofs.lemmas.Result.{err_from_is_err_and}
pub use Rattle.std.specs.Int.{div_ceil, w128}
pub use Rattle.std.specs.List.{AllByRecursion}
unfoldable pub use Rattle.std.specs.List.{IsDistinct}
pub use Rattle.std.specs.Result.{is_ok}
pub use Rattle.view_ops.specs.Basics.{axes_taken, axis_of, Pick, has_step, is_on_axis, picked_index, picked_shape, picks, picks_of, placed, whole, width}
unfoldable pub use Rattle.view_ops.specs.Basics.{basic, picked_view}
pub use Rattle.view_ops.specs.FieldViews.{GivesField}
pub use Rattle.view_ops.specs.PickLaws.{first_number, length-run, number_at}
pub use Rattle.view_ops.specs.Picks.{first_of}
pub use Rattle.view_ops.specs.Shows.{IsView, ShowsThrough}
pub use Rattle.view_ops.specs.Slices.{IsRunWithin, clamped, from_front, highest, is_place, lowest, run_number, run_numbers, start_of, stop_of}
unfoldable pub use Rattle.view_ops.specs.Slices.{slice_indices}
pub use Rattle.view_ops.specs.Transposes.{are_distinct, put_at}
unfoldable pub use Rattle.view_ops.specs.Transposes.{axes_of, transposed}
pub use Rattle.view_ops.specs.ViewLaws.{LieWithin-view, inside-view, offsets-view}
pub use Rattle.view_ops.specs.Views.{GivesView, IsViewOf, KeepsNested, View, view_through}
pub use Rattle.view_ops.specs.Words.{*ℤ-zero, +ℤ_idr, BadAxis, Descr, Ellipsis, Field, Fits, Gives, IndexItem, IndexOutOfRange, Integer, IsIndex, IsIndex-first, IsIndex-from_numbers, IsNested, IsShape, Layout, LieWithin, OutOfMemory, Refusal, Slice, TooManyAxes, TooManyIndices, ZeroStep, abs_pos, address, address_at, axis_below, cancel, check, count, counted_within, distance, dot-nil, dot-zeros, factors_pos, field_at, field_of, flat_map, get_or-map, get_or-offsets, index_at, int_eq, int_max, int_min, is_basic, item_size, length-index, length-offsets, list_all, list_any, max_axes, max_bytes, max_items, offsets, one-step, pos-natural, product_back, product_forth, range_with_len, rank, rank-lt, rank-same, same_answer, shape_of, shape_of-many, shape_of-ok, stepped_first, steps_end_below, zero_filled, zeros_are, ◌>>=◌}
unfoldable pub use Rattle.view_ops.specs.Words.{stepped}
pub use Rattle.view_ops.specs.declared.picks.AxisPick.{AxisPick}
pub use Rattle.view_ops.specs.declared.picks.AxisPick.TheVariants.{Along as AlongAxis, At, At as AtAxis, New as NewAxis}
pub use Rattle.view_ops.specs.declared.slice.Progression.{Progression}
pub use Rattle.view_ops.specs.inside.Axes.{AreAllAxes, AreAxes, transposed_index, transposed_shape}
pub use Rattle.view_ops.specs.inside.Picks.{AddsPicks, ArePicks, HaveSmallSteps, IsSmallPick, IsSmallStep, are_on_axes, axes_of_pick, pick_shown, picked_strides, run_stride, stride_of}
unfoldable pub use Rattle.view_ops.specs.inside.Picks.{shape_picked}
pub use lib.IntN.{+ℤ_assoc, +ℤ_idl, negsuc-*ℤ-negsuc, negsuc-*ℤ-pos, pos-*ℤ-negsuc, zero-*ℤ}
