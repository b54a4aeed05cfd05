-- Names from std and from the crates below, which this crate's definitions, contracts and proofs use.
pub use Rattle.arrays.specs.Assignments.{assigned, items_at}
pub use Rattle.arrays.specs.Blocks.{offsets_in}
pub use Rattle.arrays.specs.ItemLists.{items, owned_items}
pub use Rattle.arrays.specs.Joined.{joined_at}
pub use Rattle.arrays.specs.JoinedLaws.{joined-items, length-joined_at}
pub use Rattle.arrays.specs.Packed.{row_offsets}
pub use Rattle.arrays.specs.PackedLaws.{row-multiples}
pub use Rattle.arrays.specs.RunLaws.{All-back, All-front, BeginsWithin, assigned-append, lie-within, nth-offset, place-at, run_offsets-more}
pub use Rattle.arrays.specs.declared.items.Items.{Items}
pub use Rattle.arrays.specs.declared.owned.Owned.{Owned}
pub use Rattle.broadcasting.specs.BroadcastLaws.{IsIndex-broadcast, broadcast_index-itself}
pub use Rattle.broadcasting.specs.Broadcasts.{all_stretch, broadcast_index, can_stretch, common_with, stretches}
unfoldable pub use Rattle.broadcasting.specs.Broadcasts.{common_of_two}
pub use Rattle.broadcasting.specs.FitLaws.{few-axes, with-fits}
pub use Rattle.elem_descr.specs.Blocks.{item_from}
pub use Rattle.elem_descr.specs.Encoding.{integer, number_in, truth}
pub use Rattle.elem_descr.specs.IndexItems.{is_ellipsis}
pub use Rattle.elem_descr.specs.Items.{decode_item, item_number, item_size}
pub use Rattle.elem_descr.specs.ListLaws.{flat_map-flat_map, flat_map_same, map-flat_map}
pub use Rattle.elem_descr.specs.Refusals.{Gives, check, ◌>>=◌}
unfoldable pub use Rattle.elem_descr.specs.Steps.{stepped}
pub use Rattle.elem_descr.specs.declared.descr.Descr.{Descr}
pub use Rattle.elem_descr.specs.declared.descr.Descr.TheVariants.{Scalar as ScalarDescr}
pub use Rattle.elem_descr.specs.declared.index_item.IndexItem.{IndexItem}
pub use Rattle.elem_descr.specs.declared.index_item.IndexItem.TheVariants.{Array, Ellipsis, Integer, NewAxis, Slice}
pub use Rattle.elem_descr.specs.declared.operators.MemoryOrder.TheVariants.{C}
pub use Rattle.elem_descr.specs.declared.refusal.Refusal.{Refusal}
pub use Rattle.elem_descr.specs.declared.refusal.Refusal.TheVariants.{IndexOutOfRange, IndexShapes, MaskLengths, NotAnIndexType, OutOfMemory, TooLarge, TooManyAxes, TooManyIndices, ZeroStep}
pub use Rattle.elem_descr.specs.declared.scalar.Order.TheVariants.{Little}
pub use Rattle.elem_descr.specs.declared.scalar.Scalar.TheVariants.{Bool as BoolScalar, Byte, Bytes, Int}
pub use Rattle.raw_block.specs.Bytes.{EachWithin, filled, item_at, place, position, put}
pub use Rattle.raw_block.specs.BytesLaws.{fewer, not_negative}
pub use Rattle.raw_block.specs.NumberRuns.{signed_number}
pub use Rattle.shape_strides.specs.Addresses.{LieWithin, address_at, dot, natural}
pub use Rattle.shape_strides.specs.AxisIndexes.{zero_filled}
pub use Rattle.shape_strides.specs.AxisLaws.{IsIndex-first, axis_below, dot-zeros}
pub use Rattle.shape_strides.specs.CountLaws.{factors_pos}
pub use Rattle.shape_strides.specs.IndexLaws.{IsIndex-append, get_or-indexes, index_at, length-index, length-indexes, rank-lt, same_on_indexes}
pub use Rattle.shape_strides.specs.Indexes.{IsIndex, count, indexes, rank}
pub use Rattle.shape_strides.specs.LayoutLaws.{entry-first, get_or-offsets, length-offsets, pos-natural, pos-offset}
pub use Rattle.shape_strides.specs.Layouts.{address, multiples}
unfoldable pub use Rattle.shape_strides.specs.Layouts.{offsets}
pub use Rattle.shape_strides.specs.Limits.{max_axes, max_bytes, max_items}
pub use Rattle.shape_strides.specs.ReverseLaws.{count-append}
pub use Rattle.shape_strides.specs.Runs.{run_offsets}
pub use Rattle.shape_strides.specs.ShapeLaws.{shape_of-same}
pub use Rattle.shape_strides.specs.Shapes.{IsShape}
unfoldable pub use Rattle.shape_strides.specs.Shapes.{shape_of}
pub use Rattle.shape_strides.specs.WalkLaws.{length-run_offsets}
pub use Rattle.shape_strides.specs.declared.layout.Layout.{Layout}
pub use Rattle.shape_strides.specs.declared.runs.Run.{Run}
pub use Rattle.std.specs.List.{flat_map, list_all, list_any}
pub use Rattle.std.specs.Ordering.{int_eq}
pub use Rattle.std.specs.Simd.Lanes.{digits_l}
pub use Rattle.std.specs.Str.{bytes_eq}
pub use Rattle.view_ops.specs.Basics.{Along, At, New, Pick, axis_of, has_step, is_on_axis, picked_index, picked_shape, picks_of, placed, whole, width}
unfoldable pub use Rattle.view_ops.specs.Basics.{picked_view}
pub use Rattle.view_ops.specs.PickLaws.{first_number, length-run, number_at}
pub use Rattle.view_ops.specs.Picks.{ArePicks, first_of, pick_shown}
pub use Rattle.view_ops.specs.Shows.{ShowsThrough}
pub use Rattle.view_ops.specs.Slices.{IsRunWithin, from_front, is_place, run_numbers}
unfoldable pub use Rattle.view_ops.specs.Slices.{slice_indices}
pub use Rattle.view_ops.specs.ViewLaws.{LieWithin-view}
pub use Rattle.view_ops.specs.Views.{GivesView, IsViewOf, View, view_through}
pub use Rattle.view_ops.specs.declared.picks.AxisPick.{AxisPick}
pub use Rattle.view_ops.specs.declared.picks.AxisPick.TheVariants.{Along as AlongAxis, At as AtAxis}
