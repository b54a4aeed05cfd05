-- Names from std and from the crates below, which this crate's definitions, contracts and proofs use.
pub use Rattle.elem_descr.specs.IndexItems.{is_basic}
pub use Rattle.elem_descr.specs.Items.{field_at, field_of, item_size}
pub use Rattle.elem_descr.specs.RefusalLaws.{same_answer}
pub use Rattle.elem_descr.specs.Refusals.{Gives, check, ◌>>=◌}
pub use Rattle.elem_descr.specs.StepLaws.{abs_pos, counted_within, product_back, product_forth, stepped_first, steps_end_below}
unfoldable pub use Rattle.elem_descr.specs.Steps.{stepped}
pub use Rattle.elem_descr.specs.declared.descr.Descr.{Descr}
pub use Rattle.elem_descr.specs.declared.descr.Field.{Field}
pub use Rattle.elem_descr.specs.declared.index_item.IndexItem.{IndexItem}
pub use Rattle.elem_descr.specs.declared.index_item.IndexItem.TheVariants.{Ellipsis, Integer, NewAxis, Slice}
pub use Rattle.elem_descr.specs.declared.refusal.Refusal.{Refusal}
pub use Rattle.elem_descr.specs.declared.refusal.Refusal.TheVariants.{BadAxis, IndexOutOfRange, NoSuchField, OutOfMemory, TooManyAxes, TooManyIndices, ZeroStep}
pub use Rattle.shape_strides.specs.Addresses.{LieWithin, address_at, natural}
pub use Rattle.shape_strides.specs.AxisIndexes.{zero_filled}
pub use Rattle.shape_strides.specs.AxisLaws.{IsIndex-first, axis_below, dot-nil, dot-zeros, one-step, zeros_are}
pub use Rattle.shape_strides.specs.CountLaws.{factors_pos}
pub use Rattle.shape_strides.specs.IndexLaws.{IsIndex-from_numbers, get_or-indexes, index_at, length-index, length-indexes, rank-lt, rank-same, same_on_indexes}
pub use Rattle.shape_strides.specs.Indexes.{IsIndex, count, indexes, rank}
pub use Rattle.shape_strides.specs.LayoutLaws.{get_or-offsets, length-offsets, pos-natural}
pub use Rattle.shape_strides.specs.Layouts.{Fits, IsNested, address, distance}
unfoldable pub use Rattle.shape_strides.specs.Layouts.{offsets}
pub use Rattle.shape_strides.specs.Limits.{max_axes, max_bytes, max_items}
pub use Rattle.shape_strides.specs.PermutationLaws.{cancel}
pub use Rattle.shape_strides.specs.ShapeLaws.{shape_of-many, shape_of-ok}
pub use Rattle.shape_strides.specs.Shapes.{IsShape}
unfoldable pub use Rattle.shape_strides.specs.Shapes.{shape_of}
pub use Rattle.shape_strides.specs.declared.layout.Layout.{Layout}
pub use Rattle.std.proofs.lemmas.List.{get_or-map}
pub use Rattle.std.proofs.lemmas.List.FromFn.{get_or-map-range_with_len, length-map-range_with_len}
pub use Rattle.std.specs.Int.{int_max, int_min}
pub use Rattle.std.specs.List.{flat_map, list_all, list_any, range_with_len}
pub use Rattle.std.specs.Ordering.{int_eq}
pub use Rattle.std.specs.Result.{result_unwrap_or}
pub use lib.IntN.{*ℤ-zero, +ℤ_idr}
