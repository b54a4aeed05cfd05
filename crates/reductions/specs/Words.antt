-- Names from std and from the crates below, which this crate's definitions, contracts and proofs use.
pub use Rattle.arrays.specs.Blocks.{offsets_in}
pub use Rattle.arrays.specs.ItemLists.{owned_items}
pub use Rattle.arrays.specs.PairLaws.{firsts-reordered, pair_even}
pub use Rattle.arrays.specs.RunLaws.{All-back, All-front, place-at, run_offsets-more, runs-within}
pub use Rattle.arrays.specs.declared.items.Items.{Items}
pub use Rattle.arrays.specs.declared.owned.Owned.{Owned}
pub use Rattle.elem_descr.specs.Blocks.{item_from}
pub use Rattle.elem_descr.specs.ByteLaws.{length-encode, one-encoded}
pub use Rattle.elem_descr.specs.Encoding.{IsNumber, IsValueOf, bytes_of, decode, encode, integer, low_bits, number_in, number_of, size, wrap}
pub use Rattle.elem_descr.specs.EncodingLaws.{low_bits-integer, low_bits-lt}
pub use Rattle.elem_descr.specs.Items.{encode_item, item_number, item_size}
pub use Rattle.elem_descr.specs.ListLaws.{first_is}
pub use Rattle.elem_descr.specs.NumberLaws.{number_size}
pub use Rattle.elem_descr.specs.RefusalLaws.{check_passed}
pub use Rattle.elem_descr.specs.Refusals.{Gives, check, ◌>>=◌}
pub use Rattle.elem_descr.specs.StepLaws.{numbers-split, numbers-suc}
pub use Rattle.elem_descr.specs.Steps.{numbers_from}
pub use Rattle.elem_descr.specs.Values.{LeafValue, number}
pub use Rattle.elem_descr.specs.declared.descr.Descr.{Descr}
pub use Rattle.elem_descr.specs.declared.descr.Descr.TheVariants.{Record as RecordDescr, Scalar as ScalarDescr}
pub use Rattle.elem_descr.specs.declared.operators.MemoryOrder.TheVariants.{C}
pub use Rattle.elem_descr.specs.declared.operators.Red.{Red}
pub use Rattle.elem_descr.specs.declared.operators.Red.TheVariants.{All, Any, ArgMax, ArgMin, Maximum, Minimum, Product, Sum}
pub use Rattle.elem_descr.specs.declared.refusal.Refusal.{Refusal}
pub use Rattle.elem_descr.specs.declared.refusal.Refusal.TheVariants.{BadAxis, EmptyReduction, NotForThisKind, TooLarge}
pub use Rattle.elem_descr.specs.declared.scalar.Order.{Order}
pub use Rattle.elem_descr.specs.declared.scalar.Order.TheVariants.{Big, Little}
pub use Rattle.elem_descr.specs.declared.scalar.Scalar.{Scalar}
pub use Rattle.elem_descr.specs.declared.scalar.Scalar.TheVariants.{Bool as BoolScalar, Byte, Bytes, Int}
pub use Rattle.elem_descr.specs.declared.scalar.Width.TheVariants.{Eight, Four, Two}
pub use Rattle.machine_numbers.specs.Bits.{AreBits}
pub use Rattle.machine_numbers.specs.Kinds.{is_bool, little}
pub use Rattle.machine_numbers.specs.Sides.{number_of_side}
pub use Rattle.machine_numbers.specs.declared.sides.Side.{Side}
pub use Rattle.raw_block.specs.Bytes.{EachWithin, item_at, joined, place, position}
pub use Rattle.raw_block.specs.BytesLaws.{not_negative, position-add}
pub use Rattle.raw_block.specs.JoinedLaws.{all_joined, item_of_joined, joined_list, length-joined}
pub use Rattle.shape_strides.specs.Addresses.{LieWithin, address_at, dot, natural}
pub use Rattle.shape_strides.specs.IndexLaws.{get_or-indexes, index_at, length-index, length-indexes, rank-lt}
pub use Rattle.shape_strides.specs.Indexes.{IsIndex, count, indexes, rank}
pub use Rattle.shape_strides.specs.LayoutLaws.{entry-first, length-offsets, offsets-none, pos-offset}
pub use Rattle.shape_strides.specs.Layouts.{address, multiples}
unfoldable pub use Rattle.shape_strides.specs.Layouts.{offsets}
pub use Rattle.shape_strides.specs.Limits.{max_bytes, max_items}
pub use Rattle.shape_strides.specs.RunPairs.{all_offsets}
pub use Rattle.shape_strides.specs.Runs.{run_along, run_offsets}
unfoldable pub use Rattle.shape_strides.specs.Runs.{runs}
pub use Rattle.shape_strides.specs.ShapeLaws.{shape_of-same}
pub use Rattle.shape_strides.specs.Shapes.{IsShape}
unfoldable pub use Rattle.shape_strides.specs.Shapes.{shape_of}
pub use Rattle.shape_strides.specs.WalkLaws.{length-first, length-run_offsets}
pub use Rattle.shape_strides.specs.declared.layout.Layout.{Layout}
pub use Rattle.shape_strides.specs.declared.runs.Run.{Run}
pub use Rattle.shape_strides.specs.declared.single_run.StridedAxis.{StridedAxis}
pub use Rattle.std.proofs.Math.Nat.{mod-lt}
pub use Rattle.std.proofs.lemmas.Bool.{eqb-true, false_from_ne_true, lt-ltb}
pub use Rattle.std.proofs.lemmas.Int.{clamps, fold-int_max_bounds, fold-int_max_reached, fold-int_min_bounds, fold-int_min_reached, int_wrap-add_left, int_wrap-add_right, int_wrap-mul_left, int_wrap-mul_right, ints, of_z-to_z, wrapping_add-bits, wrapping_mul-bits}
pub use Rattle.std.proofs.lemmas.List.Elements.{All-head, All-tail}
pub use Rattle.std.proofs.lemmas.List.Sums.{fold-append}
pub use Rattle.std.proofs.lemmas.Nat.{pow_pos}
pub use Rattle.std.specs.Cmp.{signed_Decides}
pub use Rattle.std.specs.Int.{cast_signed, cast_unsigned, int_max, int_min}
unfoldable pub use Rattle.std.specs.Int.{int_wrap}
pub use Rattle.std.specs.List.{fold, insert, list_all, list_any, range_with_len, remove}
pub use Rattle.std.specs.Ordering.{int_eq}
pub use Rattle.view_ops.specs.Slices.{from_front, is_place}
pub use mir.Syntax.{w64}
