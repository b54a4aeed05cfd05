-- Names from std and from the crates below, which this crate's definitions, contracts and proofs use.
pub use Rattle.arrays.specs.Assignments.{items_at, with_items}
pub use Rattle.arrays.specs.Blocks.{offsets_in}
pub use Rattle.arrays.specs.FortranLaws.{fortran-all, fortran-at, length-fortran}
pub use Rattle.arrays.specs.ItemLists.{items, owned_items}
pub use Rattle.arrays.specs.Packed.{row_offsets}
pub use Rattle.arrays.specs.PackedLaws.{length-row, row-multiples, row-split}
pub use Rattle.arrays.specs.RunLaws.{BeginsWithin, lie-within, next_pair, nth-offset, place-at, run-ends, run-within, run_offsets-more, runs-within}
pub use Rattle.arrays.specs.declared.items.Items.{Items}
pub use Rattle.arrays.specs.declared.owned.Owned.{Owned}
pub use Rattle.broadcasting.specs.BroadcastLaws.{IsIndex-broadcast, can-itself, stretched-self}
pub use Rattle.broadcasting.specs.Broadcasts.{all_stretch, broadcast_index, can_stretch}
unfoldable pub use Rattle.broadcasting.specs.Broadcasts.{common_shape}
pub use Rattle.broadcasting.specs.Shrinking.{IsStretchOf}
pub use Rattle.byteorder.specs.Endian.{big_number, little_from, little_number}
pub use Rattle.byteorder.specs.Numbers.{big_from-cons, big_from-lt}
pub use Rattle.elem_descr.specs.Blocks.{item_from}
pub use Rattle.elem_descr.specs.ByteLaws.{AreBytes, bytes-drop, bytes-take, length-encode, number-lt, one-encoded, truth-twice}
pub use Rattle.elem_descr.specs.DescriptorLaws.{rest_at, seen_fields, weight-one}
pub use Rattle.elem_descr.specs.Descriptors.{before, fields_of, listed}
pub use Rattle.elem_descr.specs.Encoding.{FitsBytes, IsNumber, IsValueOf, decode, encode, integer, low_bits, number_in, number_of, padded, size, text_of, truth, width_size, without_nuls, wrap}
pub use Rattle.elem_descr.specs.EncodingLaws.{decode_encode, low_bits-integer, low_bits-lt, truth_suc}
pub use Rattle.elem_descr.specs.Fields.{Fields, Structure, no_more, record_field, scalar_field, total}
pub use Rattle.elem_descr.specs.Items.{AreAlike, LeavesInOrder, decode_item, encode_from, encode_item, item_number, item_size, leaf_at, leaves_from, leaves_of, no_leaf, value_in}
pub use Rattle.elem_descr.specs.NulLaws.{length-without_nuls, without_nuls-back, without_nuls-more, without_nuls-twice}
pub use Rattle.elem_descr.specs.Nuls.{nuls}
pub use Rattle.elem_descr.specs.NumberLaws.{encode_wrap, fits_eight_bytes, number_size, some_bytes, wrap_stays}
pub use Rattle.elem_descr.specs.RefusalLaws.{check_passed, check_test, same_answer}
pub use Rattle.elem_descr.specs.Refusals.{Answers, Gives, check, ◌>>=◌}
pub use Rattle.elem_descr.specs.StepLaws.{numbers-split}
pub use Rattle.elem_descr.specs.Steps.{numbers_from}
pub use Rattle.elem_descr.specs.Values.{LeafValue, number, text}
pub use Rattle.elem_descr.specs.Weights.{weight}
pub use Rattle.elem_descr.specs.WrapLaws.{int_wrap-low_bits, integer-differs, integer-fits}
pub use Rattle.elem_descr.specs.declared.descr.Descr.{Descr}
pub use Rattle.elem_descr.specs.declared.descr.Descr.TheVariants.{Record as RecordDescr, Scalar as ScalarDescr}
pub use Rattle.elem_descr.specs.declared.descr.Field.{Field}
pub use Rattle.elem_descr.specs.declared.descr.Leaf.{Leaf}
pub use Rattle.elem_descr.specs.declared.operators.BinOp.{BinOp}
pub use Rattle.elem_descr.specs.declared.operators.BinOp.TheVariants.{Add, And, Divide, FloorDivide, Modulo, Multiply, Or, ShiftLeft, ShiftRight, Subtract, Xor}
pub use Rattle.elem_descr.specs.declared.operators.Comparison.{Comparison}
pub use Rattle.elem_descr.specs.declared.operators.Comparison.TheVariants.{Equal, Greater, GreaterOrEqual, Less, LessOrEqual, NotEqual}
pub use Rattle.elem_descr.specs.declared.operators.MemoryOrder.TheVariants.{C}
pub use Rattle.elem_descr.specs.declared.operators.UnOp.{UnOp}
pub use Rattle.elem_descr.specs.declared.operators.UnOp.TheVariants.{Invert, Negate}
pub use Rattle.elem_descr.specs.declared.refusal.Refusal.{Refusal}
pub use Rattle.elem_descr.specs.declared.refusal.Refusal.TheVariants.{NeedsFloats, NoSuchCast, NotForThisKind, NotSameKind, OutOfMemory, TooLarge}
pub use Rattle.elem_descr.specs.declared.scalar.Order.{Order}
pub use Rattle.elem_descr.specs.declared.scalar.Order.TheVariants.{Big, Little}
pub use Rattle.elem_descr.specs.declared.scalar.Scalar.{Scalar}
pub use Rattle.elem_descr.specs.declared.scalar.Scalar.TheVariants.{Bool as BoolScalar, Byte, Bytes, Int}
pub use Rattle.elem_descr.specs.declared.scalar.Width.{Width}
pub use Rattle.elem_descr.specs.declared.scalar.Width.TheVariants.{Eight, Four, Two}
pub use Rattle.machine_numbers.specs.Bits.{AreBits}
pub use Rattle.machine_numbers.specs.Kinds.{is_bool, is_signed, is_text, little}
pub use Rattle.machine_numbers.specs.Sides.{item_in, number_of_side}
pub use Rattle.machine_numbers.specs.declared.sides.Side.{Side}
pub use Rattle.raw_block.specs.Bytes.{EachWithin, item_at, joined, place, position, put}
pub use Rattle.raw_block.specs.BytesLaws.{fewer, item_at-put_apart, item_at-put_same, length-item_at, length-put, not_negative, place_within, position-add}
pub use Rattle.raw_block.specs.JoinedLaws.{all_joined, item_of_joined, joined-add, joined_list}
pub use Rattle.shape_strides.specs.Addresses.{LieWithin, address_at, natural}
pub use Rattle.shape_strides.specs.Contiguity.{fortran_order}
pub use Rattle.shape_strides.specs.IndexLaws.{get_or-indexes, index_at, length-indexes, rank-lt, same_on_indexes}
pub use Rattle.shape_strides.specs.Indexes.{IsIndex, count, indexes, rank}
pub use Rattle.shape_strides.specs.LayoutLaws.{get_or-offsets, length-offsets, offsets_within}
pub use Rattle.shape_strides.specs.Layouts.{multiples}
unfoldable pub use Rattle.shape_strides.specs.Layouts.{offsets}
pub use Rattle.shape_strides.specs.Limits.{max_bytes, max_items}
pub use Rattle.shape_strides.specs.PlaceLaws.{fits-offsets}
pub use Rattle.shape_strides.specs.ReverseLaws.{IsIndex-reverse, count-reverse}
pub use Rattle.shape_strides.specs.RunPairs.{run_front}
unfoldable pub use Rattle.shape_strides.specs.RunPairs.{run_pairs}
pub use Rattle.shape_strides.specs.Runs.{run_offsets}
pub use Rattle.shape_strides.specs.WalkLaws.{length-run_offsets}
pub use Rattle.shape_strides.specs.declared.layout.Layout.{Layout}
pub use Rattle.shape_strides.specs.declared.run_pairs.RunPair.{RunPair}
pub use Rattle.shape_strides.specs.declared.runs.Run.{Run}
pub use Rattle.std.proofs.lemmas.Bool.{false≢true}
pub use Rattle.std.specs.Int.{int_div_euclid}
pub use Rattle.std.specs.List.{concat, flat_map, list_all}
pub use Rattle.std.specs.Result.{is_ok}
pub use Rattle.view_ops.specs.Views.{IsViewOf, View, view_through}
