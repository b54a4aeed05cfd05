-- Names from std and from the crates below, which this crate's definitions, contracts and proofs use.
pub use Rattle.arrays.specs.Blocks.{offsets_in}
pub use Rattle.arrays.specs.FortranLaws.{length-fortran}
pub use Rattle.arrays.specs.RunLaws.{place-at, run-ends, run_offsets-more, runs-within}
pub use Rattle.arrays.specs.declared.owned.Owned.{Owned}
pub use Rattle.byteorder.specs.Endian.{big_bytes, big_from, big_number, little_bytes, little_from, little_number}
pub use Rattle.byteorder.specs.Numbers.{big_from-cons, big_from-lt, big_number-reads_back, length-bytes_high_first, length-bytes_low_first, little_from-cons, little_from-lt, little_number-reads_back}
pub use Rattle.elem_descr.specs.Blocks.{blocks, item_from}
pub use Rattle.elem_descr.specs.BuildingLaws.{added_ok, field_of, grown, name_ok, names, not_taken, packed, record_type, widened-capped}
pub use Rattle.elem_descr.specs.ByteLaws.{AreBytes, bytes-drop, bytes-take, length-encode, number-lt, truth-twice}
pub use Rattle.elem_descr.specs.DescriptorLaws.{InOrder-within, field_within, first_field, listed-fields_of, rest_at, some_depth, some_leaves, weight-one}
pub use Rattle.elem_descr.specs.Descriptors.{AreNamedWithin, InOrder, IsLegal, before, depth, fields_of, leaf_count, listed, names_of}
pub use Rattle.elem_descr.specs.DigitLaws.{digits-decimal, value_of-decimal}
pub use Rattle.elem_descr.specs.Encoding.{bytes_of, decode, encode, number_in, padded, size, truth, width_size, without_nuls}
pub use Rattle.elem_descr.specs.EncodingLaws.{low_bits-integer, truth_suc}
pub use Rattle.elem_descr.specs.Fields.{Fields, Structure, no_more, record_field, scalar_field, total}
pub use Rattle.elem_descr.specs.FormatLetters.{is_empty}
pub use Rattle.elem_descr.specs.ItemLaws.{AreInOrder-within, leaves_in_order, length-leaves_from}
pub use Rattle.elem_descr.specs.Items.{AreInOrder, decode_item, encode_from, encode_item, item_size, leaves_of}
pub use Rattle.elem_descr.specs.Names.{is_field_name_byte, is_legal_name}
pub use Rattle.elem_descr.specs.NulLaws.{reverse-replicate, without_nuls-back}
pub use Rattle.elem_descr.specs.Nuls.{nuls}
pub use Rattle.elem_descr.specs.RecordBuilding.{IsShallow, Partial, empty, is_taken, max_depth, max_leaves}
unfoldable pub use Rattle.elem_descr.specs.RecordBuilding.{added, checked_name, closed_record, widened}
pub use Rattle.elem_descr.specs.RefusalLaws.{bind_ok, bind_same}
pub use Rattle.elem_descr.specs.Refusals.{Answers, Gives, check, ◌>>=◌}
pub use Rattle.elem_descr.specs.SpellingLaws.{reads_spelling}
pub use Rattle.elem_descr.specs.TypeStrings.{marked, spelling, typestr, value_of}
pub use Rattle.elem_descr.specs.Values.{LeafValue, number}
pub use Rattle.elem_descr.specs.Weights.{weight}
pub use Rattle.elem_descr.specs.declared.descr.Descr.{Descr}
pub use Rattle.elem_descr.specs.declared.descr.Descr.TheVariants.{Record as RecordDescr, Scalar as ScalarDescr}
pub use Rattle.elem_descr.specs.declared.descr.Field.{Field}
pub use Rattle.elem_descr.specs.declared.descr.Leaf.{Leaf}
pub use Rattle.elem_descr.specs.declared.operators.MemoryOrder.{MemoryOrder}
pub use Rattle.elem_descr.specs.declared.operators.MemoryOrder.TheVariants.{C, Fortran}
pub use Rattle.elem_descr.specs.declared.refusal.Refusal.{Refusal}
pub use Rattle.elem_descr.specs.declared.refusal.Refusal.TheVariants.{BadDescriptor, BadHeader, BadMagic, BadVersion, DescriptorLeftOut, OutOfMemory, TooLarge, Truncated}
pub use Rattle.elem_descr.specs.declared.scalar.Order.{Order}
pub use Rattle.elem_descr.specs.declared.scalar.Order.TheVariants.{Big, Little}
pub use Rattle.elem_descr.specs.declared.scalar.Scalar.{Scalar}
pub use Rattle.elem_descr.specs.declared.scalar.Scalar.TheVariants.{Bool as BoolScalar, Byte, Bytes, Int}
pub use Rattle.elem_descr.specs.declared.scalar.Width.TheVariants.{Four, Two}
pub use Rattle.raw_block.specs.Bytes.{EachWithin, item_at, place, put}
pub use Rattle.raw_block.specs.BytesLaws.{begins_within, front_length, length-item_at}
pub use Rattle.shape_strides.specs.AxisIndexes.{zero_filled}
pub use Rattle.shape_strides.specs.AxisLaws.{IsIndex-first, rank-zeros}
pub use Rattle.shape_strides.specs.Contiguity.{first_address, fortran_order, is_c_contiguous, is_f_contiguous}
pub use Rattle.shape_strides.specs.ContiguityLaws.{first_address-entry}
pub use Rattle.shape_strides.specs.IndexLaws.{get_or-indexes, index_at, length-indexes, rank-lt}
pub use Rattle.shape_strides.specs.Indexes.{count, indexes, rank}
pub use Rattle.shape_strides.specs.LayoutLaws.{length-offsets}
unfoldable pub use Rattle.shape_strides.specs.Layouts.{offsets}
pub use Rattle.shape_strides.specs.Limits.{max_bytes, max_items}
pub use Rattle.shape_strides.specs.ReverseLaws.{IsIndex-from_reverse, IsIndex-reverse, count-reverse}
pub use Rattle.shape_strides.specs.Runs.{run_offsets}
unfoldable pub use Rattle.shape_strides.specs.Runs.{runs}
pub use Rattle.shape_strides.specs.ShapeLaws.{shape_of-capped, shape_of-many, shape_read}
pub use Rattle.shape_strides.specs.Shapes.{IsShape, shape_text}
unfoldable pub use Rattle.shape_strides.specs.Shapes.{shape_of}
pub use Rattle.shape_strides.specs.WalkLaws.{length-run_offsets}
pub use Rattle.shape_strides.specs.declared.runs.Run.{Run}
pub use Rattle.std.specs.Borrow.{Bor}
pub use Rattle.std.specs.Char.{is_ascii_alphabetic, is_ascii_digit}
pub use Rattle.std.specs.List.{flat_map, list_all, prefix_len}
pub use Rattle.std.specs.Option.{ok_or, option_map}
pub use Rattle.std.specs.Str.{bytes_eq}
