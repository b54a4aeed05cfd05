-- Names from std and from the crates below, which this crate's definitions, contracts and proofs use.
pub use Rattle.elem_descr.specs.Blocks.{blocks, items_in}
pub use Rattle.elem_descr.specs.ByteLaws.{length-bytes_of, length-encode, length-padded}
pub use Rattle.elem_descr.specs.DescriptorLaws.{field_within, rest_at, seen_fields, weight-one}
pub use Rattle.elem_descr.specs.Descriptors.{InOrder, IsLegal, before, fields_of, listed}
pub use Rattle.elem_descr.specs.Encoding.{FitsBytes, IsNumber, IsValueOf, decode, encode, integer, is_value, low_bits, padded, size, width_size, without_nuls, wrap}
pub use Rattle.elem_descr.specs.EncodingLaws.{decode_encode, low_bits-lt}
pub use Rattle.elem_descr.specs.Fields.{Fields, Structure, no_more, record_field, scalar_field, total}
pub use Rattle.elem_descr.specs.ItemLaws.{AreInOrder-within, leaves_from-before, leaves_from-moved, leaves_in_order}
pub use Rattle.elem_descr.specs.Items.{AreInOrder, decode_item, encode_from, encode_item, item_size, leaves_from, leaves_of, moved_leaf}
pub use Rattle.elem_descr.specs.NulLaws.{without_nuls-back, without_nuls-more}
pub use Rattle.elem_descr.specs.Nuls.{nuls}
pub use Rattle.elem_descr.specs.NumberLaws.{fits_eight_bytes, value_decides}
pub use Rattle.elem_descr.specs.Refusals.{Gives, check, ◌>>=◌}
pub use Rattle.elem_descr.specs.StepCounts.{CountsSteps}
pub use Rattle.elem_descr.specs.StepLaws.{abs_pos, between_back, between_forth, counted_within, far_after, length-numbers_from, near_before, next_number, none_more, number_at, stepped_first, steps_end_below}
pub use Rattle.elem_descr.specs.Steps.{IsGap, is_before, numbers_from}
unfoldable pub use Rattle.elem_descr.specs.Steps.{stepped}
pub use Rattle.elem_descr.specs.Values.{LeafValue, number, text}
pub use Rattle.elem_descr.specs.Weights.{weight}
pub use Rattle.elem_descr.specs.WrapLaws.{int_wrap-low_bits, integer-low_bits}
pub use Rattle.elem_descr.specs.declared.descr.Descr.{Descr}
pub use Rattle.elem_descr.specs.declared.descr.Descr.TheVariants.{Record as RecordDescr, Scalar as ScalarDescr}
pub use Rattle.elem_descr.specs.declared.descr.Field.{Field}
pub use Rattle.elem_descr.specs.declared.descr.Leaf.{Leaf}
pub use Rattle.elem_descr.specs.declared.refusal.Refusal.{Refusal}
pub use Rattle.elem_descr.specs.declared.refusal.Refusal.TheVariants.{LiteralOutOfRange, NoSuchCast, TooLarge, ZeroStep}
pub use Rattle.elem_descr.specs.declared.scalar.Order.TheVariants.{Big, Little}
pub use Rattle.elem_descr.specs.declared.scalar.Scalar.{Scalar}
pub use Rattle.elem_descr.specs.declared.scalar.Scalar.TheVariants.{Bool as BoolScalar, Byte, Bytes as BytesScalar, Int}
pub use Rattle.elem_descr.specs.declared.scalar.Width.TheVariants.{Eight, Four}
pub use Rattle.machine_numbers.specs.Bits.{AreBits}
pub use Rattle.raw_block.specs.Bytes.{joined}
pub use Rattle.raw_block.specs.JoinedLaws.{length-joined}
pub use Rattle.script_lang.specs.Listed.{all_values, literals_of, value_before}
pub use Rattle.script_lang.specs.RecordLaws.{listed_literals_of}
pub use Rattle.script_lang.specs.RecordValues.{Values, no_values, record_value, scalar_value}
pub use Rattle.script_lang.specs.declared.literal.Literal.{Literal}
pub use Rattle.script_lang.specs.declared.literal.Literal.TheVariants.{Record as RecordOf, Scalar as ScalarOf}
pub use Rattle.script_lang.specs.declared.literal.ScalarLiteral.{ScalarLiteral}
pub use Rattle.script_lang.specs.declared.literal.ScalarLiteral.TheVariants.{Boolean, Bytes, Integer}
pub use Rattle.shape_strides.specs.Limits.{max_items}
pub use Rattle.std.specs.List.{list_all}
pub use Rattle.std.specs.Ordering.{int_eq}
