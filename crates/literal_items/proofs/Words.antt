-- Names from std, from the crates below and from `specs/`, which the proofs use.
pub use Rattle.elem_descr.specs.declared.scalar.Scalar.TheVariants.{Int as IntScalar}
pub use Rattle.literal_items.specs.LiteralItems.{can_be_item, can_hold, field_values, is_castable, is_item_in_range, leaf_value, literal_bytes, literal_number, stand_for, values_of}
unfoldable pub use Rattle.literal_items.specs.LiteralItems.{item_value, item_values}
pub use Rattle.literal_items.specs.RangeItems.{range_count, range_numbers}
unfoldable pub use Rattle.literal_items.specs.RangeItems.{range_items, range_length}
pub use Rattle.literal_items.specs.Words.{AreBits, AreInOrder, AreInOrder-within, Big, BoolScalar, Boolean, Byte, Bytes, BytesScalar, CountsSteps, Descr, Eight, Field, Fields, FitsBytes, Four, InOrder, Int, Integer, IsGap, IsLegal, IsNumber, IsValueOf, Leaf, LeafValue, Literal, LiteralOutOfRange, Little, NoSuchCast, RecordDescr, RecordOf, Refusal, Scalar, ScalarDescr, ScalarLiteral, ScalarOf, Structure, TooLarge, Values, ZeroStep, abs_pos, all_values, before, between_back, between_forth, blocks, check, counted_within, decode, decode_encode, decode_item, encode, encode_from, encode_item, far_after, field_within, fields_of, fits_eight_bytes, int_eq, int_wrap-low_bits, integer, integer-low_bits, is_before, is_value, item_size, items_in, joined, leaves_from, leaves_from-before, leaves_from-moved, leaves_in_order, leaves_of, length-bytes_of, length-encode, length-joined, length-numbers_from, length-padded, list_all, listed, listed_literals_of, literals_of, low_bits, low_bits-lt, max_items, moved_leaf, near_before, next_number, no_more, no_values, none_more, nuls, number, number_at, numbers_from, padded, record_field, record_value, rest_at, scalar_field, scalar_value, seen_fields, size, stepped_first, steps_end_below, text, total, value_before, value_decides, weight, weight-one, width_size, without_nuls, without_nuls-back, without_nuls-more, wrap, ◌>>=◌}
unfoldable pub use Rattle.literal_items.specs.Words.{stepped}
pub use Rattle.literal_items.specs.inside.FieldItems.{can_be_field, field_value, passes, put, put_leaves, stands_for}
pub use Rattle.literal_items.specs.inside.Numbered.{numbered}
pub use Rattle.std.proofs.Math.IntN.{*ℤ-zero, *ℤ_comm}
pub use Rattle.std.proofs.Math.Nat.{mod-lt, mul-le-mul_left, mul-le-mul_right, suc-mul, zero-mul}
pub use Rattle.std.proofs.lemmas.Bool.{and_parts, cases_Bool, cases_lt}
pub use Rattle.std.proofs.lemmas.Bool.Decides.{Decides-int_eq, nat_tests}
pub use Rattle.std.proofs.lemmas.Int.{by_lt_z, clamps, int_wrap-add_left, int_wrap-add_right, int_wrap_fits, ints, of_z-to_z, to_z-of_z, wrapping_add-bits, wrapping_add_onto, wrapping_mul_onto}
pub use Rattle.std.proofs.lemmas.List.{drop-drop, drop-replicate, drop-take, drop_all, drop_at, length-replicate, map-append, replicate-append-replicate, take-replicate, take-take, take_all, take_at, take_min, take_more}
pub use Rattle.std.proofs.lemmas.List.Folds.{list_all_at}
pub use Rattle.std.proofs.lemmas.List.FromFn.{get_or-map-range_with_len, map-range_with_len_more}
pub use Rattle.std.proofs.lemmas.List.Sums.{AllPass-from_list_all, list_all-from_AllPass, suffix_len-le-length}
pub use Rattle.std.proofs.lemmas.Result.{err_from_is_err_and}
pub use Rattle.std.proofs.lemmas.Simd.{map-map}
pub use Rattle.std.specs.Int.{cast_signed, cast_unsigned, div_ceil, int_max, int_wrap, w128, w64}
pub use Rattle.std.specs.List.{AllZip, range_with_len}
