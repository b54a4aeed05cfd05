-- Names from std, from the crates below and from `specs/`, which the proofs use.
pub use Rattle.elementwise.specs.Bits.{IsTruth}
pub use Rattle.elementwise.specs.Casts.{can_cast, can_cast_fields, can_cast_scalar, cast_item, cast_value, cast_values}
pub use Rattle.elementwise.specs.Comparisons.{compared, says, text_below}
pub use Rattle.elementwise.specs.Operations.{binary, exact, exact_one, floor_quotient, modulo, of_bits, serves_bools, serves_one, shifted_left, shifted_right, sign_bits, unary}
pub use Rattle.elementwise.specs.Promotion.{common_integers, common_type, integer_type, is_division, literal_type, mixed_type}
unfoldable pub use Rattle.elementwise.specs.Promotion.{compared_type, promote, promote_one, same_kind}
pub use Rattle.elementwise.specs.ResultLaws.{is_scalar}
pub use Rattle.elementwise.specs.Results.{GivesArray, binary_item, compared_item, items_stretched, number_as, pairwise, scalar_of, stretched_items, truth_item, unary_item}
unfoldable pub use Rattle.elementwise.specs.Results.{binary_result, bytes_compared_result, compared_result, integer_compared_result, unary_result}
pub use Rattle.elementwise.specs.Words.{Add, And, AreAlike, AreBits, AreBytes, BeginsWithin, Big, BinOp, BoolScalar, Byte, Bytes, Comparison, Descr, Divide, EachWithin, Eight, Equal, Field, Fields, FitsBytes, FloorDivide, Four, Greater, GreaterOrEqual, Int, Invert, IsIndex, IsIndex-broadcast, IsIndex-reverse, IsNumber, IsStretchOf, IsValueOf, IsViewOf, Items, Layout, Leaf, LeafValue, LeavesInOrder, Less, LessOrEqual, LieWithin, Little, Modulo, Multiply, NeedsFloats, Negate, NotEqual, NotForThisKind, NotSameKind, Or, Order, OutOfMemory, Owned, RecordDescr, Refusal, Run, RunPair, Scalar, ScalarDescr, ShiftLeft, ShiftRight, Side, Structure, Subtract, Two, UnOp, View, Width, Xor, address_at, all_joined, all_stretch, before, big_from-cons, big_from-lt, big_number, broadcast_index, bytes-drop, bytes-take, can-itself, can_stretch, check, check_passed, check_test, common_shape, concat, count, count-reverse, decode, decode_encode, decode_item, encode, encode_from, encode_item, encode_wrap, false≢true, fewer, fields_of, fits-offsets, fits_eight_bytes, flat_map, fortran-all, fortran-at, fortran_order, get_or-indexes, get_or-offsets, index_at, indexes, int_wrap-low_bits, integer, integer-differs, integer-fits, is_bool, is_ok, is_signed, is_text, item_at, item_at-put_apart, item_at-put_same, item_from, item_in, item_of_joined, item_size, items, items_at, joined, joined-add, joined_list, leaf_at, leaves_from, leaves_of, length-encode, length-fortran, length-indexes, length-item_at, length-offsets, length-put, length-row, length-run_offsets, length-without_nuls, lie-within, list_all, listed, little, little_from, little_number, low_bits, low_bits-integer, low_bits-lt, max_bytes, multiples, natural, next_pair, no_leaf, no_more, not_negative, nth-offset, nuls, number, number-lt, number_in, number_of, number_of_side, number_size, numbers-split, numbers_from, offsets, offsets_within, one-encoded, owned_items, padded, place, place-at, place_within, position, position-add, put, rank, rank-lt, record_field, rest_at, row-multiples, row-split, row_offsets, run-ends, run-within, run_front, run_offsets, run_offsets-more, run_pairs, runs-within, same_answer, same_on_indexes, scalar_field, seen_fields, size, some_bytes, stretched-self, text, text_of, total, truth, truth-twice, truth_suc, value_in, view_through, weight, weight-one, width_size, with_items, without_nuls, without_nuls-back, without_nuls-more, without_nuls-twice, wrap, wrap_stays, ◌>>=◌}
pub use Rattle.elementwise.specs.declared.fast.chunks.InRuns.{InRuns}
pub use Rattle.elementwise.specs.declared.loops.row_pairs.Broadcast.{Broadcast}
pub use Rattle.elementwise.specs.declared.pairing.Work.{Work}
pub use Rattle.elementwise.specs.declared.pairing.Work.TheVariants.{Cast, Change, Combine, Compare}
pub use Rattle.elementwise.specs.declared.pairing.Pairing.{Pairing}
pub use Rattle.elementwise.specs.declared.pairing.Pairing.TheVariants.{Alike, Signs, Texts}
pub use Rattle.elementwise.specs.declared.loops.row_pairs.Operands.{Operands}
pub use Rattle.elementwise.specs.inside.Columns.{with_leaves}
pub use Rattle.elementwise.specs.inside.Combined.{AreComparedWith, all_given, given, run_items}
pub use Rattle.elementwise.specs.inside.FieldCasts.{can_cast_field}
pub use Rattle.elementwise.specs.inside.LeafCasts.{HasSource, IsCut, IsLeafCast, cast_items, leaf_cast, leaf_from, run_part, source, with_leaf}
pub use Rattle.elementwise.specs.inside.Made.{AreItems, IsMade, IsTurned}
pub use Rattle.elementwise.specs.inside.Operands.{AreAllMade, IsRow, all_made, made_of_all, pairs_of}
pub use Rattle.elementwise.specs.inside.PairPasses.{AreHeld, Holds, IsNative, compared_value, division_op, number_pair, pair_from, said, says_number, text_pair, text_said, truth_value, value_pair}
pub use Rattle.elementwise.specs.inside.Shrunk.{IsShrunk, stretched_view}
pub use Rattle.elementwise.specs.inside.Added.{AreAdded}
pub use Rattle.elementwise.specs.inside.Sides.{AreMadeTo, made_of}
pub use Rattle.elementwise.specs.inside.Words.{AreInOrder, CanCut, IsWord}
pub use Rattle.elementwise.specs.inside.Works.{AreComparable, CanPair, IsWork, gives, left_of, meaning, pair_made, right_of, target, target_of}
pub use Rattle.std.proofs.Math.Bool.{and-false}
pub use Rattle.std.proofs.Math.IntN.{*ℤ_comm}
pub use Rattle.std.proofs.Math.ListN.{get_or-eq_default}
pub use Rattle.std.proofs.Math.Nat.{div-add-mod, div-div-eq-div-mul, div-le_self, mod-eq_of_lt, mod-lt, mod-mod, mul-le-mul, mul-le-mul_left, pow-le-pow_right}
pub use Rattle.std.proofs.Math.Pow.{mod-mod-pow, pow-lt}
pub use Rattle.std.proofs.Math.Seq.{drop-append-add, take-add, take-append-add, take-append_seam}
pub use Rattle.std.proofs.lemmas.Bool.{and_parts, cases_eq, cases_lt, leb-true, lt-ltb, ltb-true, not-true}
pub use Rattle.std.proofs.lemmas.Bool.Decides.{nat_tests}
pub use Rattle.std.proofs.lemmas.Cmp.{same_from_slice_cmp}
pub use Rattle.std.proofs.lemmas.Grind.{flat_map-append}
pub use Rattle.std.proofs.lemmas.Int.{int_rem_euclid_is, int_wrap-add_left, int_wrap-add_right, int_wrap-mul_left, int_wrap-mul_right, int_wrap-sub_right, ints, of_z-to_z, to_z-of_z, wrapping_add-bits, wrapping_mul-bits, wrapping_sub-bits}
pub use Rattle.std.proofs.lemmas.Iterator.Adapters.{YieldsList-from_rev_slice}
pub use Rattle.std.proofs.lemmas.Iterator.Consumers.{count_from_yields_List}
pub use Rattle.std.proofs.lemmas.Iterator.Search.{YieldsList-from_take_while}
pub use Rattle.std.proofs.lemmas.List.{drop-drop, drop-replicate, drop-take, drop_all, ext_get_or, get_or-drop, get_or-map, get_or-replicate, get_or-reverse, get_or-take, get_or_default, length-map, length-replicate, length-reverse, map-append, nil_from_length, replicate-append-replicate, same_lists, take-append-drop, take-append-le, take-replicate, take-take, take_all}
pub use Rattle.std.proofs.lemmas.List.Elements.{All-append, All-cons, All-from_get_or, All-from_recursion, All-head, All-map, All-rest, All-same, All-tail}
pub use Rattle.std.proofs.lemmas.List.Folds.{concat-append, length-prefix_len}
pub use Rattle.std.proofs.lemmas.List.FromFn.{fill_by_all, get_or-map-range_with_len, length-map-range_with_len}
pub use Rattle.std.proofs.lemmas.List.Sums.{AllPass-from_list_all, prefix_len_stops, suffix_len-le-length}
pub use Rattle.std.proofs.lemmas.Nat.{and_le_l, and_mod, or_lt, or_mod, pow-add, pow_below, pow_pos, xor_lt, xor_mod}
pub use Rattle.std.proofs.lemmas.Result.{IfOk-weaker, err_from_is_err_and}
pub use Rattle.std.proofs.lemmas.Simd.{map-map, splat_is_map}
pub use Rattle.std.specs.Cmp.Lexicographic.{slice_cmp}
pub use Rattle.std.specs.Int.{cast_signed, cast_unsigned, int_wrap, w128}
pub use Rattle.std.specs.List.{AllByRecursion as Each, range_with_len}
pub use Rattle.std.specs.Ordering.{is_gt, is_lt, nat_cmp}
pub use Rattle.std.specs.declared.alloc.AllocError.{AllocError}
pub use Rattle.std.specs.declared.cmp.Ordering.{Ordering}
pub use lib.IntN.{+ℤ_idr}
pub use mir.Val.{SFits, bool_byte, of_z, to_z}
