-- Names from std and from the crates below, which this crate's definitions, contracts and proofs use.
pub use Rattle.byteorder.proofs.Bytes.{pow256}
pub use Rattle.byteorder.specs.Endian.{big_bytes, big_number, little_bytes, little_number, low_bytes, twos_complement}
pub use Rattle.byteorder.specs.Numbers.{big_from-lt, big_number-reads_back, length-bytes_high_first, length-bytes_low_first, little_from-lt, little_number-reads_back}
pub use Rattle.std.proofs.Math.IntN.{*ℤ-zero, +ℤ_idr}
pub use Rattle.std.proofs.Math.Nat.{min-eq_left, min-eq_right, mod-eq_of_lt, mod-lt, mul-le-mul_right, two-pow-succ}
pub use Rattle.std.proofs.Math.Seq.{take-append_seam}
pub use Rattle.std.proofs.lemmas.Bool.{cases_lt, eqb-true, false_from_ne_true, false≢true, le-leb, lt-leb, lt-ltb, ltb-false, ltb-true, ne_eqb, true_from_ne_false}
pub use Rattle.std.proofs.lemmas.Bool.Decides.{Decides-int_eq}
pub use Rattle.std.proofs.lemmas.Fmt.{decimal_digit, digits_decimal, digits_value-decimal}
pub use Rattle.std.proofs.lemmas.Grind.{div_ceil_times, flat_map-append}
pub use Rattle.std.proofs.lemmas.Int.{by_lt_z, clamps, int_rem_euclid_is, ints}
pub use Rattle.std.proofs.lemmas.List.{append-nil, drop_all, get_or-drop, get_or-replicate, get_or-reverse, get_or-take, get_or_past, length-drop, length-map, length-replicate, length-reverse, map-append, reverse-append, same_lists, take-append-drop, take-append-le, take_all}
pub use Rattle.std.proofs.lemmas.List.FromFn.{get_or-map-range_with_len, length-range_with_len}
pub use Rattle.std.proofs.lemmas.List.Sums.{prefix_len_passes, suffix_len-le-length}
pub use Rattle.std.proofs.lemmas.Nat.{pow-add, pow_pos}
pub use Rattle.std.proofs.lemmas.Str.Parse.{IsNumeralModel, numerals_by_fold, tells_all_ascii_digits}
pub use Rattle.std.specs.Bool.{Decides}
pub use Rattle.std.specs.Char.{is_ascii_digit}
pub use Rattle.std.specs.Cmp.{partial_equiv_from_equiv}
pub use Rattle.std.specs.Cmp.Lexicographic.{nat_list_eq_equiv}
pub use Rattle.std.specs.Cmp.Rules.{hashing}
pub use Rattle.std.specs.Coded.{Coded, code_by, coded_list, coded_ℕ, coded_ℤ, coded×, coded⊎}
pub use Rattle.std.specs.Int.{cast_signed, cast_unsigned, div_ceil, int_max, int_rem_euclid, next_multiple_of, w128, w64}
unfoldable pub use Rattle.std.specs.Int.{int_wrap}
pub use Rattle.std.specs.List.{AllByRecursion, flat_map, list_all, list_any, prefix_len, range_with_len, suffix_len}
unfoldable pub use Rattle.std.specs.List.{IsDistinct}
pub use Rattle.std.specs.Option.{ok_or, option_map}
pub use Rattle.std.specs.Ordering.{int_eq}
pub use Rattle.std.specs.Result.{is_ok}
pub use Rattle.std.specs.Str.{all_ascii_digits, bytes_eq}
pub use base.Stored.{coded_unit}
pub use denote.Param.Weighed.{most}
pub use lib.IntN.{negsuc-*ℤ-pos}
