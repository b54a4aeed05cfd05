-- Names from std, from the crates below and from `specs/`, which the proofs use.
pub use Rattle.npy_format.specs.Files.{HoldsFileItems, Loads, begins_well, data_size, file_order, length_bytes, magic, max_header, split_front, text_behind}
unfoldable pub use Rattle.npy_format.specs.Files.{load, load_behind, split_header}
pub use Rattle.npy_format.specs.Headers.{HeaderAnyTurns, dictionary_of, header, integers_of, is_string, lengths_of, truth_of, value_under}
unfoldable pub use Rattle.npy_format.specs.Headers.{header_of}
pub use Rattle.npy_format.specs.Listed.{Literal, Pair, Plain, Row, all_listed_values, value_literals}
pub use Rattle.npy_format.specs.Literals.{Read, bracketed, if_read, list_end, pairs_in, symbol_token_at}
unfoldable pub use Rattle.npy_format.specs.Literals.{dictionary_in, entries_in, list_in, literal_in, pair_in, tuple_in}
pub use Rattle.npy_format.specs.RecordLists.{Reader, descr_in, entry_in, fields_in, named_in, pad_in, pad_kind}
unfoldable pub use Rattle.npy_format.specs.RecordLists.{field_in, record_in}
pub use Rattle.npy_format.specs.SavedFiles.{LoadsAs}
pub use Rattle.npy_format.specs.Tokens.{Stray, Symbol, Token, behind_long, ended_text, first_token, integer_token, is_integer, is_plain_byte, is_space, text_token, token_from, tokens_in, unspaced_text, word_token}
unfoldable pub use Rattle.npy_format.specs.Tokens.{tokens}
pub use Rattle.npy_format.specs.Values.{Dictionary, Integer, Nothing, Round, Square, Text, Truth, no_values}
pub use Rattle.npy_format.specs.Words.{Answers, AreBytes, AreInOrder, AreInOrder-within, AreNamedWithin, BadDescriptor, BadHeader, BadMagic, Big, BoolScalar, Bor, Byte, Bytes, Descr, DescriptorLeftOut, EachWithin, Field, Fields, Four, Gives, InOrder, InOrder-within, Int, IsIndex-first, IsIndex-from_reverse, IsIndex-reverse, IsShape, Leaf, LeafValue, Little, Order, OutOfMemory, Partial, RecordDescr, Refusal, Run, Scalar, ScalarDescr, Structure, TooLarge, Truncated, Two, added_ok, before, begins_within, big_bytes, big_from, big_from-cons, big_from-lt, big_number, big_number-reads_back, bind_ok, bind_same, blocks, bytes-drop, bytes-take, bytes_eq, bytes_of, check, count, count-reverse, decode, decode_item, depth, digits-decimal, empty, encode, encode_from, encode_item, field_of, field_within, fields_of, first_address, first_address-entry, first_field, flat_map, fortran_order, front_length, get_or-indexes, grown, index_at, indexes, is_ascii_alphabetic, is_ascii_digit, is_c_contiguous, is_empty, is_f_contiguous, is_field_name_byte, is_legal_name, is_taken, item_at, item_from, item_size, leaf_count, leaves_in_order, leaves_of, length-bytes_high_first, length-bytes_low_first, length-encode, length-fortran, length-indexes, length-item_at, length-leaves_from, length-offsets, length-run_offsets, list_all, listed, listed-fields_of, little_bytes, little_from, little_from-cons, little_from-lt, little_number, little_number-reads_back, low_bits-integer, max_bytes, max_depth, max_items, name_ok, names, names_of, no_more, not_taken, nuls, number, number-lt, number_in, offsets, offsets_in, ok_or, option_map, packed, padded, place, place-at, prefix_len, put, rank, rank-lt, rank-zeros, reads_spelling, record_field, record_type, rest_at, reverse-replicate, run-ends, run_offsets, run_offsets-more, runs, runs-within, scalar_field, shape_of-capped, shape_of-many, shape_read, shape_text, size, some_depth, some_leaves, spelling, total, truth, truth-twice, truth_suc, value_of, value_of-decimal, weight, weight-one, widened-capped, width_size, without_nuls, without_nuls-back, zero_filled, ◌>>=◌}
unfoldable pub use Rattle.npy_format.specs.Words.{added, checked_name, closed_record, shape_of, widened}
pub use Rattle.npy_format.specs.WrittenFiles.{file_of, is_fortran, ordered}
unfoldable pub use Rattle.npy_format.specs.WrittenFiles.{saved}
pub use Rattle.npy_format.specs.WrittenHeaders.{entries, entry, gap, in_brackets, max_short_text, padded_text, quoted, written_descr, written_header, written_text, written_truth}
pub use Rattle.npy_format.specs.declared.header.Header.{Header}
pub use Rattle.npy_format.specs.declared.token.Token.{Token as Scanned}
pub use Rattle.npy_format.specs.inside.Entries.{behind, behind_all, behind_comma, behind_entries, behind_entry, behind_key, behind_one}
pub use Rattle.npy_format.specs.inside.Places.{HasPairs, HasValues, StandIn, Stands, entry_parts, is_key, name_and_type, shape_under, value_in}
pub use Rattle.npy_format.specs.inside.Scanned.{integer_at, is_quote, is_string_token, pad_at, string_at, token_of, truth_at}
pub use Rattle.npy_format.specs.inside.Sound.{IsSound}
pub use Rattle.npy_format.specs.inside.WrittenItems.{addresses_in_file, capped, gathered, limit, limits_from, read_leaf, written_item}
pub use Rattle.std.proofs.Math.Bool.{and-false}
pub use Rattle.std.proofs.Math.Nat.{min-zero, mod-lt, mul-add, mul-le-mul_left}
pub use Rattle.std.proofs.Math.Seq.{drop-append-add, drop-append_seam, take-add, take-append_seam}
pub use Rattle.std.proofs.lemmas.Bool.{and_parts, cases_lt, eqb-true, le-leb, le-ltb, leb-true, lt-leb, lt-ltb, ne_eqb, true≢false}
pub use Rattle.std.proofs.lemmas.Bool.Decides.{nat_tests}
pub use Rattle.std.proofs.lemmas.Fmt.{decimal_digit, decimal_nonempty, first_decimal, length-decimal-le}
pub use Rattle.std.proofs.lemmas.Grind.{common_steps, flat_map-append}
pub use Rattle.std.proofs.lemmas.List.{append-nil, at_drop_all, drop-append-le, drop-drop, drop_all, ext_get_or, get_or-map, get_or_past, length-map, length-replicate, length-reverse, map-append, reverse-reverse, take-append-drop, take-append-le, take_all}
pub use Rattle.std.proofs.lemmas.List.Elements.{All-head, All-rest, All-tail, same_from_all_zip}
pub use Rattle.std.proofs.lemmas.List.Folds.{flat_map-map}
pub use Rattle.std.proofs.lemmas.List.FromFn.{get_or-map-range_with_len, length-map-range_with_len}
pub use Rattle.std.proofs.lemmas.List.Sums.{suffix_len-le-length}
pub use Rattle.std.proofs.lemmas.Nat.{div-mul-add}
pub use Rattle.std.proofs.lemmas.Result.{err_from_is_err_and}
pub use Rattle.std.proofs.lemmas.Slice.Eq.{bytes_eq-Decides}
unfoldable pub use Rattle.std.specs.Fmt.{digits}
pub use Rattle.std.specs.Int.{byte_at, bytes_high_first, bytes_low_first}
pub use Rattle.std.specs.List.{IsDistinct, range_with_len, repeat}
pub use Rattle.std.specs.Option.{is_some}
pub use Rattle.std.specs.Vec.{vec_len}
pub use Rattle.npy_format.specs.inside.FieldTypes.{type_in}
pub use Rattle.npy_format.specs.inside.WrittenParts.{entry_separator, opened_entry, separated, spaces_after, with_length}
