-- What the contracts of this crate cite: its own definitions, and names from std and from the crates below.
pub use Rattle.npy_format.specs.Files.{HoldsFileItems, Loads, begins_well, data_size, file_order, length_bytes, load, load_behind, magic, split_front, split_header, text_behind}
pub use Rattle.npy_format.specs.Headers.{HeaderAnyTurns, dictionary_of, header, header_of, value_under}
pub use Rattle.npy_format.specs.Listed.{Literal, Pair}
pub use Rattle.npy_format.specs.RecordLists.{descr_in, entry_in, field_in, pad_kind, record_in}
pub use Rattle.npy_format.specs.SavedFiles.{LoadsAs}
pub use Rattle.npy_format.specs.Tokens.{behind_long, integer_token, is_integer, is_plain_byte, is_space, text_token, token_from, tokens, unspaced_text, word, word_token}
pub use Rattle.npy_format.specs.Words.{Answers, AreBytes, AreInOrder, EachWithin, Gives, IsShallow, TooLarge, blocks, count, decode_item, encode_item, flat_map, is_ascii_alphabetic, is_c_contiguous, is_f_contiguous, item_at, item_from, item_size, leaves_of, little_bytes, max_bytes, max_depth, max_leaves, prefix_len, put, run_offsets, value_of}
unfoldable pub use Rattle.npy_format.specs.Words.{offsets, shape_of}
pub use Rattle.npy_format.specs.WrittenFiles.{is_fortran, saved}
pub use Rattle.npy_format.specs.WrittenHeaders.{entries, gap, in_brackets, padded_text, quoted, written_descr, written_header, written_text, written_truth}
pub use Rattle.npy_format.specs.inside.FieldTypes.{scalar_in, type_in}
pub use Rattle.npy_format.specs.inside.Places.{BeginsWith, HasPairs, HasValues, Stands, entry_parts, shape_under}
pub use Rattle.npy_format.specs.inside.Scanned.{is_string_token, pad_at, string_at, token_of, truth_at}
pub use Rattle.npy_format.specs.inside.Sound.{IsSound}
pub use Rattle.npy_format.specs.inside.WrittenItems.{addresses_in_file, as_in_file, capped, gathered, limit, limits_from}
pub use Rattle.npy_format.specs.inside.WrittenParts.{entry_separator, opened_entry, separated, spaces_after, with_length}
pub use Rattle.std.specs.List.{repeat}
