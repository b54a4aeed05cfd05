-- What the contracts of this crate cite: its own definitions, and names from std and from the crates below.
pub use Rattle.script_lang.specs.Commands.{bind_at, computation_at, make_at, new_items_at, plain_view_at, question_at, set_at, update_at, value_at, verb_command_at, view_at, viewing_at}
pub use Rattle.script_lang.specs.Descriptors.{depth_behind, descriptor_at, named_behind, record_len}
pub use Rattle.script_lang.specs.Indexes.{argument_at, bracket_at, ellipsis_at, index_at, index_item_at, numbers_at, operand_at, operand_named, optional_index_at, optional_integer_at, step_at}
pub use Rattle.script_lang.specs.Lines.{EachListAnyTurns, is_allowed, line_of}
pub use Rattle.script_lang.specs.Listed.{literals_of}
pub use Rattle.script_lang.specs.Lists.{Shortens, by_rule, none_or_more, one_or_more, row}
pub use Rattle.script_lang.specs.Literals.{byte_text_at, escape_at, hex_digit_at, hex_value, line_end_at, literal_at, literal_within, record_at, scalar_at, text_byte_at}
pub use Rattle.script_lang.specs.Readers.{one_part}
pub use Rattle.script_lang.specs.Reading.{Reads, Says, Scans, Takes, argument_room, index_room, literal_room, operand_room, parts_take_memory, value_room, viewing_room}
pub use Rattle.script_lang.specs.Tokens.{byte_at, bytes_mark_at, file_name_at, flag_at, front_at, integer_at, is_at_end, is_blank, is_file_name, is_name_byte, is_name_start, is_parted, keyword_at, length_at, name_at, names_unless_verb, number_at, quoted_at, starts_with, symbol_at, unspaced, word_at}
pub use Rattle.script_lang.specs.Verbs.{beside, is_constant, order_of, verb_of}
pub use Rattle.script_lang.specs.Words.{bytes_eq, is_ascii_digit, is_ellipsis, list_all, prefix_len, value_of}
pub use Rattle.script_lang.specs.declared.command.Value.TheVariants.{Compute}
pub use Rattle.script_lang.specs.inside.Classes.{is_in}
pub use Rattle.script_lang.specs.inside.Rooms.{optional_index_room, scalar_room}
