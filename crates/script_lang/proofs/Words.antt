-- Names from std, from the crates below and from `specs/`, which the proofs use.
pub use Rattle.script_lang.specs.Commands.{computation_at, form_at, new_items_at, value_at, viewing_at, viewing_of}
unfoldable pub use Rattle.script_lang.specs.Commands.{bind_at, command_at, make_at, plain_view_at, set_at, transpose_at, update_at, view_at}
pub use Rattle.script_lang.specs.Descriptors.{depth_behind, descriptor_at, is_mark, named_behind}
unfoldable pub use Rattle.script_lang.specs.Descriptors.{record_len, record_mark_at}
pub use Rattle.script_lang.specs.Indexes.{bracket_at, numbers_at, operand_named, shape_at, signed_shape_at, step_at}
unfoldable pub use Rattle.script_lang.specs.Indexes.{argument_at, ellipsis_at, index_at, index_item_at, operand_at, optional_index_at, optional_integer_at, slice_at}
pub use Rattle.script_lang.specs.Lines.{EachListAnyTurns, is_allowed}
pub use Rattle.script_lang.specs.Listed.{all_values, literals_of}
pub use Rattle.script_lang.specs.Lists.{AnyTurns, Shortens, closed}
unfoldable pub use Rattle.script_lang.specs.Lists.{by_rule, comma_next, entry_first, in_turns, none_or_more, one_or_more, row}
pub use Rattle.script_lang.specs.Literals.{hex_value, is_plain, line_end_at, plain_byte_at}
unfoldable pub use Rattle.script_lang.specs.Literals.{byte_text_at, escape_at, hex_digit_at, literal_at, literal_within, record_at, scalar_at, text_byte_at}
pub use Rattle.script_lang.specs.Reading.{argument_room, computation_room, index_room, literal_room, operand_room, parts_take_memory, value_room, viewing_room}
pub use Rattle.script_lang.specs.inside.Rooms.{optional_index_room, scalar_room}
pub use Rattle.script_lang.specs.RecordLaws.{length_literals_of, listed_literals_of}
pub use Rattle.script_lang.specs.RecordValues.{Values, no_values, record_value, scalar_value, value_count}
pub use Rattle.script_lang.specs.Tokens.{behind, byte_at, front_at, front_of, is_at_end, is_blank, is_name, is_name_byte, is_name_start, meaning_at, names_unless_verb, quoted_at, starts_with, symbol_at, unspaced}
pub use Rattle.script_lang.specs.Readers.{ReaderOf, if_found, one_part, only, optional, two_parts, ◌>>=◌, ◌or_else◌}
unfoldable pub use Rattle.script_lang.specs.Tokens.{bytes_mark_at, integer_at, is_parted, keyword_at, length_at, name_at, number_at, word_at}
pub use Rattle.script_lang.specs.Verbs.{operation_of, verbs}
unfoldable pub use Rattle.script_lang.specs.Verbs.{beside, verb_of}
pub use Rattle.script_lang.specs.Words.{Ellipsis, IndexItem, NewAxis, OutOfMemory, Refusal, Slice, Syntax, UnOp, bytes_eq, is_ascii_digit, is_ellipsis, list_all, option_and_then, option_map, prefix_len, value_of}
pub use Rattle.script_lang.specs.declared.command.Command.{Command}
pub use Rattle.script_lang.specs.declared.command.Operand.{Operand}
pub use Rattle.script_lang.specs.declared.command.Operation.{Operation}
pub use Rattle.script_lang.specs.declared.literal.Literal.{Literal}
pub use Rattle.script_lang.specs.declared.literal.Literal.TheVariants.{Record, Scalar}
pub use Rattle.script_lang.specs.declared.command.Argument.TheVariants.{Operand as OperandArgument, Literal as LiteralArgument}
pub use Rattle.script_lang.specs.declared.command.Computation.TheVariants.{Cast, Combine, Transform}
pub use Rattle.script_lang.specs.declared.command.Value.TheVariants.{Compute}
pub use Rattle.script_lang.specs.declared.command.Viewing.TheVariants.{Broadcast, Field, Reshaped}
pub use Rattle.script_lang.specs.declared.literal.ScalarLiteral.{ScalarLiteral}
pub use Rattle.script_lang.specs.declared.literal.ScalarLiteral.TheVariants.{Boolean, Bytes, Integer}
pub use Rattle.script_lang.specs.declared.verb.ComputeVerb.{ComputeVerb}
pub use Rattle.script_lang.specs.declared.verb.MakeVerb.{MakeVerb}
pub use Rattle.script_lang.specs.declared.verb.Verb.{Verb}
pub use Rattle.script_lang.specs.declared.verb.ViewVerb.{ViewVerb}
pub use Rattle.std.proofs.Math.Dec.{eqb-suc-zero}
pub use Rattle.std.proofs.Math.Nat.{pow-le-pow_right}
pub use Rattle.std.proofs.lemmas.Bool.{cases_Bool, cases_lt, false_from_ne_true, false≢true, lt-ltb}
pub use Rattle.std.proofs.lemmas.Int.{to_z-of_z}
pub use Rattle.std.proofs.lemmas.List.{append-nil, drop_all, drop_more}
pub use Rattle.std.proofs.lemmas.Result.{err_from_is_err_and}
pub use Rattle.std.proofs.lemmas.Slice.Eq.{bytes_eq-Decides}
pub use borrow.Author.Tests.{tests}
pub use mir.Syntax.{w128}
