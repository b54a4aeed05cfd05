-- What the contracts of this crate cite: its own definitions, and names from std and from the crates below.
pub use Rattle.bench_engine.specs.Contents.{arange_contents, array_contents, array_type, contents_of, full_contents, integer_scalar, range_scalar, zeros_contents}
pub use Rattle.bench_engine.specs.Headline.{AnswersMeaning, Meaning, meaning_of}
pub use Rattle.bench_engine.specs.IndexLists.{array_by_items, names_in_index, names_in_item, taken}
pub use Rattle.bench_engine.specs.KeptBytes.{KeepsForUndo, KeepsItems}
pub use Rattle.bench_engine.specs.Machine.{OperandValues, argument_items, argument_values, bound_in_computation, bound_new, changed_with, compared_literal, compute_outcome, computed_contents, creation_outcome, literal_scalar, literal_value, literal_values, names_in_argument, names_in_operand, names_in_viewing, new_items, operand_of_literal, operand_part, operand_values, operation_on, operation_scalar, operation_with, origin_of, question_outcome, updated, updated_items, view_outcome, write_outcome, write_reply}
pub use Rattle.bench_engine.specs.Memory.{MayAnswer, bound_in_question}
pub use Rattle.bench_engine.specs.Replies.{Reply, Tells, array_words, bound_text, descr_text, info_text, names_text, order_text, origin_word, yes_or_no}
pub use Rattle.bench_engine.specs.Steps.{bound_loaded, store_refusal, world}
pub use Rattle.bench_engine.specs.Words.{Answers, Argument, Array, Bind, Boolean, Broadcast, Counts, Gives, Indexed, IsNumber, IsPermutation, Load, Reshaped, Save, ScalarDescr, Sends, SendsPart, Shows, State, Supplies, Transposed, Whole, blocks, can_cast, cast_item, compared_item, count, decode_item, has_room_for, index_item_of, index_items, is_basic, is_bound, item_from, item_size, list_all, literal_number, max_bytes, max_items, range_count, size}
unfoldable pub use Rattle.bench_engine.specs.Words.{integer_compared_result, item_value, item_values, offsets, promote, range_items, shape_of}
pub use Rattle.bench_engine.specs.inside.Assigns.{Fitted, IsAimed}
pub use Rattle.bench_engine.specs.inside.Contract.{Carried, CarriesOut}
pub use Rattle.bench_engine.specs.inside.LoadedFiles.{Finds}
pub use Rattle.bench_engine.specs.inside.Meeting.{Meets}
pub use Rattle.bench_engine.specs.inside.Operands.{AreSources, HoldsItems, IsGiven, IsNamed, IsNamedBy, IsPart, Knows, LiesInBuffer, OwnStands, Stands, StandsFor, buffer_number}
pub use Rattle.bench_engine.specs.inside.OwnContents.{IsInCOrder, held}
pub use Rattle.bench_engine.specs.inside.Parts.{IsShown, Sees, SeesIn, origin_of_bound, shape_of_bound}
pub use Rattle.bench_engine.specs.inside.Printing.{MayPrint, SendsAnswer}
pub use Rattle.bench_engine.specs.inside.ReadLines.{ReadsAs, meaning_of_read}
pub use Rattle.bench_engine.specs.inside.Writings.{GoTogether, IsTargetIn, IsTargetOf, Prepares, Writes, WritesIn}
pub use Rattle.name_store.specs.declared.target.Target.TheVariants.{View}
pub use Rattle.script_lang.specs.declared.command.Argument.TheVariants.{Literal as LiteralArgument}
pub use Rattle.script_lang.specs.declared.command.Viewing.TheVariants.{Field}
