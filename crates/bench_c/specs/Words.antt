-- Names from std and from the crates below, which the definitions and contracts of the calls for arrays use.
pub use Rattle.bench_engine.specs.Contents.{Contents, array_over, new_contents}
unfoldable pub use Rattle.bench_engine.specs.Contents.{array_type}
pub use Rattle.bench_engine.specs.Machine.{Choice, IsAllowed, Outcome, accepted_with, array_of, bound_new}
unfoldable pub use Rattle.bench_engine.specs.Machine.{cast_items, creation_outcome}
pub use Rattle.bench_engine.specs.Replies.{bound_text, descr_text}
pub use Rattle.bench_engine.specs.declared.replies.Origin.{Origin}
pub use Rattle.arrays.specs.Blocks.{offsets_in, places_of}
pub use Rattle.arrays.specs.ItemLists.{owned_items}
pub use Rattle.arrays.specs.declared.items.Items.{Items}
pub use Rattle.arrays.specs.declared.owned.Owned.{Owned}
pub use Rattle.elem_descr.specs.Blocks.{blocks, item_from, items_in}
unfoldable pub use Rattle.elem_descr.specs.DescrTexts.{descriptor}
pub use Rattle.elem_descr.specs.Items.{decode_item, encode_item, item_size}
pub use Rattle.elem_descr.specs.RefusalTexts.{refusal_text}
pub use Rattle.elem_descr.specs.Refusals.{Answers, Gives, check, ◌>>=◌}
pub use Rattle.elem_descr.specs.Values.{LeafValue}
pub use Rattle.elem_descr.specs.declared.descr.Descr.{Descr}
pub use Rattle.elem_descr.specs.declared.descr.Descr.TheVariants.{Scalar as ScalarDescr}
pub use Rattle.elem_descr.specs.declared.operators.MemoryOrder.TheVariants.{C}
pub use Rattle.elem_descr.specs.declared.refusal.Refusal.{Refusal}
pub use Rattle.elem_descr.specs.declared.refusal.Refusal.TheVariants.{ByteNotAllowed, NoSuchCast, NumberOfValues, OutOfMemory, Syntax, TooLarge, TooManyNames, UnknownName}
pub use Rattle.elem_descr.specs.declared.scalar.Order.TheVariants.{Little}
pub use Rattle.elem_descr.specs.declared.scalar.Scalar.TheVariants.{Int}
pub use Rattle.elem_descr.specs.declared.scalar.Width.TheVariants.{Eight}
pub use Rattle.elementwise.specs.Casts.{can_cast, cast_item}
pub use Rattle.name_store.specs.Arrays.{bound_to, buffer_of, descr_of, find_array, has_room_for, read}
pub use Rattle.name_store.specs.Calls.{AnswersBind, own_buffer}
pub use Rattle.name_store.specs.Shown.{Finds, Shows}
pub use Rattle.name_store.specs.States.{Array, State}
pub use Rattle.name_store.specs.declared.bound.ArrayRef.{ArrayRef}
pub use Rattle.name_store.specs.declared.bound.Bound.TheVariants.{Fresh}
pub use Rattle.script_lang.specs.Lines.{Line, asks, bad_byte, misspelt, silent}
unfoldable pub use Rattle.script_lang.specs.Lines.{line_of}
pub use Rattle.script_lang.specs.declared.command.Command.TheVariants.{Ask, Bind, Delete, Save, Set, Undo, Update}
pub use Rattle.script_lang.specs.declared.command.Command.{Command}
pub use Rattle.shape_strides.specs.Indexes.{count}
unfoldable pub use Rattle.shape_strides.specs.Layouts.{offsets}
pub use Rattle.shape_strides.specs.Layouts.{multiples}
pub use Rattle.shape_strides.specs.Limits.{max_bytes}
unfoldable pub use Rattle.shape_strides.specs.Shapes.{shape_of}
pub use Rattle.std.specs.List.{flat_map, range_with_len}
pub use Rattle.std.specs.Option.{ok_or}
