-- Names from std and from the crates below, which this crate's definitions, contracts and proofs use.
pub use Rattle.array_print.specs.Printed.{array_text, items_from}
pub use Rattle.array_print.specs.Sending.{Sends, SendsPart}
pub use Rattle.array_print.specs.SendingLaws.{appends_nothing, appends_then, rest_of}
pub use Rattle.arrays.specs.Blocks.{offsets_in, places_of}
pub use Rattle.arrays.specs.PairLaws.{All-seconds, firsts-reordered, pair_even}
pub use Rattle.arrays.specs.declared.items.Items.{Items}
pub use Rattle.arrays.specs.declared.owned.Owned.{Owned}
pub use Rattle.broadcasting.specs.BroadcastLaws.{IsIndex-broadcast, can-itself, stretched-ok, stretched-self}
pub use Rattle.broadcasting.specs.Broadcasts.{aligned, all_go_together, all_stretch, axes_beyond, broadcast_index, can_stretch, common_length, common_lengths, common_with, go_together, stretches}
unfoldable pub use Rattle.broadcasting.specs.Broadcasts.{common_of_two, common_shape, stretched, stretched_into}
pub use Rattle.broadcasting.specs.FitLaws.{common-fits, common-some, few-axes}
pub use Rattle.byteorder.specs.Endian.{big_from, little_from}
pub use Rattle.elem_descr.specs.Blocks.{blocks, item_from, items_in}
unfoldable pub use Rattle.elem_descr.specs.DescrTexts.{descriptor}
pub use Rattle.elem_descr.specs.Encoding.{IsNumber, decode, integer, number_in, size, truth, without_nuls}
pub use Rattle.elem_descr.specs.IndexItems.{is_basic}
pub use Rattle.elem_descr.specs.Items.{AreAlike, decode_item, field_at, field_of, fields, item_number, item_size, leaves_of}
pub use Rattle.elem_descr.specs.RefusalLaws.{bind_ok, bind_same, check_test, same_answer}
pub use Rattle.elem_descr.specs.RefusalTexts.{refusal_text}
pub use Rattle.elem_descr.specs.Refusals.{Answers, Gives, check, ◌>>=◌}
pub use Rattle.elem_descr.specs.TypeStrings.{spelling}
pub use Rattle.elem_descr.specs.Values.{LeafValue, number, text}
pub use Rattle.elem_descr.specs.WrittenFormats.{written_format}
pub use Rattle.elem_descr.specs.declared.descr.Descr.{Descr}
pub use Rattle.elem_descr.specs.declared.descr.Descr.TheVariants.{Record as RecordDescr, Scalar as ScalarDescr}
pub use Rattle.elem_descr.specs.declared.descr.Leaf.{Leaf}
pub use Rattle.elem_descr.specs.declared.index_item.IndexItem.{IndexItem}
pub use Rattle.elem_descr.specs.declared.index_item.IndexItem.TheVariants.{Ellipsis, Integer, NewAxis, Slice}
pub use Rattle.elem_descr.specs.declared.operators.BinOp.{BinOp}
pub use Rattle.elem_descr.specs.declared.operators.Comparison.{Comparison}
pub use Rattle.elem_descr.specs.declared.operators.MemoryOrder.{MemoryOrder}
pub use Rattle.elem_descr.specs.declared.operators.MemoryOrder.TheVariants.{C, Fortran}
pub use Rattle.elem_descr.specs.declared.operators.Red.{Red}
pub use Rattle.elem_descr.specs.declared.operators.UnOp.{UnOp}
pub use Rattle.elem_descr.specs.declared.refusal.Refusal.{Refusal}
pub use Rattle.elem_descr.specs.declared.refusal.Refusal.TheVariants.{BadAxis, ByteNotAllowed, FileTooLong, LineTooLong, NoSuchCast, NoSuchField, NoSuchFile, NotForThisKind, NothingToUndo, NumberOfValues, OutOfMemory, ReadOnly, ShapesDoNotBroadcast, StoreFault as StoreFailed, Syntax, TooLarge, TooManyAxes, TooManyNames, UnknownName}
pub use Rattle.elem_descr.specs.declared.scalar.Order.{Order}
pub use Rattle.elem_descr.specs.declared.scalar.Order.TheVariants.{Big, Little}
pub use Rattle.elem_descr.specs.declared.scalar.Scalar.{Scalar}
pub use Rattle.elem_descr.specs.declared.scalar.Scalar.TheVariants.{Bool as BoolScalar, Byte, Bytes, Int}
pub use Rattle.elem_descr.specs.declared.scalar.Width.TheVariants.{Eight, Four, Two}
pub use Rattle.elementwise.specs.Casts.{can_cast, cast_item}
pub use Rattle.elementwise.specs.Promotion.{literal_type}
unfoldable pub use Rattle.elementwise.specs.Promotion.{compared_type, promote, same_kind}
pub use Rattle.elementwise.specs.ResultLaws.{is_scalar}
pub use Rattle.elementwise.specs.Results.{binary_item, compared_item, pairwise, scalar_of, stretched_items, unary_item}
unfoldable pub use Rattle.elementwise.specs.Results.{binary_result, bytes_compared_result, compared_result, integer_compared_result, unary_result}
pub use Rattle.fancy_index.specs.IndexArrays.{IndexArray, no_array}
unfoldable pub use Rattle.fancy_index.specs.Indexed.{indexed}
pub use Rattle.fancy_index.specs.Plans.{GivesPlan, IsPlanOf, Planned}
pub use Rattle.fancy_index.specs.Sources.{index_array_of, index_item_of, index_items}
pub use Rattle.literal_items.specs.LiteralItems.{is_castable, literal_number}
unfoldable pub use Rattle.literal_items.specs.LiteralItems.{item_value, item_values}
pub use Rattle.literal_items.specs.RangeItems.{range_count}
unfoldable pub use Rattle.literal_items.specs.RangeItems.{range_items}
pub use Rattle.machine_numbers.specs.Kinds.{is_text}
pub use Rattle.name_store.specs.ArrayLaws.{found-array, offsets-at}
pub use Rattle.name_store.specs.Arrays.{addresses, bound_to, bound_view, buffer_of, descr_of, find_array, has_kept, has_room_for, is_bound, keeping, placed_item, read, share_cells, span_of, unbound, undone, write, written}
pub use Rattle.name_store.specs.Calls.{AnswersBind, AnswersShares, Counts, CountsUndo, CountsWrite, IsUnused, own_buffer}
pub use Rattle.name_store.specs.Laws.{descr-then, path-then, start-then}
pub use Rattle.name_store.specs.Parts.{descr_at, part_at, start_at, with_part}
pub use Rattle.name_store.specs.Shown.{Finds, Shows}
pub use Rattle.name_store.specs.States.{Array, BenchValue, Buffer, State, start}
pub use Rattle.name_store.specs.Targets.{FitsBuffer, HasItems, LeadsTo, MayWrite, Supplies, target_offsets, target_shape}
pub use Rattle.name_store.specs.Views.{IsViewIn, MayBind}
pub use Rattle.name_store.specs.Words.{keep_last}
pub use Rattle.name_store.specs.declared.bound.ArrayRef.{ArrayRef}
pub use Rattle.name_store.specs.declared.bound.Bound.{Bound}
pub use Rattle.name_store.specs.declared.bound.Bound.TheVariants.{Fresh}
pub use Rattle.name_store.specs.declared.target.Source.{Source}
pub use Rattle.name_store.specs.declared.target.Source.TheVariants.{Block}
pub use Rattle.name_store.specs.declared.target.Target.{Target}
pub use Rattle.name_store.specs.declared.target.Target.TheVariants.{Plan}
pub use Rattle.npy_files.specs.Stores.{FaultHasCause, IsKept, IsRead, IsSameStore, IsWritten, StoreState}
pub use Rattle.npy_files.specs.declared.store.StoreFault.{StoreFault}
pub use Rattle.npy_files.specs.declared.store.StoreFault.TheVariants.{Device, Memory, TooLong}
pub use Rattle.npy_format.specs.Files.{HoldsFileItems, Loaded, Loads, file_order}
unfoldable pub use Rattle.npy_format.specs.Files.{load}
pub use Rattle.npy_format.specs.WrittenFiles.{ordered}
unfoldable pub use Rattle.npy_format.specs.WrittenFiles.{saved}
pub use Rattle.overlap_copy.specs.OrderLaws.{nested-reordered}
pub use Rattle.raw_block.specs.Bytes.{joined}
pub use Rattle.raw_block.specs.JoinedLaws.{joined-add, length-joined}
pub use Rattle.reductions.specs.ListLaws.{IsIndex-insert}
pub use Rattle.reductions.specs.Lists.{IsAxisOf, is_axis, lists, named_axis}
pub use Rattle.reductions.specs.Outcomes.{number_scalar, outcome_of}
pub use Rattle.reductions.specs.Reductions.{reduced_item, reduced_items}
unfoldable pub use Rattle.reshape_rule.specs.Affine.{affine_or_not}
pub use Rattle.reshape_rule.specs.Reshapes.{AffineOrNot, IsAffine, IsReshapeOf, affine, not_affine}
unfoldable pub use Rattle.reshape_rule.specs.Targets.{target_of}
pub use Rattle.script_lang.specs.Lines.{Line, asks, bad_byte, misspelt, silent}
unfoldable pub use Rattle.script_lang.specs.Lines.{line_of}
pub use Rattle.script_lang.specs.Reading.{MayLackRoom, Says, parts_take_memory}
pub use Rattle.script_lang.specs.declared.command.Argument.{Argument}
pub use Rattle.script_lang.specs.declared.command.Command.{Command}
pub use Rattle.script_lang.specs.declared.command.Command.TheVariants.{Ask, Bind, Delete, Save, Set, Undo, Update}
pub use Rattle.script_lang.specs.declared.command.Computation.{Computation}
pub use Rattle.script_lang.specs.declared.command.Computation.TheVariants.{Cast, Combine, Duplicate, Reduce, Transform}
pub use Rattle.script_lang.specs.declared.command.NewItems.{NewItems}
pub use Rattle.script_lang.specs.declared.command.NewItems.TheVariants.{Arange, Full, Zeros}
pub use Rattle.script_lang.specs.declared.command.Operand.{Operand}
pub use Rattle.script_lang.specs.declared.command.Operation.{Operation}
pub use Rattle.script_lang.specs.declared.command.Operation.TheVariants.{Binary, Compare}
pub use Rattle.script_lang.specs.declared.command.Question.{Question}
pub use Rattle.script_lang.specs.declared.command.Question.TheVariants.{Print}
pub use Rattle.script_lang.specs.declared.command.Value.{Value}
pub use Rattle.script_lang.specs.declared.command.Value.TheVariants.{Compute, Load, Make}
pub use Rattle.script_lang.specs.declared.command.Viewing.{Viewing}
pub use Rattle.script_lang.specs.declared.command.Viewing.TheVariants.{Broadcast, Indexed, Reshaped, Transposed, Whole}
pub use Rattle.script_lang.specs.declared.literal.Literal.{Literal}
pub use Rattle.script_lang.specs.declared.literal.ScalarLiteral.{ScalarLiteral}
pub use Rattle.script_lang.specs.declared.literal.ScalarLiteral.TheVariants.{Boolean}
pub use Rattle.shape_strides.specs.AxisLaws.{axis_below}
pub use Rattle.shape_strides.specs.Contiguity.{first_address, is_c_contiguous, is_f_contiguous, printed_strides, strides_text}
pub use Rattle.shape_strides.specs.IndexLaws.{get_or-indexes, index_at, length-indexes, rank-lt, same_on_indexes}
pub use Rattle.shape_strides.specs.Indexes.{IsIndex, count, indexes, rank}
pub use Rattle.shape_strides.specs.ItemPairs.{item_pairs}
pub use Rattle.shape_strides.specs.LayoutLaws.{length-offsets, offsets_within}
pub use Rattle.shape_strides.specs.Layouts.{Fits, IsNested, distance, f_multiples, multiples, offsets_of}
unfoldable pub use Rattle.shape_strides.specs.Layouts.{offsets}
pub use Rattle.shape_strides.specs.Limits.{max_bytes, max_items}
pub use Rattle.shape_strides.specs.PermutationLaws.{map-swap}
pub use Rattle.shape_strides.specs.PlaceLaws.{fits-offsets}
pub use Rattle.shape_strides.specs.ReverseLaws.{IsIndex-from_reverse, count-reverse}
pub use Rattle.shape_strides.specs.ShapeLaws.{shape_of-same, shape_read}
pub use Rattle.shape_strides.specs.Shapes.{IsShape, shape_text}
unfoldable pub use Rattle.shape_strides.specs.Shapes.{shape_of}
pub use Rattle.shape_strides.specs.declared.layout.Layout.{Layout}
pub use Rattle.shape_strides.specs.declared.layout_pair.LayoutPair.{LayoutPair}
pub use Rattle.std.specs.FinMap.{get}
pub use Rattle.std.specs.Io.KnownBytes.{Appends, Consumes, IsAtEnd, Keeps}
pub use Rattle.std.specs.List.{Contains, ends_with, flat_map, list_all, position, range_with_len}
pub use Rattle.std.specs.List.Sorted.{IsPermutation}
pub use Rattle.std.specs.Option.{ok_or}
unfoldable pub use Rattle.view_ops.specs.Basics.{basic}
pub use Rattle.view_ops.specs.FieldViews.{GivesField, IsFieldOf}
pub use Rattle.view_ops.specs.Slices.{from_front}
unfoldable pub use Rattle.view_ops.specs.Transposes.{transposed}
pub use Rattle.view_ops.specs.Views.{GivesView, IsViewOf, KeepsNested, View, view_through}
