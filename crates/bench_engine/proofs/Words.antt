-- Names from std, from the crates below and from `specs/`, which the proofs use.
pub use Rattle.array_print.specs.declared.bands.WriteFault.{WriteFault}
pub use Rattle.bench_engine.specs.Contents.{Contents, array_over, contents_of, integer_scalar, new_contents, new_contents_in, places_in, zero_item, zero_of}
unfoldable pub use Rattle.bench_engine.specs.Contents.{arange_contents, array_contents, array_type, full_contents, range_scalar, zeros_contents}
pub use Rattle.bench_engine.specs.Headline.{AnswersFirstLines, AnswersInPart, AnswersMeaning, AnswersScript, AnswersWholeLines, AreLines, AreWholeLines, ComesTo, IsUnbroken, Meaning, Outside, RisesBy, Run, Splits, accepted_count, first_world, if_any, limit, output, outside, refused_count, reply_line, says, too_long, trimmed}
unfoldable pub use Rattle.bench_engine.specs.Headline.{meaning_of}
pub use Rattle.bench_engine.specs.IndexLists.{array_by_items, by_items, names_in_index, names_in_item, taken}
unfoldable pub use Rattle.bench_engine.specs.IndexLists.{gathered}
pub use Rattle.bench_engine.specs.KeptBytes.{KeepsBytes, KeepsItems}
pub use Rattle.bench_engine.specs.Machine.{Choice, IsAllowed, OperandValues, Outcome, ViewOrCopy, a_copy, a_view, accepted_with, after_outcome, argument_items, argument_values, as_copy, bound_in_computation, bound_new, bound_seen, changed_with, computed_contents, literal_scalar, literal_value, literal_values, names_in_argument, names_in_viewing, new_items, one_item, operand_values, operation_item, operation_with, origin_of, part_seen, question_outcome, seen, under_shape, updated, viewed, write_reply}
unfoldable pub use Rattle.bench_engine.specs.Machine.{cast_contents, cast_items, compared_literal, compute_outcome, copied_contents, creation_outcome, delete_outcome, operand_of_literal, operand_part, operation_contents, operation_on, operation_scalar, reduced_contents, reshaped, target_part, transformed, undo_outcome, updated_items, view_outcome, write_outcome}
pub use Rattle.bench_engine.specs.Memory.{MayAnswer, may_lack_memory}
pub use Rattle.bench_engine.specs.Replies.{Reply, Tells, bound_text, format_text, info_text, names_text, refusal, shares_text}
pub use Rattle.bench_engine.specs.Sessions.{Ends, Fed, FedInPart, Feeds, HasTold, HoldsBytes, HoldsPiece, IsNew}
pub use Rattle.bench_engine.specs.Steps.{DoesAlone, Found, LoadStep, MayFind, Refuses, SaveStep, Step, Stored, World, bound_loaded, loaded, loaded_contents, save_reply, store_refusal, world}
unfoldable pub use Rattle.bench_engine.specs.Steps.{file_of_name, load_outcome}
pub use Rattle.bench_engine.specs.Words.{All-seconds, Answers, AnswersBind, AnswersShares, Appends, AreAlike, Argument, Array, ArrayRef, Ask, BadAxis, BenchValue, Big, BinOp, Binary, Bind, Block, BoolScalar, Boolean, Bound, Broadcast, Buffer, Byte, C, Cast, Combine, Command, Compare, Comparison, Computation, Consumes, Contains, Counts, CountsWrite, Delete, Descr, Device, Duplicate, Eight, FaultHasCause, Fits, Fortran, Four, Fresh, Gives, GivesField, GivesPlan, GivesView, HoldsFileItems, IndexArray, IndexItem, Int, IsAffine, IsAtEnd, IsAxisOf, IsFieldOf, IsIndex, IsIndex-broadcast, IsIndex-from_reverse, IsIndex-insert, IsKept, IsNested, IsPermutation, IsPlanOf, IsRead, IsReshapeOf, IsSameStore, IsShape, IsViewIn, IsViewOf, IsWritten, Items, KeepsNested, Layout, LayoutPair, LeadsTo, Leaf, LeafValue, Line, LineTooLong, Literal, Little, Loaded, Loads, MayBind, MayLackRoom, MayWrite, Memory, MemoryOrder, NoSuchCast, NoSuchField, NotForThisKind, NumberOfValues, Operand, Operation, Order, OutOfMemory, Owned, Plan, Planned, Print, ReadOnly, RecordDescr, Red, Reduce, Refusal, Save, Says, Scalar, ScalarDescr, ScalarLiteral, Sends, SendsPart, ShapesDoNotBroadcast, Shows, Source, State, StoreFault, StoreState, Supplies, Target, TooLarge, TooLong, TooManyAxes, TooManyNames, Transform, Two, UnOp, Undo, UnknownName, View, Viewing, addresses, affine, affine_or_not, aligned, all_go_together, all_stretch, appends_nothing, appends_then, array_text, asks, axes_beyond, axis_below, bad_byte, basic, big_from, binary_item, bind_ok, bind_same, blocks, bound_to, bound_view, broadcast_index, buffer_of, can-itself, can_cast, can_stretch, cast_item, check, check_test, common-fits, common-some, common_length, common_lengths, common_of_two, common_with, compared_item, count, count-reverse, decode, decode_item, descr-then, descr_at, descr_of, descriptor, distance, ends_with, f_multiples, few-axes, field_at, field_of, fields, file_order, find_array, firsts-reordered, fits-offsets, flat_map, found-array, from_front, get, get_or-indexes, go_together, has_room_for, index_array_of, index_at, index_item_of, index_items, indexed, indexes, integer, is_axis, is_basic, is_bound, is_castable, is_scalar, is_text, item_from, item_number, item_pairs, item_size, item_value, item_values, items_from, items_in, joined, joined-add, keep_last, keeping, leaves_of, length-indexes, length-joined, length-offsets, line_of, list_all, lists, literal_number, little_from, map-swap, max_bytes, max_items, misspelt, multiples, named_axis, nested-reordered, not_affine, number, number_in, number_scalar, offsets, offsets-at, offsets_in, offsets_of, offsets_within, ok_or, ordered, outcome_of, pair_even, pairwise, part_at, parts_take_memory, path-then, placed_item, places_of, position, promote, range_with_len, rank, rank-lt, read, reduced_item, reduced_items, refusal_text, rest_of, same_answer, same_on_indexes, saved, scalar_of, shape_of-same, shape_read, share_cells, silent, size, span_of, start-then, start_at, stretched-ok, stretched-self, stretched_items, stretches, target_of, target_offsets, text, transposed, truth, unary_item, unary_result, view_through, with_part, without_nuls, write, written, ◌>>=◌}
unfoldable pub use Rattle.bench_engine.specs.Words.{binary_result, bytes_compared_result, common_shape, compared_result, compared_type, integer_compared_result, range_items, same_kind, shape_of, stretched, stretched_into}
pub use Rattle.bench_engine.specs.declared.operands.Given.{Given}
pub use Rattle.bench_engine.specs.declared.operands.Part.{Part}
pub use Rattle.bench_engine.specs.declared.replies.Origin.{Origin}
pub use Rattle.bench_engine.specs.declared.runner.RunFault.{RunFault}
pub use Rattle.bench_engine.specs.declared.runner.RunFault.TheVariants.{Read, Write}
pub use Rattle.bench_engine.specs.declared.session.Session.{Session}
pub use Rattle.bench_engine.specs.declared.session.Summary.{Summary}
pub use Rattle.bench_engine.specs.declared.update.Writing.{Writing}
pub use Rattle.bench_engine.specs.declared.view.Viewed.{Viewed}
pub use Rattle.bench_engine.specs.inside.Assigns.{Fitted, Holds, IsAimed, IsTarget, LiesIn, Stretches, cast_from}
pub use Rattle.bench_engine.specs.inside.Contract.{Carried, CarriesOut, IsRefused}
pub use Rattle.bench_engine.specs.inside.LoadedFiles.{Finds}
pub use Rattle.bench_engine.specs.inside.Meeting.{Meets}
pub use Rattle.bench_engine.specs.inside.Operands.{AreSources, HoldsItems, IsGiven, IsPart, LiesInBuffer, OwnStands, Stands, StandsFor}
pub use Rattle.bench_engine.specs.inside.OwnContents.{IsInCOrder, held}
pub use Rattle.bench_engine.specs.inside.Parts.{IsOf, IsSeen, descr_seen, origin_of_bound, shape_of_bound}
pub use Rattle.bench_engine.specs.inside.Printing.{MayPrint, SendsAnswer}
pub use Rattle.bench_engine.specs.inside.ReadLines.{ReadsAs, meaning_of_read}
pub use Rattle.bench_engine.specs.inside.SavedFiles.{Puts, refused}
pub use Rattle.bench_engine.specs.inside.Sessions.{Ended, Reading, TellsHeld, Told, ToldInPart, Turned}
pub use Rattle.bench_engine.specs.inside.Writings.{GoTogether, IsTargetOf, Leaves, Prepares}
pub use Rattle.elem_descr.specs.declared.index_item.IndexItem.TheVariants.{Array as ArrayItem}
pub use Rattle.elem_descr.specs.declared.scalar.Scalar.TheVariants.{Bytes as BytesScalar}
pub use Rattle.name_store.specs.ArrayLaws.{found-array as found}
pub use Rattle.script_lang.specs.declared.command.Value.TheVariants.{Load as LoadValue}
pub use Rattle.script_lang.specs.declared.command.Viewing.TheVariants.{Field}
pub use Rattle.script_lang.specs.declared.literal.ScalarLiteral.TheVariants.{Bytes, Integer}
pub use Rattle.std.proofs.KnownBytes.{Consumes-kept, Consumes-nil, Consumes-trans}
pub use Rattle.std.proofs.Math.Bool.{and-true}
pub use Rattle.std.proofs.Math.Dec.{eqb, eqb-suc-zero}
pub use Rattle.std.proofs.Math.Nat.{div-lt_iff_lt-mul, div-mul-le_self, lt-div-mul-add, mul-div_cancel_left, mul-le-mul_left}
pub use Rattle.std.proofs.Math.Seq.{drop-append_seam, take-append_seam}
pub use Rattle.std.proofs.lemmas.Bool.{and_parts, cases_eq, eq-eqb, eqb-false, eqb-true, false≢true, le-leb, le-ltb, leb-false, leb-true, lt-leb, lt-ltb, ltb-false, ne_eqb}
pub use Rattle.std.proofs.lemmas.Bool.Decides.{eqb_tells, nat_tests}
pub use Rattle.std.proofs.lemmas.Grind.{common_steps, flat_map-append}
pub use Rattle.std.proofs.lemmas.Int.{to_z-of_z}
pub use Rattle.std.proofs.lemmas.List.{append-nil, drop-drop, ext_get_or, get_or-map, get_or_default, length-map, map-append, map_push, reverse-reverse, same_lists, take-append-drop, take_more}
pub use Rattle.std.proofs.lemmas.List.Elements.{All-append, All-cons, All-contains, All-from_recursion, All-head, All-map, All-nil, All-tail, Contains-get_or}
pub use Rattle.std.proofs.lemmas.List.Folds.{list_all-append}
pub use Rattle.std.proofs.lemmas.List.FromFn.{get_or-map-range_with_len, length-map-range_with_len}
pub use Rattle.std.proofs.lemmas.List.Quantifiers.{position-Some}
pub use Rattle.std.proofs.lemmas.List.Sorted.{All-permutation, Contains-permutation, IsPermutation-keeps, IsPermutation-map, IsPermutation-refl, IsPermutation-swap, IsPermutation-sym, IsPermutation-trans, length_permutation}
pub use Rattle.std.proofs.lemmas.List.Sums.{suffix_len_is, sum_by-append}
pub use Rattle.std.proofs.lemmas.Map.Steps.{length-le_from_distinct_below}
pub use Rattle.std.proofs.lemmas.Option.{cond_some, unwrap_or-slice_get}
pub use Rattle.std.proofs.lemmas.Result.{err_from_is_err_and, on_err_weaker, on_ok_weaker}
pub use Rattle.std.proofs.lemmas.Simd.{map-map, splat_is_map}
pub use Rattle.std.proofs.lemmas.Slice.Zip.{firsts-zip, get_or-zip, length-zip, seconds-zip}
pub use Rattle.std.specs.Cmp.{unsigned_tied}
pub use Rattle.std.specs.FinMap.{FinMap, entries, find, get-entries, insert}
pub use Rattle.std.specs.List.{AllByRecursion, list_any, position_or_len, remove, suffix_len, swap, zip}
unfoldable pub use Rattle.std.specs.List.{IsDistinct}
pub use Rattle.std.specs.Option.{option_map}
pub use Rattle.std.specs.Ordering.{nat_cmp}
pub use Rattle.std.specs.Result.{is_ok}
pub use Rattle.view_ops.specs.Views.{View as ViewOf}
pub use mir.Syntax.{w128}
pub use mir.Val.{SFits, bool_byte}
