-- Names from std, from the crates below and from `specs/`, which the proofs use.
pub use Rattle.arrays.specs.Packed.{row_offsets as packed}
pub use Rattle.arrays.specs.PackedLaws.{length-row, length-row as length-packed, row-split as packed-append}
pub use Rattle.elem_descr.specs.declared.descr.Descr.TheVariants.{Record as RecordDescr}
pub use Rattle.fancy_index.specs.IndexArrays.{IndexArray, are_places, are_within, array_axes_taken, axes_of_kind, cover, covers, covers_kind, is_index, is_within, kind, kind_of}
pub use Rattle.fancy_index.specs.Indexed.{all_axes, as_index_shapes, leads_through, points_shape}
unfoldable pub use Rattle.fancy_index.specs.Indexed.{indexed, parts_view}
pub use Rattle.fancy_index.specs.Parts.{Axis, Between, Part, Points, axes_before, axes_of_part, leads, other_axes, parts, parts_of, point_at, point_shapes, points_of, points_place, side_by_side, true_indexes, wholes}
pub use Rattle.fancy_index.specs.PlanLaws.{filled-run, put_each-append}
pub use Rattle.fancy_index.specs.Plans.{GivesPlan, IsPlanOf, Planned, put_each}
pub use Rattle.fancy_index.specs.Sources.{index_array_of, index_item_of, index_items, number_from}
pub use Rattle.fancy_index.specs.Words.{All-back, All-front, AlongAxis, ArePicks, Array, AtAxis, AxisPick, BeginsWithin, BoolScalar, Byte, Bytes, Descr, EachWithin, Ellipsis, Gives, GivesView, IndexItem, IndexOutOfRange, IndexShapes, Int, Integer, IsIndex, IsIndex-append, IsIndex-broadcast, IsIndex-first, IsShape, IsViewOf, Items, Layout, LieWithin, LieWithin-view, MaskLengths, New, NotAnIndexType, OutOfMemory, Owned, Refusal, Run, ScalarDescr, ShowsThrough, Slice, TooLarge, TooManyAxes, TooManyIndices, View, ZeroStep, address, address_at, all_stretch, assigned, assigned-append, axis_below, axis_of, broadcast_index, broadcast_index-itself, bytes_eq, can_stretch, check, common_with, count, count-append, decode_item, dot, dot-zeros, entry-first, factors_pos, few-axes, filled, first_of, flat_map, flat_map-flat_map, flat_map_same, from_front, get_or-indexes, get_or-offsets, has_step, index_at, indexes, int_eq, integer, is_place, item_at, item_from, item_number, item_size, items, items_at, joined-items, joined_at, length-index, length-indexes, length-joined_at, length-offsets, length-run, length-run_offsets, lie-within, list_all, map-flat_map, max_axes, max_bytes, max_items, multiples, natural, not_negative, nth-offset, number_at, number_in, owned_items, pick_shown, picked_index, picked_shape, place, place-at, placed, pos-natural, pos-offset, position, put, rank, rank-lt, row-multiples, row_offsets, run_numbers, run_offsets, same_on_indexes, shape_of-same, signed_number, stretches, truth, view_through, whole, with-fits, zero_filled, ◌>>=◌}
unfoldable pub use Rattle.fancy_index.specs.Words.{common_of_two, offsets, picked_view, shape_of, slice_indices, stepped}
pub use Rattle.fancy_index.specs.declared.index_parts.IndexPart.{IndexPart}
pub use Rattle.fancy_index.specs.declared.index_parts.IndexPart.TheVariants.{Axis as AxisPart, Between as BetweenPart, Points as PointsPart}
pub use Rattle.fancy_index.specs.declared.kinds.Kind.{Kind}
pub use Rattle.fancy_index.specs.declared.kinds.Kind.TheVariants.{Integers, Mask}
pub use Rattle.fancy_index.specs.declared.bools.Bools.{Bools}
pub use Rattle.fancy_index.specs.declared.rank_offsets.RunAt.{RunAt}
pub use Rattle.fancy_index.specs.declared.fast.adjacent_bools.TheConstants.{COUNTS, PLACES}
pub use Rattle.fancy_index.specs.declared.plan_rows.Shifted.{Shifted}
pub use Rattle.fancy_index.specs.declared.points.PointList.{PointList}
pub use Rattle.fancy_index.specs.declared.integers.Form.{Form}
pub use Rattle.fancy_index.specs.declared.result_axes.Stretch.{Stretch}
pub use Rattle.fancy_index.specs.declared.result_axes.Stretch.TheVariants.{After, Among, Before}
pub use Rattle.fancy_index.specs.declared.fast.short_rows.ShortRows.{ShortRows}
pub use Rattle.fancy_index.specs.inside.Bools.{AreAll, AreBits, LieInBytes, bits, bool_at, bools_in, ranks_from, true_count}
pub use Rattle.fancy_index.specs.inside.Items.{IsOutside, IsWithin, numbers_in}
pub use Rattle.fancy_index.specs.inside.Kept.{AreWide, CanAppend, CanScatter, HaveAppended, end_of, first_offsets, moved_offsets, offsets_from, put_packed, row_at, shifted_offsets, short_offsets}
pub use Rattle.fancy_index.specs.inside.Lists.{IsNext, items_left}
pub use Rattle.fancy_index.specs.inside.Moved.{AreStarts, IsMoved, IsRunOf, IsStart, moved_all, moved_offset, shifted, shifted_all}
pub use Rattle.fancy_index.specs.inside.PartLists.{AddsParts, AreParts, HasPointAt, IsChecked, IsReady, IsReadyAt, IsRest, LeadInto, all_named, first_at, first_offset, is_named, numbers_at, point_of, rest_picks, shown_part, view_if_named}
pub use Rattle.fancy_index.specs.inside.Places.{stand}
pub use Rattle.fancy_index.specs.inside.PointLists.{HavePlaces, IsPart, are_named, rank_on, ranks_of, true_ranks, tuple}
pub use Rattle.fancy_index.specs.inside.Ranks.{IsAtRun, led}
pub use Rattle.fancy_index.specs.inside.Sums.{AllCanGrow, AreSums, BeginAt, BeginsAt, CanGrow, CanGrowAlong, HaveAllGrown, HaveGrown, HaveGrownFrom, number_along, offset_along, part_offset, partly, point_number, start_of, starts, stretched_ranks, strides_along}
pub use Rattle.fancy_index.specs.inside.Words.{ArePlaces, IsNative, IsPlaceOf, LiesIn, named_places, place_of, word, words_along}
pub use Rattle.std.proofs.Math.Bool.{and-true, and_assoc}
pub use Rattle.std.proofs.Math.ListN.{length-set}
pub use Rattle.std.proofs.Math.Nat.{div-div-eq-div-mul, div-one, mod-eq_of_lt, mod-lt, mul-le-mul, mul-suc}
pub use Rattle.std.proofs.Math.Seq.{drop-append_seam, take-add, take-append-add, take-append_seam}
pub use Rattle.std.proofs.lemmas.Bool.{and_parts, cases_lt, eqb-true, false≢true, le-leb}
pub use Rattle.std.proofs.lemmas.Bool.Decides.{nat_tests}
pub use Rattle.std.proofs.lemmas.Grind.{flat_map-append, same_number_lists}
pub use Rattle.std.proofs.lemmas.Int.{ints, to_z-of_z, to_z_pos}
pub use Rattle.std.proofs.lemmas.List.{drop-drop, drop-set-lt, drop_all, drop_more, get_or-append_right, get_or-drop, get_or-map, get_or-set_other, get_or-set_same, get_or-take, get_or_append_left, get_or_default, length-map, length-take, map-append, nil_from_length, same_lists, take-append-drop, take-append-le, take-map, take-set, take_all, take_more, take_more_set}
pub use Rattle.std.proofs.lemmas.List.Concat.{get_or-flat_map}
pub use Rattle.std.proofs.lemmas.List.Edits.{map_over_more}
pub use Rattle.std.proofs.lemmas.List.Elements.{All-cons, All-drop, All-get_or, All-head, All-map, All-nil, All-rest, All-tail, All-take}
pub use Rattle.std.proofs.lemmas.List.Folds.{drop_split, flat_map-map, length-flat_map-take, list_all-append, list_all_at, list_all_more}
pub use Rattle.std.proofs.lemmas.List.FromFn.{get_or-map-range_with_len, get_or-range_with_len, length-map-range_with_len}
pub use Rattle.std.proofs.lemmas.List.Sums.{count_by-le-length, sum_by-append, sum_by-cons, sum_by-drop_more}
pub use Rattle.std.proofs.lemmas.Nat.{div-add-mod', div-mul-add, pow-add}
pub use Rattle.std.proofs.lemmas.Result.{IfOk-weaker, err_from_is_err_and}
pub use Rattle.std.proofs.lemmas.Simd.{Each1-get_or, bit_mask_l, bitmask_splat, map-map, put_chunk_is, splat_is_map, zip2_of_maps}
pub use Rattle.std.proofs.lemmas.Slice.{take-put_mid}
pub use Rattle.std.proofs.lemmas.Slice.Eq.{bytes_eq-Decides}
pub use Rattle.std.specs.List.{range_with_len}
pub use Rattle.std.specs.Result.{IfErr, IfOk, is_ok}
pub use Rattle.view_ops.specs.declared.picks.AxisPick.TheVariants.{New as NewAxis}
pub use borrow.Rule.Slice.PartMut.{mid_len, same_len_mid}
pub use lib.IntN.{*ℤ-zero, +ℤ_assoc, +ℤ_idl, +ℤ_idr, nat_abs, zero-*ℤ}
pub use lib.Lanes.{put_chunk, zip2}
pub use mir.Syntax.{w128}
pub use mir.Val.{SFits}
