-- Names from std, from the crates below and from `specs/`, which the proofs use.
pub use Rattle.elem_descr.specs.ListLaws.{first_is, flat_map-flat_map, flat_map_same, map-flat_map}
pub use Rattle.elem_descr.specs.StepLaws.{none_more, numbers-split, numbers-suc, steps_later}
pub use Rattle.shape_strides.specs.AddressOrders.{IsFalling, IsInOrder, IsRising}
pub use Rattle.shape_strides.specs.Addresses.{LieWithin, address_at, dot, natural}
pub use Rattle.shape_strides.specs.AxisIndexes.{unit, zero_filled}
pub use Rattle.shape_strides.specs.AxisLaws.{*ℤ-more, IsIndex-first, IsIndex-unit, dot-nil, dot-unit, dot-zeros, one-step, rank-unit, rank-zeros, zeros_are}
pub use Rattle.shape_strides.specs.Contiguity.{first_address, fortran_order, is_c_contiguous, is_f_contiguous, printed_strides, strides_text}
pub use Rattle.shape_strides.specs.ContiguityLaws.{first_address-entry, length-printed, printed-at}
pub use Rattle.shape_strides.specs.CountLaws.{count-drop, factors_pos, min-mul, mul-step}
pub use Rattle.shape_strides.specs.IndexLaws.{get_or-indexes, index_at, length-index, length-indexes, number-lt, rank-lt, rank-same, same_on_indexes}
pub use Rattle.shape_strides.specs.Indexes.{IsIndex, count, indexes, rank}
pub use Rattle.shape_strides.specs.ItemPairs.{item_pairs}
pub use Rattle.shape_strides.specs.Joined.{all_joined, join_outside, leads_over, strided_axes}
pub use Rattle.shape_strides.specs.LayoutLaws.{entry-first, get_or-offsets, length-offsets, no_offsets, offsets-none, offsets_within, pos-natural, pos-offset}
pub use Rattle.shape_strides.specs.Layouts.{Fits, IsNested, address, c_strides, distance, f_multiples, f_strides, multiples}
unfoldable pub use Rattle.shape_strides.specs.Layouts.{offsets}
pub use Rattle.shape_strides.specs.Limits.{max_axes, max_bytes, max_items}
pub use Rattle.shape_strides.specs.PairWalks.{AreEven, AreWhole, IsAtPair, IsInBytes, IsWhole}
pub use Rattle.shape_strides.specs.PermutationLaws.{count-order, count-permutation, factor-pos, reached, reordered}
pub use Rattle.shape_strides.specs.PlaceLaws.{offset_low}
pub use Rattle.shape_strides.specs.Reaches.{LieAbove, LieBelow}
pub use Rattle.shape_strides.specs.ReverseLaws.{IsIndex-from_reverse, IsIndex-reverse, count-append, count-reverse, reverse-cons}
pub use Rattle.shape_strides.specs.RunPairs.{all_offsets, cut, paired, pairs, pairs_left, run_after, run_front}
unfoldable pub use Rattle.shape_strides.specs.RunPairs.{run_pairs}
pub use Rattle.shape_strides.specs.Runs.{GoesBy, run_along, run_offsets, runs_from}
unfoldable pub use Rattle.shape_strides.specs.Runs.{runs}
pub use Rattle.shape_strides.specs.ShapeLaws.{shape_of-large, shape_of-long, shape_of-many, shape_of-ok}
pub use Rattle.shape_strides.specs.Shapes.{IsShape, shape_text}
unfoldable pub use Rattle.shape_strides.specs.Shapes.{shape_of}
pub use Rattle.shape_strides.specs.Stacks.{Axis, CanStack, IsStacked, StepsClear, axes, lengths_in, reach}
pub use Rattle.shape_strides.specs.WalkLaws.{length-first, length-run_offsets}
pub use Rattle.shape_strides.specs.Walks.{AreAxes, IsOnWalk, offsets_at}
pub use Rattle.shape_strides.specs.Words.{*ℤ-zero, +ℤ_idl, +ℤ_idr, All-from_recursion, All-head, All-permutation, All-tail, Each, IsPermutation, IsPermutation-map, IsPermutation-refl, IsPermutation-swap, IsPermutation-trans, TooLarge, TooManyAxes, and_parts, cases_Bool, cases_eq, cases_lt, decimal, div_below, drop_more, false≢true, flat_map, get_or-map, int_eq, ints, length-map, length-map-range_with_len, length-set, neg_ℤ-+ℤ, numbers_from, range_with_len, recursion_from_All, reverse-reverse, reverse_onto, same_lists, signed_decimal, sum_by-IsPermutation, sum_by-cons, zip}
pub use Rattle.shape_strides.specs.declared.layout.Layout.{Layout}
pub use Rattle.shape_strides.specs.declared.layout_pair.LayoutPair.{LayoutPair}
pub use Rattle.shape_strides.specs.declared.run_pairs.RunPair.{RunPair}
pub use Rattle.shape_strides.specs.declared.runs.Run.{Run}
pub use Rattle.shape_strides.specs.declared.single_run.StridedAxis.{StridedAxis}
pub use Rattle.shape_strides.specs.inside.AxisMoves.{IsMoved, swap_next, turn}
pub use Rattle.shape_strides.specs.inside.Heads.{IsHead, both}
pub use Rattle.shape_strides.specs.inside.LastRuns.{AreJoinedFrom, IsLastRun}
pub use Rattle.shape_strides.specs.inside.Orders.{IsShortStep, IsStart, along, downward, upward}
pub use Rattle.shape_strides.specs.inside.Reach.{max_reach, reach_above, reach_below, reach_within}
pub use Rattle.shape_strides.specs.inside.Single.{if_long}
pub use Rattle.shape_strides.specs.inside.Starts.{lengths_of}
pub use Rattle.std.proofs.Math.Seq.{drop-append_seam, take-append_seam}
pub use Rattle.std.proofs.lemmas.Bool.{and_from, both_ways, cases_order, cond-false, cond-true, cond_both, eq-eqb, eqb-false, eqb-true, false_from_ne_true, ne_eqb}
pub use Rattle.std.proofs.lemmas.Bool.Decides.{Decides-int_eq, nat_tests}
pub use Rattle.std.proofs.lemmas.Grind.{flat_map-append}
pub use Rattle.std.proofs.lemmas.Int.{to_z-of_z, to_z_pos}
pub use Rattle.std.proofs.lemmas.List.{append-nil, append_cancel_left, drop-set, drop_all, get_or-reverse, length-reverse, map-append, reverse-append, take-append-drop, take-replicate, take_more}
pub use Rattle.std.proofs.lemmas.List.Edits.{length-swap, swap_is}
pub use Rattle.std.proofs.lemmas.List.Elements.{All-cons}
pub use Rattle.std.proofs.lemmas.List.Folds.{flat_map-map}
pub use Rattle.std.proofs.lemmas.List.FromFn.{get_or-map-range_with_len, get_or-range_with_len, length-range_with_len}
pub use Rattle.std.proofs.lemmas.List.Sorted.{IsNonDecreasingBy-from_sort, IsPermutation-append, IsPermutation-append_comm, IsPermutation-append_left, IsPermutation-append_right, IsPermutation-cons, IsPermutation-reverse, IsPermutation-sym, answers_always, length_permutation}
pub use Rattle.std.proofs.lemmas.Result.{IfOk-weaker}
pub use Rattle.std.proofs.lemmas.Simd.{map-map, splat_is_map}
pub use Rattle.std.specs.Fmt.{HasWritten, IsPlainFormatter}
unfoldable pub use Rattle.std.specs.Fmt.{digits}
pub use Rattle.std.specs.List.{refill}
pub use Rattle.std.specs.List.Sorted.{IsNonDecreasingBy}
pub use lib.IntN.{+ℤ_assoc, negsuc-*ℤ-pos}
pub use mir.Val.{SFits}
