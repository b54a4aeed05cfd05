-- Names from std, from the crates below and from `specs/`, which the proofs use.
pub use Rattle.elem_descr.specs.Encoding.{truth as bit}
pub use Rattle.elem_descr.specs.declared.operators.Red.TheVariants.{All as AllOf}
pub use Rattle.reductions.specs.ListLaws.{IsIndex-insert}
pub use Rattle.reductions.specs.Lists.{IsAxisOf, is_axis, list_length, lists, named_axis, reduced_shape}
pub use Rattle.reductions.specs.Outcomes.{IsReduction, ReducedType, has_empty_list, number_scalar, outcome_of}
unfoldable pub use Rattle.reductions.specs.Outcomes.{reduced_type, shape_after}
pub use Rattle.reductions.specs.Reductions.{depends_on_order, first_place, is_true, needs_items, reduced, reduced_item, reduced_items, result_scalar}
pub use Rattle.reductions.specs.Words.{All-back, All-front, All-head, All-tail, Any, ArgMax, ArgMin, BadAxis, Big, BoolScalar, Byte, Bytes, C, Descr, EachWithin, Eight, EmptyReduction, Four, Gives, Int, IsIndex, IsNumber, IsShape, IsValueOf, Items, Layout, LieWithin, Little, Maximum, Minimum, NotForThisKind, Product, Red, Refusal, Run, Scalar, ScalarDescr, Side, StridedAxis, Sum, TooLarge, Two, address, address_at, all_joined, all_offsets, check, check_passed, clamps, count, decode, dot, encode, encode_item, entry-first, false_from_ne_true, firsts-reordered, fold, fold-append, get_or-indexes, index_at, indexes, insert, integer, ints, is_bool, item_at, item_from, item_number, item_of_joined, item_size, joined, joined_list, length-encode, length-first, length-index, length-indexes, length-joined, length-offsets, length-run_offsets, list_all, list_any, low_bits, max_bytes, max_items, multiples, natural, not_negative, number, number_of, number_of_side, number_size, numbers-split, numbers-suc, numbers_from, offsets, offsets-none, offsets_in, one-encoded, pair_even, place, place-at, pos-offset, position, position-add, range_with_len, rank, rank-lt, remove, run_along, run_offsets, run_offsets-more, runs, runs-within, shape_of-same, size, wrap, ◌>>=◌}
unfoldable pub use Rattle.reductions.specs.Words.{shape_of}
pub use Rattle.reductions.specs.declared.lines.Lines.{Lines}
pub use Rattle.reductions.specs.inside.Extremes.{best_from, best_of, better, better-none, is_better}
pub use Rattle.reductions.specs.inside.FoldLaws.{is_true_bits, little_size, total_next, total_step, wide_size}
pub use Rattle.reductions.specs.inside.FoundLaws.{HasFound, HasSought, absent-next, better_next, better_passed, better_same, better_stays, better_taken, found-next}
pub use Rattle.reductions.specs.inside.Inputs.{AreStarts}
pub use Rattle.reductions.specs.inside.Lines.{EachOf, EachPair, IsRow, line_first, line_front, line_run}
pub use Rattle.reductions.specs.inside.Numbers.{AddsReduced, AreReduced, IsPart, IsPushed, IsReduced, IsStored, TakesIn, lines, lists_from, number_at, numbers_at, numbers_of}
pub use Rattle.std.proofs.Math.Bool.{beq}
pub use Rattle.std.proofs.Math.IntN.{*ℤ_comm, +ℤ_idr, neg_ℤ, neg_ℤ-neg_ℤ, negsuc-*ℤ-negsuc, negsuc-*ℤ-pos, pos-*ℤ-negsuc, zero-*ℤ}
pub use Rattle.std.proofs.Math.Seq.{drop-append_seam, take-append_seam}
pub use Rattle.std.proofs.lemmas.Bool.{cases_lt, false≢true, ne_eqb}
pub use Rattle.std.proofs.lemmas.List.{drop-append-le, get_or-map, get_or-set_other, get_or-set_same, get_or_append_left, get_or_default, length-map, length-set, map-append, same_lists, take-append-le, take-take, take_all}
pub use Rattle.std.proofs.lemmas.List.Edits.{swap_is}
pub use Rattle.std.proofs.lemmas.List.Elements.{All-cons, All-from_get_or, All-rest}
pub use Rattle.std.proofs.lemmas.List.FromFn.{get_or-map-range_with_len, length-map-range_with_len}
pub use Rattle.std.proofs.lemmas.List.Sorted.{All-permutation, Contains-permutation, IsPermutation-keeps, IsPermutation-map, IsPermutation-sym, length_permutation, list_any-IsPermutation}
pub use Rattle.std.proofs.lemmas.Result.{err_from_is_err_and}
pub use Rattle.std.specs.List.{flat_map}
pub use Rattle.std.specs.List.Sorted.{IsPermutation}
