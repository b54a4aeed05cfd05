-- Names from std, from the crates below and from `specs/`, which the proofs use.
pub use Rattle.overlap_copy.specs.Apart.{IsGreatestDivisor, LieBetween, step_of, steps}
pub use Rattle.overlap_copy.specs.Copies.{ArePaired, Assigns, CanMove}
pub use Rattle.overlap_copy.specs.OrderLaws.{assigns-reordered, nested-reordered}
pub use Rattle.overlap_copy.specs.Overlaps.{do_ranges_meet}
unfoldable pub use Rattle.overlap_copy.specs.Overlaps.{begins_below, have_common_byte}
pub use Rattle.overlap_copy.specs.Words.{All-back, All-firsts, All-from_recursion, All-front, All-head, All-permutation, All-seconds, All-tail, Axis, BeginsWithin, Each, EachWithin, Fits, IsFalling, IsInOrder, IsIndex, IsNested, IsPermutation, IsPermutation-sym, IsRising, Layout, LayoutPair, LieAbove, LieBelow, LieWithin, Run, RunPair, address, address_at, assigned, assigned-append, axes, begins_within, byte_of, cases_eq, cases_lt, copied_within, count, distance, dot, entry-first, exchanged, exchanged-items, exchanged-outside, ext_get_or, factors_pos, fewer, firsts-reordered, flat_map, flipped-reordered, get_or-map, get_or-put_after, get_or-put_before, get_or_default, index_at, indexes, item_at, item_at-put_apart, item_at-put_same, items_at, joined-items, joined_at, length-exchanged, length-indexes, length-item_at, length-joined_at, length-map, length-offsets, length-put, length-replicate, length-run_offsets, lengths_in, lie-within, list_any, max_bytes, max_items, multiples, natural, next_pair, not_negative, numbers-split, numbers_from, offsets_within, pair_even, place, place-at, place_within, pos-offset, position, position-add, put, rank, reach, reached, reordered, run-ends, run-within, run_offsets, run_offsets-more, runs-within, same_test, seconds-reordered, swapped, times_of, traded, with_items, zip, ◌∣◌}
unfoldable pub use Rattle.overlap_copy.specs.Words.{offsets}
pub use Rattle.overlap_copy.specs.inside.Marks.{IsMarkedUpTo, is_end_marked, is_marked}
unfoldable pub use Rattle.overlap_copy.specs.inside.Marks.{holds_byte}
pub use Rattle.overlap_copy.specs.inside.Moves.{AreAlike, AreSpaced, CanMoveRun, IsAssigned, IsLine, IsOutside, IsTurned, LieApart, LiesApart, RunLies, RunsLie, firsts, place_in, seconds}
pub use Rattle.overlap_copy.specs.inside.Overwrites.{CanOverwrite, Overwrites}
pub use Rattle.overlap_copy.specs.inside.Shifts.{MayCome, source, source_run, sources}
pub use Rattle.overlap_copy.specs.inside.Sums.{AreForward, HasSum, max_reach, reach_of}
pub use Rattle.overlap_copy.specs.inside.Trades.{Trades, traded_at}
pub use Rattle.overlap_copy.specs.inside.Turns.{IsTurn}
pub use Rattle.raw_block.specs.declared.strided.StridedItems.{StridedItems}
pub use Rattle.std.proofs.Math.IntN.{*ℤ-one, *ℤ-zero, *ℤ_comm, +ℤ_idr, negsuc-*ℤ-pos, pos-*ℤ-negsuc, zero-*ℤ}
pub use Rattle.std.proofs.Math.Nat.{add-mul, add-mul-mod_self_left, div-add-mod, div-le_self, mod-lt, mod-mod}
pub use Rattle.std.proofs.Math.Seq.{take-append_seam}
pub use Rattle.std.proofs.lemmas.Bool.{and_from, and_left, and_parts, and_right, both_ways, cond-true, eq-eqb, eqb-true, false_from_ne_true, false≢true, le-leb, le-ltb, leb-true, lt-leb, lt-ltb, ltb-true, ne_eqb, or_right}
pub use Rattle.std.proofs.lemmas.Grind.{div_ceil_times, flat_map-append}
pub use Rattle.std.proofs.lemmas.Int.{ints, to_z-of_z}
pub use Rattle.std.proofs.lemmas.List.{drop_all, get_or-replicate, get_or-reverse, get_or-set_other, get_or-set_same, get_or_append_left, get_or_past, map-append, same_lists, take-append-le, take_all}
pub use Rattle.std.proofs.lemmas.List.Elements.{All-rest, recursion_from_All}
pub use Rattle.std.proofs.lemmas.List.Folds.{Any-from_list_any, list_any-from_Any, list_any_none}
pub use Rattle.std.proofs.lemmas.List.Sorted.{IsPermutation-trans, sum_by-IsPermutation}
pub use Rattle.std.proofs.lemmas.List.Sums.{sum_by-cons}
pub use Rattle.std.proofs.lemmas.Nat.Gcd.{IsGcd-from_mod, IsGcd-from_zero, dvd-zero, dvd_antisymm, dvd_refl, dvd_trans}
pub use Rattle.std.proofs.lemmas.Option.{IfSome_then}
pub use Rattle.std.proofs.lemmas.Result.{IfOk-weaker}
pub use Rattle.std.specs.Int.{IsGcd, div_ceil}
pub use Rattle.std.specs.Option.{IsSome}
pub use lib.IntN.{+ℤ_idl}
unfoldable pub use lib.IntN.{one}
pub use mir.Val.{SFits, of_z, to_z}
