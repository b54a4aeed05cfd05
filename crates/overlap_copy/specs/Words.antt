-- Names from std and from the crates below, which this crate's definitions, contracts and proofs use.
pub use Rattle.arrays.specs.Assignments.{assigned, items_at, with_items}
pub use Rattle.arrays.specs.Joined.{joined_at}
pub use Rattle.arrays.specs.JoinedLaws.{joined-items, length-joined_at}
pub use Rattle.arrays.specs.PairLaws.{All-firsts, All-seconds, firsts-reordered, flipped-reordered, pair_even, seconds-reordered}
pub use Rattle.arrays.specs.RunLaws.{All-back, All-front, BeginsWithin, assigned-append, lie-within, next_pair, place-at, run-ends, run-within, run_offsets-more, runs-within}
pub use Rattle.elem_descr.specs.ListLaws.{same_test}
pub use Rattle.elem_descr.specs.StepLaws.{numbers-split}
pub use Rattle.elem_descr.specs.Steps.{numbers_from}
pub use Rattle.raw_block.specs.Bytes.{EachWithin, copied_within, exchanged, item_at, place, position, put, swapped, traded}
pub use Rattle.raw_block.specs.BytesLaws.{begins_within, byte_of, fewer, get_or-put_after, get_or-put_before, item_at-put_apart, item_at-put_same, length-item_at, length-put, not_negative, place_within, position-add}
pub use Rattle.raw_block.specs.ExchangeLaws.{exchanged-items, exchanged-outside, length-exchanged}
pub use Rattle.shape_strides.specs.AddressOrders.{IsFalling, IsInOrder, IsRising}
pub use Rattle.shape_strides.specs.Addresses.{LieWithin, address_at, dot, natural}
pub use Rattle.shape_strides.specs.CountLaws.{factors_pos, times_of}
pub use Rattle.shape_strides.specs.IndexLaws.{index_at, length-indexes}
pub use Rattle.shape_strides.specs.Indexes.{IsIndex, count, indexes, rank}
pub use Rattle.shape_strides.specs.ItemPairs.{item_pairs}
pub use Rattle.shape_strides.specs.LayoutLaws.{entry-first, length-offsets, offsets_within, pos-offset}
pub use Rattle.shape_strides.specs.Layouts.{Fits, IsNested, address, distance, multiples}
unfoldable pub use Rattle.shape_strides.specs.Layouts.{offsets}
pub use Rattle.shape_strides.specs.Limits.{max_axes, max_bytes, max_items}
pub use Rattle.shape_strides.specs.PermutationLaws.{reached, reordered}
pub use Rattle.shape_strides.specs.Reaches.{LieAbove, LieBelow}
pub use Rattle.shape_strides.specs.Runs.{GoesBy, run_offsets}
pub use Rattle.shape_strides.specs.Stacks.{IsStacked, axes, lengths_in, reach}
pub use Rattle.shape_strides.specs.WalkLaws.{length-run_offsets}
pub use Rattle.shape_strides.specs.declared.layout.Layout.{Layout}
pub use Rattle.shape_strides.specs.declared.layout_pair.LayoutPair.{LayoutPair}
pub use Rattle.shape_strides.specs.declared.run_pairs.RunPair.{RunPair}
pub use Rattle.shape_strides.specs.declared.runs.Run.{Run}
pub use Rattle.shape_strides.specs.declared.stacked.Axis.{Axis}
pub use Rattle.std.proofs.lemmas.Bool.{cases_eq, cases_lt}
pub use Rattle.std.proofs.lemmas.List.{ext_get_or, get_or-map, get_or_default, length-map, length-replicate}
pub use Rattle.std.proofs.lemmas.List.Edits.{length-swap, swapped_from_swap}
pub use Rattle.std.proofs.lemmas.List.Elements.{All-from_recursion, All-head, All-tail, Contains-get_or}
pub use Rattle.std.proofs.lemmas.List.Sorted.{All-permutation, Contains-permutation, IsPermutation-keeps, IsPermutation-map, IsPermutation-sym}
pub use Rattle.std.proofs.lemmas.Slice.Zip.{get_or-zip, length-zip}
pub use Rattle.std.specs.Int.{◌∣◌}
pub use Rattle.std.specs.List.{AllByRecursion as Each, flat_map, list_any, swap, zip}
pub use Rattle.std.specs.List.Sorted.{IsPermutation}
