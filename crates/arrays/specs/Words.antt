-- Names from std and from the crates below, which this crate's definitions, contracts and proofs use.
pub use Rattle.elem_descr.specs.Blocks.{item_from}
pub use Rattle.elem_descr.specs.Items.{decode_item, item_size}
pub use Rattle.elem_descr.specs.StepLaws.{numbers-split}
pub use Rattle.elem_descr.specs.Steps.{numbers_from}
pub use Rattle.elem_descr.specs.Values.{LeafValue}
pub use Rattle.elem_descr.specs.declared.descr.Descr.{Descr}
pub use Rattle.elem_descr.specs.declared.operators.MemoryOrder.{MemoryOrder}
pub use Rattle.elem_descr.specs.declared.operators.MemoryOrder.TheVariants.{C, Fortran}
pub use Rattle.elem_descr.specs.declared.refusal.Refusal.TheVariants.{OutOfMemory, TooLarge}
pub use Rattle.raw_block.specs.Bytes.{EachWithin, GridWithin, copied, grid_item, grid_items, item_at, joined, place, position, put}
pub use Rattle.raw_block.specs.BytesLaws.{fewer, first_position, length-item_at, not_negative, place_within}
pub use Rattle.raw_block.specs.JoinedLaws.{joined-same}
pub use Rattle.raw_block.specs.declared.grid.Grid.{Grid}
pub use Rattle.shape_strides.specs.Addresses.{LieWithin, natural}
pub use Rattle.shape_strides.specs.Contiguity.{first_address, fortran_order, is_c_contiguous, is_f_contiguous}
pub use Rattle.shape_strides.specs.IndexLaws.{get_or-indexes, index_at, length-indexes, rank-lt}
pub use Rattle.shape_strides.specs.Indexes.{IsIndex, count, indexes, rank}
pub use Rattle.shape_strides.specs.LayoutLaws.{length-offsets, offsets_within}
pub use Rattle.shape_strides.specs.Layouts.{Fits, IsNested, f_multiples, multiples}
unfoldable pub use Rattle.shape_strides.specs.Layouts.{offsets}
pub use Rattle.shape_strides.specs.Limits.{max_bytes}
pub use Rattle.shape_strides.specs.ReverseLaws.{IsIndex-from_reverse, IsIndex-reverse, count-reverse}
pub use Rattle.shape_strides.specs.RunPairs.{all_offsets}
pub use Rattle.shape_strides.specs.Runs.{run_along, run_offsets}
pub use Rattle.shape_strides.specs.WalkLaws.{length-first, length-run_offsets}
pub use Rattle.shape_strides.specs.declared.layout.Layout.{Layout}
pub use Rattle.shape_strides.specs.declared.layout_pair.LayoutPair.{LayoutPair}
pub use Rattle.shape_strides.specs.declared.run_pairs.RunPair.{RunPair}
pub use Rattle.shape_strides.specs.declared.runs.Run.{Run}
pub use Rattle.shape_strides.specs.declared.single_run.StridedAxis.{StridedAxis}
pub use Rattle.std.proofs.Math.IntN.{*ℤ_comm, +ℤ_idr}
pub use Rattle.std.proofs.Math.Nat.{mul-suc}
pub use Rattle.std.proofs.Math.Seq.{drop-append_seam, take-append_seam}
pub use Rattle.std.proofs.lemmas.Grind.{flat_map-append}
pub use Rattle.std.proofs.lemmas.Int.{ints}
pub use Rattle.std.proofs.lemmas.List.{get_or-append_right, get_or-map, get_or_append_left, length-map, map-append, reverse-reverse, same_lists}
pub use Rattle.std.proofs.lemmas.List.Elements.{All-from_get_or, All-from_recursion, All-head, All-tail}
pub use Rattle.std.proofs.lemmas.List.FromFn.{get_or-map-range_with_len, length-map-range_with_len}
pub use Rattle.std.proofs.lemmas.List.Sorted.{All-permutation, IsPermutation-map}
pub use Rattle.std.proofs.lemmas.Simd.{map-map}
pub use Rattle.std.proofs.lemmas.Slice.Zip.{firsts-zip, seconds-zip}
pub use Rattle.std.specs.List.{AllByRecursion as Each, flat_map, range_with_len, zip}
pub use Rattle.std.specs.List.Sorted.{IsPermutation}
pub use lib.IntN.{nat_abs, negsuc, ℤ}
