-- Names from std and from the crates below, which this crate's definitions, contracts and proofs use.
pub use Rattle.arrays.specs.Assignments.{assigned, items_at, with_items}
pub use Rattle.arrays.specs.Blocks.{places_of}
pub use Rattle.arrays.specs.PairLaws.{All-firsts, firsts-reordered, pair_even}
pub use Rattle.arrays.specs.RunLaws.{run-within, runs-within}
pub use Rattle.arrays.specs.declared.owned.Owned.{Owned}
pub use Rattle.circular_buffer.specs.Buffer.{Buffer as Ring, buffer, keep_last, last_item}
pub use Rattle.elem_descr.specs.Blocks.{blocks, item_from, items_in}
pub use Rattle.elem_descr.specs.DescriptorLaws.{InOrder-within, legal_size, some_depth, some_leaves}
pub use Rattle.elem_descr.specs.Descriptors.{AreNamed, AreNamedWithin, InOrder, IsLegal, depth, fields_of, leaf_count}
pub use Rattle.elem_descr.specs.Encoding.{decode, size}
pub use Rattle.elem_descr.specs.Fields.{Fields, Structure, no_more, record_field, scalar_field}
pub use Rattle.elem_descr.specs.ItemLaws.{AreInOrder-append, AreInOrder-earlier, AreInOrder-within, leaf_value, leaves_from-in_order, leaves_from-moved, leaves_in_order, length-leaves_from}
pub use Rattle.elem_descr.specs.Items.{AreAlike, AreInOrder, decode_item, field_at, fields, item_size, leaves_from, leaves_in, leaves_of, moved_leaf, no_field}
pub use Rattle.elem_descr.specs.ListLaws.{take_front}
pub use Rattle.elem_descr.specs.Values.{LeafValue, leaf_code, number}
pub use Rattle.elem_descr.specs.declared.descr.Descr.{Descr}
pub use Rattle.elem_descr.specs.declared.descr.Descr.TheVariants.{Record as RecordDescr, Scalar as ScalarDescr}
pub use Rattle.elem_descr.specs.declared.descr.Field.{Field}
pub use Rattle.elem_descr.specs.declared.descr.Leaf.{Leaf}
pub use Rattle.elem_descr.specs.declared.refusal.Refusal.{Refusal}
pub use Rattle.elem_descr.specs.declared.refusal.Refusal.TheVariants.{NothingToUndo, OutOfMemory, TooManyNames, UnknownName}
pub use Rattle.elem_descr.specs.declared.scalar.Order.TheVariants.{Big, Little}
pub use Rattle.elem_descr.specs.declared.scalar.Scalar.TheVariants.{Byte, Int}
pub use Rattle.elem_descr.specs.declared.scalar.Width.TheVariants.{Four, Two}
pub use Rattle.fancy_index.specs.PlanLaws.{filled-run, put_each-append}
pub use Rattle.fancy_index.specs.Plans.{put_each}
pub use Rattle.indexmap.specs.IndexMap.{insert_entry, move_index, shift_remove_entry, spare}
pub use Rattle.overlap_copy.specs.Apart.{AreApart}
pub use Rattle.overlap_copy.specs.Copies.{ArePaired, Assigns, IsPacked}
pub use Rattle.overlap_copy.specs.OrderLaws.{filled-reordered, nested-reordered}
unfoldable pub use Rattle.overlap_copy.specs.Overlaps.{have_common_byte}
pub use Rattle.overlap_copy.specs.Runs.{AreReversed, AreRuns}
pub use Rattle.raw_block.specs.Bytes.{EachWithin, filled, item_at, joined, put}
pub use Rattle.raw_block.specs.BytesLaws.{get_or-put_after, get_or-put_before, item_at-put_same, length-item_at, length-put}
pub use Rattle.raw_block.specs.JoinedLaws.{item_of_joined, length-joined}
pub use Rattle.shape_strides.specs.Contiguity.{is_c_contiguous}
pub use Rattle.shape_strides.specs.CountLaws.{mul-step}
pub use Rattle.shape_strides.specs.Indexes.{IsIndex, count, indexes, rank}
pub use Rattle.shape_strides.specs.ItemPairs.{item_pairs}
pub use Rattle.shape_strides.specs.LayoutLaws.{length-offsets, offsets_within}
pub use Rattle.shape_strides.specs.Layouts.{Fits, IsNested, address, distance, multiples, natural, offsets_of}
unfoldable pub use Rattle.shape_strides.specs.Layouts.{offsets}
pub use Rattle.shape_strides.specs.Limits.{max_bytes}
pub use Rattle.shape_strides.specs.PlaceLaws.{fits-offsets}
pub use Rattle.shape_strides.specs.Runs.{run_offsets}
unfoldable pub use Rattle.shape_strides.specs.Runs.{runs}
pub use Rattle.shape_strides.specs.Stacks.{IsStacked}
pub use Rattle.shape_strides.specs.declared.layout.Layout.{Layout}
pub use Rattle.shape_strides.specs.declared.layout_pair.LayoutPair.{LayoutPair}
pub use Rattle.shape_strides.specs.declared.runs.Run.{Run}
pub use Rattle.std.proofs.Math.Nat.{mul_comm}
pub use Rattle.std.proofs.Props.{props}
pub use Rattle.std.proofs.lemmas.Nat.{div-mul-add}
pub use Rattle.std.specs.Coded.{Coded, Unit-prop, code_by, coded_bool, coded_list, coded_ℕ, coded×, le_prop}
pub use Rattle.std.specs.FinMap.{FinMap, code, empty, from_entries, get, insert, retain_keys}
pub use Rattle.std.specs.List.{AllByRecursion, AllByRecursion-prop, Contains, list_any, range_with_len}
pub use Rattle.std.specs.List.Sorted.{IsPermutation}
pub use Rattle.std.specs.Option.{option_map, option_map_or}
pub use Rattle.std.specs.Ordering.{nat_cmp}
pub use Rattle.std.specs.Str.{bytes_eq}
