-- Names from std, from the crates below and from `specs/`, which the proofs use.
pub use Rattle.indexmap.proofs.MoveLemmas.{push_moved}
pub use Rattle.name_store.specs.ArrayLaws.{found-array, offset-at, places-offsets}
pub use Rattle.name_store.specs.Arrays.{addresses, bound_view, buffer_of, descr_of, find_array, has_kept, has_room_for, is_bound, is_in_use, keeping, no_buffer, placed_item, put_array, read, share_cells, span_of, unbound, undone, without, write, written}
pub use Rattle.name_store.specs.Calls.{AnswersWrite, Binds, Counts, CountsUndo, CountsWrite, IsUnused, own_array, own_buffer}
pub use Rattle.name_store.specs.Invariants.{AreUndoable, GoBack, GoBackAt, Holds, IsSound, IsUndoable, LiesAt, LiesIn, all_pins, found_at, held_number, one_at, pins, users_at, users_in, users_of}
pub use Rattle.name_store.specs.Kept.{Names, bytes_before, kept_states, names_before, numbered, past_buffer, past_buffers, past_bytes, past_names, patch_size, with_old}
pub use Rattle.name_store.specs.Memory.{MoveInPlace, NeedsNoMemory}
pub use Rattle.name_store.specs.Parts.{IsPathOf, descr_at, first_at, have_common, part_at, share_leaves, span_at, start_at, with_part}
pub use Rattle.name_store.specs.Places.{IsElementType}
pub use Rattle.name_store.specs.Shown.{Finds, Shows}
pub use Rattle.name_store.specs.States.{Array, BenchValue, Buffer, State, start}
pub use Rattle.name_store.specs.Targets.{FitsBuffer, IsAim, LeadsTo, MayWrite, Supplies, target_offsets}
pub use Rattle.name_store.specs.View.{array_at, bench_value, buffer_in, named_array, present, slot_at, state_of}
pub use Rattle.name_store.specs.Views.{IsLaidOut, IsViewIn, MayBind}
pub use Rattle.name_store.specs.Words.{All-firsts, AllByRecursion, AreAlike, ArePaired, AreInOrder, AreInOrder-append, AreInOrder-earlier, AreInOrder-within, AreNamedWithin, Big, Byte, Contains, Descr, EachWithin, Field, Fields, FinMap, Fits, Four, InOrder, InOrder-within, Int, IsIndex, IsNested, IsPacked, IsPermutation, Layout, LayoutPair, Leaf, LeafValue, Little, Owned, RecordDescr, Ring, Run, ScalarDescr, Two, address, blocks, buffer, bytes_eq, count, decode, decode_item, depth, distance, empty, field_at, fields, fields_of, filled, filled-reordered, filled-run, firsts-reordered, fits-offsets, from_entries, get, get_or-put_after, get_or-put_before, indexes, insert_entry, is_c_contiguous, item_at, item_at-put_same, item_from, item_of_joined, item_pairs, item_size, items_at, items_in, joined, keep_last, last_item, leaf_count, leaf_value, leaves_from, leaves_from-in_order, leaves_from-moved, leaves_in, leaves_in_order, leaves_of, legal_size, length-item_at, length-joined, length-leaves_from, length-offsets, length-put, list_any, max_bytes, move_index, moved_leaf, mul-step, mul_comm, multiples, nat_cmp, natural, nested-reordered, no_field, no_more, number, offsets_of, offsets_within, option_map, option_map_or, pair_even, places_of, put, put_each, put_each-append, range_with_len, record_field, retain_keys, run-within, run_offsets, runs, runs-within, scalar_field, shift_remove_entry, size, some_depth, some_leaves, spare, take_front, with_items}
unfoldable pub use Rattle.name_store.specs.Words.{have_common_byte, offsets}
pub use Rattle.name_store.specs.declared.bound.ArrayRef.{ArrayRef}
pub use Rattle.name_store.specs.declared.bound.Bound.{Bound}
pub use Rattle.name_store.specs.declared.bound.Bound.TheVariants.{Fresh}
pub use Rattle.name_store.specs.declared.bound.Entry.{Entry}
pub use Rattle.name_store.specs.declared.change.Change.{Change}
pub use Rattle.name_store.specs.declared.change.Change.TheVariants.{Bind, Unbind, Write}
pub use Rattle.name_store.specs.declared.target.OldItems.{OldItems}
pub use Rattle.name_store.specs.declared.slot.Slot.{Slot}
pub use Rattle.name_store.specs.declared.target.Home.{Home}
pub use Rattle.name_store.specs.declared.write.Overwritten.{Overwritten}
pub use Rattle.name_store.specs.declared.target.Source.{Source}
pub use Rattle.name_store.specs.declared.target.Source.TheVariants.{Block, One}
pub use Rattle.name_store.specs.declared.target.Target.{Target}
pub use Rattle.name_store.specs.declared.target.Target.TheVariants.{Plan, View}
pub use Rattle.name_store.specs.inside.Exchanges.{AreAll}
pub use Rattle.name_store.specs.inside.Held.{Adds, IsLowest, stand}
pub use Rattle.name_store.specs.inside.Homes.{HasNew, IsHome}
pub use Rattle.name_store.specs.inside.OldItems.{AreKept, AreKeptAt, AreOld, AreSame}
pub use Rattle.name_store.specs.inside.Puts.{AreItems, CanPut, CanWrite, IsNear, MayPut, NeedsNone, Puts, Writes, block_from, parts_of, with_source, without_slot}
pub use Rattle.name_store.specs.inside.Rebinds.{IsOf, Lodges, Rebinds}
pub use Rattle.name_store.specs.inside.Undoes.{Undoes}
pub use Rattle.raw_block.specs.declared.strided.StridedItems.{StridedItems}
pub use Rattle.std.proofs.Math.Bool.{and-false, and-true, or-false}
pub use Rattle.std.proofs.Math.Dec.{eqb-suc-suc, eqb-suc-zero, eqb-zero-suc}
pub use Rattle.std.proofs.Math.ListN.{drop_of_length-le}
pub use Rattle.std.proofs.Math.Nat.{mul-le-mul_left, mul-suc, suc-mul}
pub use Rattle.std.proofs.Math.Seq.{take-add, take-append_seam}
pub use Rattle.std.proofs.lemmas.Bool.{and_parts, both_ways, cases_lt, eqb-false, eqb-true, false≢true, le-ltb, lt-ltb, ltb-false, ltb-true, ne_eqb, or_cases, or_left, or_right}
pub use Rattle.std.proofs.lemmas.Bool.Decides.{Decides-int_eq, same_from_decides}
pub use Rattle.std.proofs.lemmas.Int.{ints}
pub use Rattle.std.proofs.lemmas.List.{append-nil, drop-append-le, drop-drop, drop-map, drop-take, drop_all, drop_at, ext_get_or, get_or-drop, get_or-take, get_or_default, get_or_past, length-map, length-set, map-append, map-set, take-append-drop, take-append-le, take-take, take_at}
pub use Rattle.std.proofs.lemmas.List.Elements.{All-contains, All-from_recursion, All-head, All-replicate, All-rest, All-tail, Contains-get_or, recursion_from_All}
pub use Rattle.std.proofs.lemmas.List.Folds.{list_any-append}
pub use Rattle.std.proofs.lemmas.List.Sorted.{All-permutation, Contains-permutation, length_permutation}
pub use Rattle.std.proofs.lemmas.Map.Entries.{length-keys_of}
pub use Rattle.std.proofs.lemmas.Option.{IfSome_then, cond_some, none-some, same_Some}
pub use Rattle.std.proofs.lemmas.Result.{IfErr-weaker, IfOk-at_ok, IfOk-weaker, err_from_is_err_and}
pub use Rattle.std.proofs.lemmas.Slice.Eq.{bytes_eq-Decides, slice_eq-Decides}
pub use Rattle.std.specs.Cmp.{nat_cmp_total, nat_eq_equiv, unsigned_tied}
pub use Rattle.std.specs.FinMap.{find, get-empty, get-from_entries, get-insert, get-retain_keys, nat_cmp-IsAntisymmetric, same_map}
pub use Rattle.std.specs.List.{flat_map, position_or_len}
pub use Rattle.std.specs.Map.{keys_of, lookup}
pub use Rattle.std.specs.Option.{option_copied, option_copied_mut}
pub use Rattle.std.specs.Ordering.{eq_by_cmp}
pub use Rattle.std.specs.Result.{is_ok}
