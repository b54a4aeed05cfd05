-- Names from std, from the crates below and from `specs/`, which the proofs use.
pub use Rattle.arrays.specs.Assignments.{assigned, items_at}
pub use Rattle.arrays.specs.Blocks.{offsets_in, places_of}
pub use Rattle.arrays.specs.FortranLaws.{fortran-all, items-in_fortran}
pub use Rattle.arrays.specs.Joined.{joined_at}
pub use Rattle.arrays.specs.JoinedLaws.{joined-by, joined-items, joined-offsets, length-joined_at}
pub use Rattle.arrays.specs.Packed.{packed_run, row_offsets}
pub use Rattle.arrays.specs.PackedLaws.{length-row, room-next, row-multiples, row-split}
pub use Rattle.arrays.specs.RunLaws.{All-back, All-front, assigned-append, lie-within, place-at, run_offsets-more, runs-within, walked-within}
pub use Rattle.arrays.specs.Words.{All-head, All-tail, Descr, EachWithin, Grid, GridWithin, LieWithin, Run, StridedAxis, all_offsets, copied, count, count-reverse, decode_item, f_multiples, fewer, first_address, first_position, flat_map, flat_map-append, fortran_order, get_or-map, grid_item, grid_items, indexes, ints, is_c_contiguous, is_f_contiguous, item_at, item_from, item_size, joined, joined-same, length-first, length-map, length-offsets, length-run_offsets, map-append, map-map, max_bytes, mul-suc, multiples, nat_abs, not_negative, offsets, offsets_within, place, position, put, range_with_len, rank, run_along, run_offsets, ℤ}
pub use Rattle.arrays.specs.inside.Rows.{grid_of, rows_of}
pub use Rattle.std.proofs.Math.Nat.{mul-div_cancel_left}
pub use Rattle.std.proofs.lemmas.Bool.{and_parts, eq-eqb, eqb-true}
pub use Rattle.std.proofs.lemmas.Grind.{common_steps}
pub use Rattle.std.proofs.lemmas.List.{drop-drop, drop-take, take-take}
pub use Rattle.std.proofs.lemmas.List.Elements.{All-rest}
pub use Rattle.std.proofs.lemmas.Result.{IfOk-weaker}
