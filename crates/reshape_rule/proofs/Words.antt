-- Names from std, from the crates below and from `specs/`, which the proofs use.
pub use Rattle.reshape_rule.specs.AffineLaws.{affine-address}
pub use Rattle.reshape_rule.specs.Reshapes.{IsAffine, IsReshapeOf}
pub use Rattle.reshape_rule.specs.Targets.{given, left_open, length_or, make_up}
unfoldable pub use Rattle.reshape_rule.specs.Targets.{target_of}
pub use Rattle.reshape_rule.specs.Words.{*ℤ-more, *ℤ-zero, BadReshape, Fits-same, Gives, IsIndex, Layout, LieWithin, Refusal, TooLarge, TooManyAxes, address, address_at, check, cond-true, count, count-drop, dot, entry-first, factors_pos, false≢true, get_or-offsets, index_at, ints, length-offsets, length-printed, list_all, max_axes, max_bytes, max_items, min-mul, nat_tests, natural, no_offsets, offset_low, offsets, offsets_of, offsets_within, pos-offset, printed_stride, printed_strides, rank, rank-lt, shape_of-capped, shape_of-same, ◌>>=◌}
unfoldable pub use Rattle.reshape_rule.specs.Words.{shape_of}
pub use Rattle.reshape_rule.specs.inside.Tests.{is_affine}
pub use Rattle.std.proofs.Math.Nat.{div-eq_of_lt, min-eq_left, min-eq_right, mod-eq_of_lt}
pub use Rattle.std.proofs.lemmas.Bool.{and_parts, cases_Bool, cases_lt, eqb-true}
pub use Rattle.std.proofs.lemmas.Grind.{get_or_default_zero}
pub use Rattle.std.proofs.lemmas.Int.{to_z-of_z}
pub use Rattle.std.proofs.lemmas.List.{append_assoc, drop_more, get_or-map, length-map, same_lists}
pub use Rattle.std.proofs.lemmas.Simd.{map-map}
pub use Rattle.std.specs.Result.{IfOk, is_ok}
pub use native.Mathlib.Numerals.{unary_clauses}
