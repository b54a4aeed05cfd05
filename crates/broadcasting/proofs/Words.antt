-- Names from std, from the crates below and from `specs/`, which the proofs use.
pub use Rattle.broadcasting.specs.BroadcastLaws.{IsIndex-broadcast, broadcast_index-is, stretched-ok}
pub use Rattle.broadcasting.specs.Broadcasts.{aligned, all_go_together, all_stretch, axes_beyond, broadcast_index, can_stretch, common_lengths, common_with, go_together, stretches, within_axes}
unfoldable pub use Rattle.broadcasting.specs.Broadcasts.{common_of_two, common_shape, stretched, stretched_into}
pub use Rattle.broadcasting.specs.FitLaws.{common-none, common-some, few-axes, given-fits, length-aligned}
pub use Rattle.broadcasting.specs.Shrinking.{CanShrink, IsStretchOf, ShrinksTo}
pub use Rattle.broadcasting.specs.Words.{Gives, GivesView, IsIndex, IsIndex-from_numbers, IsShape, IsView, IsViewOf, Layout, LieWithin, LieWithin-view, OutOfMemory, Refusal, ShapesDoNotBroadcast, ShowsThrough, TooLarge, View, address_at, and_parts, cases_Bool, count, dot, dot-nil, eqb-true, false≢true, inside-view, is_ok, le-max_left, le-max_right, length-index, length-replicate, list_all, max_bytes, max_items, nat_tests, number-lt, offsets, offsets-view, rank-lt, slice-rest, view-twice, view_through, ◌>>=◌}
unfoldable pub use Rattle.broadcasting.specs.Words.{shape_of}
pub use Rattle.broadcasting.specs.inside.Stretches.{AreStretched, kept_stride, kept_strides}
pub use Rattle.std.proofs.Math.ListN.{drop_of_length-le}
pub use Rattle.std.proofs.Math.Bool.{or-true}
pub use Rattle.std.proofs.Math.Nat.{max-eq_left, max-eq_right, mul-le-mul}
pub use Rattle.std.proofs.lemmas.Bool.{and_left, eq-eqb, false_from_ne_true}
pub use Rattle.std.proofs.lemmas.Bool.Decides.{Decides-eqb}
pub use Rattle.std.proofs.lemmas.List.{drop_more, get_or-map, get_or_append_left, get_or_default, length-drop, length-map, nil_from_length}
pub use Rattle.std.proofs.lemmas.List.Elements.{All-drop}
pub use Rattle.std.proofs.lemmas.Result.{err_from_is_err_and}
pub use Rattle.std.proofs.lemmas.Slice.Eq.{slice_eq-Decides}
pub use Rattle.std.specs.Option.{IfSome}
pub use lib.IntN.{*ℤ-zero, +ℤ_idl}
