-- Names from std and from the crates below, which this crate's definitions, contracts and proofs use.
pub use Rattle.elem_descr.specs.Refusals.{Gives, check, ◌>>=◌}
pub use Rattle.elem_descr.specs.declared.refusal.Refusal.{Refusal}
pub use Rattle.elem_descr.specs.declared.refusal.Refusal.TheVariants.{BadReshape, TooLarge, TooManyAxes}
pub use Rattle.shape_strides.specs.Addresses.{LieWithin, address_at, dot, natural}
pub use Rattle.shape_strides.specs.AxisIndexes.{unit, zero_filled}
pub use Rattle.shape_strides.specs.AxisLaws.{*ℤ-more, IsIndex-first, IsIndex-unit, dot-unit, dot-zeros, rank-unit, rank-zeros}
pub use Rattle.shape_strides.specs.Contiguity.{first_address, printed_stride, printed_strides}
pub use Rattle.shape_strides.specs.ContiguityLaws.{first_address-entry, length-printed, printed-at}
pub use Rattle.shape_strides.specs.CountLaws.{count-drop, factors_pos, min-mul}
pub use Rattle.shape_strides.specs.IndexLaws.{get_or-indexes, index_at, length-indexes, rank-lt}
pub use Rattle.shape_strides.specs.Indexes.{IsIndex, count, indexes, rank}
pub use Rattle.shape_strides.specs.LayoutLaws.{Fits-same, entry-first, get_or-offsets, length-offsets, no_offsets, offsets_within, pos-offset}
pub use Rattle.shape_strides.specs.Layouts.{Fits, address, offsets_of}
unfoldable pub use Rattle.shape_strides.specs.Layouts.{offsets}
pub use Rattle.shape_strides.specs.Limits.{max_axes, max_bytes, max_items}
pub use Rattle.shape_strides.specs.PlaceLaws.{offset_low}
pub use Rattle.shape_strides.specs.ShapeLaws.{shape_of-capped, shape_of-same}
unfoldable pub use Rattle.shape_strides.specs.Shapes.{shape_of}
pub use Rattle.shape_strides.specs.declared.layout.Layout.{Layout}
pub use Rattle.std.proofs.lemmas.Bool.{cond-true, false≢true}
pub use Rattle.std.proofs.lemmas.Bool.Decides.{Decides-int_eq, nat_tests}
pub use Rattle.std.proofs.lemmas.Int.{ints}
pub use Rattle.std.proofs.lemmas.List.Sums.{AllPass-from_list_all, list_all-from_AllPass}
pub use Rattle.std.specs.List.{list_all}
pub use Rattle.std.specs.Ordering.{int_eq}
pub use lib.IntN.{*ℤ-zero, +ℤ_idr}
