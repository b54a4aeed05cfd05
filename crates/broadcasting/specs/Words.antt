-- Names from std and from the crates below, which this crate's definitions, contracts and proofs use.
pub use Rattle.elem_descr.specs.ListLaws.{slice-rest}
pub use Rattle.elem_descr.specs.RefusalLaws.{check_passed, same_answer}
pub use Rattle.elem_descr.specs.Refusals.{Gives, check, ◌>>=◌}
pub use Rattle.elem_descr.specs.declared.refusal.Refusal.{Refusal}
pub use Rattle.elem_descr.specs.declared.refusal.Refusal.TheVariants.{OutOfMemory, ShapesDoNotBroadcast, TooLarge}
pub use Rattle.shape_strides.specs.Addresses.{LieWithin, address_at, dot, natural}
pub use Rattle.shape_strides.specs.AxisLaws.{dot-nil}
pub use Rattle.shape_strides.specs.IndexLaws.{IsIndex-from_numbers, length-index, number-lt, rank-lt, same_on_indexes}
pub use Rattle.shape_strides.specs.Indexes.{IsIndex, count, rank}
pub use Rattle.shape_strides.specs.LayoutLaws.{get_or-offsets}
pub use Rattle.shape_strides.specs.Layouts.{address}
unfoldable pub use Rattle.shape_strides.specs.Layouts.{offsets}
pub use Rattle.shape_strides.specs.Limits.{max_bytes, max_items}
pub use Rattle.shape_strides.specs.ShapeLaws.{shape_of-same}
pub use Rattle.shape_strides.specs.Shapes.{IsShape}
unfoldable pub use Rattle.shape_strides.specs.Shapes.{shape_of}
pub use Rattle.shape_strides.specs.declared.layout.Layout.{Layout}
pub use Rattle.std.proofs.Math.Nat.{le-max_left, le-max_right}
pub use Rattle.std.proofs.lemmas.Bool.{and_parts, cases_Bool, eqb-true, false≢true}
pub use Rattle.std.proofs.lemmas.Bool.Decides.{nat_tests}
pub use Rattle.std.proofs.lemmas.List.{append_assoc, length-replicate, replicate-append-replicate}
pub use Rattle.std.proofs.lemmas.List.Elements.{All-cons, All-nil}
pub use Rattle.std.specs.List.{list_all}
pub use Rattle.std.specs.Result.{is_ok}
pub use Rattle.view_ops.specs.Shows.{IsView, ShowsThrough}
pub use Rattle.view_ops.specs.ViewLaws.{LieWithin-view, inside-view, offsets-view, view-twice}
pub use Rattle.view_ops.specs.Views.{GivesView, IsViewOf, View, view_through}
