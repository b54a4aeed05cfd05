-- What the contracts of this crate cite: its own definitions, and names from std and from the crates below.
pub use Rattle.reductions.specs.Lists.{IsAxisOf, is_axis, list_length, named_axis, reduced_shape}
pub use Rattle.reductions.specs.Outcomes.{IsReduction, has_empty_list, number_scalar, shape_after}
pub use Rattle.reductions.specs.Reductions.{depends_on_order, needs_items, result_scalar, wide}
pub use Rattle.reductions.specs.Words.{BadAxis, Gives, IsNumber, Little, Scalar, ScalarDescr, count, item_at, max_items, number_of_side, remove, size}
unfoldable pub use Rattle.reductions.specs.Words.{offsets}
pub use Rattle.reductions.specs.inside.Inputs.{AreResults, AreStarts, HaveItems, lists_of}
pub use Rattle.reductions.specs.inside.Lines.{AreHeld, EachOf, HaveTakenRow, all_lines}
pub use Rattle.reductions.specs.inside.Numbers.{AddsReduced, AreReduced, IsReduced, IsStored, lines, lists_from, numbers_at}
