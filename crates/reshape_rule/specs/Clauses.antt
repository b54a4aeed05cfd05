-- What the contracts of this crate cite: its own definitions, and names from std and from the crates below.
pub use Rattle.reshape_rule.specs.Reshapes.{IsAffine, IsReshapeOf}
pub use Rattle.reshape_rule.specs.Targets.{given, left_open, length_or, make_up, target_of}
pub use Rattle.reshape_rule.specs.Words.{Gives, count, list_all, max_items, printed_stride, printed_strides}
unfoldable pub use Rattle.reshape_rule.specs.Words.{offsets}
