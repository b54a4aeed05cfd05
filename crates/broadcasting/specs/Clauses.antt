-- What the contracts of this crate cite: its own definitions, and names from std and from the crates below.
pub use Rattle.broadcasting.specs.Broadcasts.{aligned, broadcast_index, can_stretch, common_length, common_of_two, common_shape, go_together, stretched, stretched_into, stretches}
pub use Rattle.broadcasting.specs.Shrinking.{CanShrink, IsStretchOf, RepeatsAlong, ShrinksTo}
pub use Rattle.broadcasting.specs.Words.{Gives, GivesView, IsViewOf, list_all}
pub use Rattle.broadcasting.specs.inside.Stretches.{AreStretched, kept_stride}
