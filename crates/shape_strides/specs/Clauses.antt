-- What the contracts of this crate cite: its own definitions, and names from std and from the crates below.
pub use Rattle.shape_strides.specs.AddressOrders.{IsInOrder}
pub use Rattle.shape_strides.specs.Addresses.{natural}
pub use Rattle.shape_strides.specs.Contiguity.{first_address, fortran_order, is_c_contiguous, is_f_contiguous, printed_strides}
pub use Rattle.shape_strides.specs.Indexes.{count}
pub use Rattle.shape_strides.specs.Joined.{all_joined, join_outside, leads_over, strided_axes}
pub use Rattle.shape_strides.specs.Layouts.{Fits, IsNested, c_strides, f_multiples, f_strides, multiples, offsets}
pub use Rattle.shape_strides.specs.Limits.{max_axes, max_bytes, max_items}
pub use Rattle.shape_strides.specs.Reaches.{LieAbove, LieBelow}
pub use Rattle.shape_strides.specs.Runs.{GoesBy, RunWithin, run_offsets}
pub use Rattle.shape_strides.specs.Stacks.{IsStacked, axes, lengths_in}
pub use Rattle.shape_strides.specs.Walks.{AreAxes, offsets_at}
pub use Rattle.shape_strides.specs.Words.{IsPermutation, flat_map}
pub use Rattle.shape_strides.specs.inside.LastRuns.{IsLastRun}
pub use Rattle.shape_strides.specs.inside.Orders.{IsShortStep, along}
pub use Rattle.shape_strides.specs.inside.Reach.{max_reach, reach_above, reach_below, reach_within}
pub use Rattle.shape_strides.specs.inside.Single.{if_long}
pub use Rattle.shape_strides.specs.inside.Starts.{lengths_of}
pub use Rattle.std.specs.List.Sorted.{IsNonDecreasingBy}
