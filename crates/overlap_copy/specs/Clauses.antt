-- What the contracts of this crate cite: its own definitions, and names from std and from the crates below.
pub use Rattle.overlap_copy.specs.Apart.{AreApart, IsGreatestDivisor, LieBetween, steps}
pub use Rattle.overlap_copy.specs.Copies.{ArePaired, Assigns, CanMove, IsPacked}
pub use Rattle.overlap_copy.specs.Overlaps.{do_ranges_meet, have_common_byte}
pub use Rattle.overlap_copy.specs.Runs.{AreReversed, AreRuns}
pub use Rattle.overlap_copy.specs.Words.{BeginsWithin, Fits, IsNested, IsPermutation, IsStacked, assigned, copied_within, item_pairs, items_at, list_any, max_axes, max_bytes, max_items, run_offsets, with_items}
unfoldable pub use Rattle.overlap_copy.specs.Words.{offsets}
pub use Rattle.overlap_copy.specs.inside.Marks.{IsMarkedUpTo, holds_byte, is_end_marked, is_marked}
pub use Rattle.overlap_copy.specs.inside.Moves.{AreAlike, CanMoveRun, IsAssigned, IsLine, IsTurned, LieApart, RunLies, RunsLie, place_in}
pub use Rattle.overlap_copy.specs.inside.Overwrites.{CanOverwrite, Overwrites}
pub use Rattle.overlap_copy.specs.inside.Shifts.{source_run}
pub use Rattle.overlap_copy.specs.inside.Sums.{AreForward, HasSum, reach_of}
pub use Rattle.overlap_copy.specs.inside.Trades.{Trades}
pub use Rattle.overlap_copy.specs.inside.Turns.{IsTurn}
pub use Rattle.std.specs.Int.{IsGcd}
