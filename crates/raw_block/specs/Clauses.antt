-- What the contracts of this crate cite: its own definitions, and names from std and from the crates below.
pub use Rattle.raw_block.specs.Bytes.{EachWithin, GridWithin, copied, copied_within, exchanged, filled, grid_items, item_at, joined, little_bytes, little_number, place, position, put, swapped, traded}
pub use Rattle.raw_block.specs.NumberRuns.{signed_numbers}
pub use Rattle.raw_block.specs.inside.Bands.{band}
pub use Rattle.raw_block.specs.inside.Pairs.{LieApart}
