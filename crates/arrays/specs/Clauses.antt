-- What the contracts of this crate cite: its own definitions, and names from std and from the crates below.
pub use Rattle.arrays.specs.Assignments.{assigned, items_at}
pub use Rattle.arrays.specs.Blocks.{FillsBlock, offsets_in}
pub use Rattle.arrays.specs.Joined.{joined_at}
pub use Rattle.arrays.specs.Words.{C, EachWithin, OutOfMemory, TooLarge, count, item_at, item_from, item_size, max_bytes, multiples, run_offsets}
unfoldable pub use Rattle.arrays.specs.Words.{offsets}
pub use Rattle.arrays.specs.inside.Rows.{grid_of}
