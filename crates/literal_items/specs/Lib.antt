pub mod LiteralItems
pub mod RangeItems
pub mod inside
pub mod Words
pub mod Clauses
