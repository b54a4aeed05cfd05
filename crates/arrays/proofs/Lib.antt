pub mod Words
mod Vectors
pub mod GridLaws
pub mod ItemLaws
pub mod OwnedLaws
pub mod PackedLaws
pub mod RunCopies
pub mod WholeLaws
