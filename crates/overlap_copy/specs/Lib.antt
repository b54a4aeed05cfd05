pub mod Apart
pub mod Copies
pub mod OrderLaws
pub mod Overlaps
pub mod Runs
pub mod inside
pub mod Words
pub mod Clauses
