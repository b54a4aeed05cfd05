pub mod Words
mod Vectors
pub mod LineLaws
pub mod AxisLaws
pub mod DecidedLaws
pub mod OutcomeLaws
pub mod RowLaws
pub mod SoughtLaws
pub mod AddedLaws
pub mod HeldLaws
pub mod OrderLaws
