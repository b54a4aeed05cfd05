pub mod Numbers
pub mod FoldLaws
pub mod Extremes
pub mod FoundLaws
pub mod Inputs
pub mod Lines
