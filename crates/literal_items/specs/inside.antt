pub mod FieldItems
pub mod Numbered
