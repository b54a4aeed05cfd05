pub mod Bits
pub mod Kinds
pub mod NumberLaws
pub mod Sides
