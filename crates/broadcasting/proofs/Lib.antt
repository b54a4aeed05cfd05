pub mod Words
pub mod AlignedLaws
pub mod StretchLaws
pub mod FewerLaws
pub mod IntoLaws
pub mod CommonLaws
pub mod ShrinkLaws
mod Vectors
