pub mod Words
pub mod SliceLaws
pub mod ViewLaws
pub mod TransposeLaws
pub mod AxesLaws
pub mod TransposeViews
pub mod PickLaws
pub mod StrideLaws
pub mod PickViews
pub mod BasicLaws
pub mod FieldLaws
mod SliceVectors
mod TransposeVectors
mod BasicVectors
