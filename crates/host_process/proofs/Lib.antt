pub mod Depths
pub mod Said
