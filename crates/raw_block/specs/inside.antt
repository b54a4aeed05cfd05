pub mod Appends
pub mod Bands
pub mod Items
pub mod Lends
pub mod Pairs
pub mod Sizes
