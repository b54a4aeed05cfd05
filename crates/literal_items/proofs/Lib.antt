pub mod Words
pub mod Nuls
pub mod Leaves
pub mod Fields
pub mod Blocked
pub mod Stepping
pub mod Ends
pub mod Counted
mod Vectors
