pub mod Axes
pub mod Picks
