pub mod Reach
pub mod Starts
pub mod Heads
pub mod Single
pub mod LastRuns
pub mod Orders
pub mod AxisMoves
