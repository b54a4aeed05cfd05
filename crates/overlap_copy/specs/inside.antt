pub mod Marks
pub mod Moves
pub mod Overwrites
pub mod Shifts
pub mod Sums
pub mod Trades
pub mod Turns
