pub mod Broadcasts
pub mod BroadcastLaws
pub mod FitLaws
pub mod Shrinking
pub mod inside
pub mod Words
pub mod Clauses
