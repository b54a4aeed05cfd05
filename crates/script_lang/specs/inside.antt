pub mod NodeCounts
pub mod Classes
pub mod Rooms
pub mod ValueCodes
