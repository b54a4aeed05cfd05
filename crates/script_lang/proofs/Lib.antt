pub mod Words
pub mod Spelling
pub mod Braces
pub mod Shorter
pub mod Turns
pub mod Lists
pub mod Records
pub mod Rooms
pub mod Commands
pub mod VerbLaws
mod Vectors
