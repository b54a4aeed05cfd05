pub mod Stores
pub mod Names
pub mod Folders
pub mod inside
pub mod Words
pub mod Clauses
