pub mod Entries
pub mod Scanned
pub mod Places
pub mod WrittenItems
pub mod Sound
pub mod FieldTypes
pub mod WrittenParts
