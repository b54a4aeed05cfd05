pub mod Records
pub mod Totals
pub mod Partials
pub mod FieldCodes
pub mod Signs
pub mod Turns
