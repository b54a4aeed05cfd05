pub mod Printed
pub mod inside
pub mod Sending
pub mod SendingLaws
pub mod StartLaws
pub mod Words
pub mod Clauses
