pub mod Lists
pub mod Reductions
pub mod Outcomes
pub mod ListLaws
pub mod inside
pub mod Words
pub mod Clauses
