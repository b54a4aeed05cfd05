pub mod Changes
pub mod ChangeLaws
pub mod Cached
pub mod CachedLaws
pub mod Words
pub mod Clauses
