-- What the contracts of this crate cite: its own definitions, and names from std and from the crates below.
pub use Rattle.disk_tests.specs.Cached.{MayStand, cached_state, change_count, file_name, found, is_synced}
pub use Rattle.disk_tests.specs.CachedLaws.{found_may_stay}
pub use Rattle.disk.specs.Calls.{ChangesOnly, HasCause, HasRisen, IsUnchanged}
pub use Rattle.disk_tests.specs.Changes.{bytes_of_change}
pub use Rattle.disk.specs.Crashes.{MayLeave}
pub use Rattle.disk.specs.Files.{Files, Same}
pub use Rattle.disk_tests.specs.Words.{empty, get}
pub use Rattle.disk.specs.declared.disk.DiskFault.TheVariants.{Failed}
