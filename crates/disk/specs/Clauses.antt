-- What the contracts of this crate cite: its own definitions, and names from std and from the crates below.
pub use Rattle.disk.specs.Calls.{HasCause, HasRisen}
pub use Rattle.disk.specs.HostErrors.{IsAbsent, IsUnsupported, error_of}
pub use Rattle.disk.specs.Words.{empty}
pub use Rattle.disk.specs.declared.disk.DiskFault.TheVariants.{Failed}
pub use Rattle.disk.specs.inside.Permissions.{both_may, group_may, others_may, owner_may}
pub use Rattle.std.specs.IoError.{error_kind}
