-- Names from std and from the crates below, which this crate's definitions, contracts and proofs use.
pub use Rattle.disk.specs.Calls.{AlwaysHas, Appends, ChangesOnly, HasCause, IsUnchanged, Replaces, last_count}
pub use Rattle.disk.specs.CrashLaws.{always_ok, changes_again, only_but, only_same, replaces_again, stays, stays_again, then_stays, unmoved, weaker}
pub use Rattle.disk.specs.Crashes.{History, Leaves}
pub use Rattle.disk.specs.Files.{Files, Same, SameBut}
pub use Rattle.disk.specs.declared.disk.DiskFault.{DiskFault}
pub use Rattle.disk.specs.declared.disk.DiskFault.TheVariants.{Failed}
pub use Rattle.npy_format.specs.declared.file_parts.FileParts.{FileParts}
pub use Rattle.std.specs.Cmp.Lexicographic.{slice_cmp}
pub use Rattle.std.specs.FinMap.{empty, from_entries, get, insert, retain_keys}
pub use Rattle.std.specs.Ordering.{is_lt, nat_cmp}
pub use Rattle.std.specs.Str.{bytes_eq}
