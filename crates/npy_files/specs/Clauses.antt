-- What the contracts of this crate cite: its own definitions, and names from std and from the crates below.
pub use Rattle.npy_files.specs.Folders.{OldOrNew, folder_shelf}
pub use Rattle.npy_files.specs.Stores.{FaultHasCause, IsKept, IsNextName, IsRead, IsSameStore, ReadsFile, WritesFile, comes_before, empty_shelf}
pub use Rattle.npy_files.specs.Words.{AlwaysHas, Appends, ChangesOnly, Failed, HasCause, IsUnchanged, Leaves, Replaces, SameBut, empty, get}
pub use Rattle.npy_files.specs.declared.store.StoreFault.TheVariants.{Device, Memory, TooLong}
pub use Rattle.npy_files.specs.inside.Shelves.{IsFirstOf, IsNamed, answer_by, calls_after, is_called}
