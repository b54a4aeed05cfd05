-- Names from std, from the crates below and from `specs/`, which the proofs use.
pub use Rattle.disk_tests.specs.Cached.{MayStand, MayStay, cached_history, cached_state, change_count, file_name, found, is_synced}
pub use Rattle.disk_tests.specs.CachedLaws.{found_may_stand, newest}
pub use Rattle.disk.specs.Calls.{ChangesOnly, IsUnchanged, Moves, Replaces, SameButBoth}
pub use Rattle.disk_tests.specs.ChangeLaws.{bound_else, bound_here, get-bound}
pub use Rattle.disk_tests.specs.Changes.{bound, bytes_of_change}
pub use Rattle.disk.specs.CrashLaws.{follows, only_but, only_same, replaces_again, unmoved, weaker}
pub use Rattle.disk.specs.Crashes.{Leaves}
pub use Rattle.disk.specs.Files.{Files, Same, SameBut}
pub use Rattle.disk_tests.specs.Words.{Global, bytes_eq, bytes_eq-Decides, cases_lt, false_from_ne_true, get, get-empty, nat_cmp, slice_cmp}
pub use Rattle.disk_tests.specs.declared.cached.Event.{Event}
pub use Rattle.disk_tests.specs.declared.cached.Event.TheVariants.{Changed, FileSynced, NamesSynced}
pub use Rattle.std.proofs.lemmas.Bool.Decides.{when_false, when_true}
pub use Rattle.std.proofs.lemmas.Grind.{common_steps}
pub use Rattle.std.proofs.lemmas.List.{drop_all, take_at}
