-- Names from std, from the crates below and from `specs/`, which the proofs use.
pub use Rattle.npy_files.specs.Folders.{OldOrNew, folder_shelf, user_files}
pub use Rattle.npy_files.specs.Names.{hidden_name, is_user_name}
pub use Rattle.npy_files.specs.Stores.{FaultHasCause, IsFirstAfter, IsKept, IsNextName, IsRead, IsWritten, StoreState, comes_before}
pub use Rattle.npy_files.specs.Words.{Appends, ChangesOnly, FileParts, Files, HasCause, History, IsUnchanged, Leaves, Replaces, Same, SameBut, always_ok, changes_again, empty, from_entries, get, insert, is_lt, last_count, nat_cmp, only_but, only_same, replaces_again, slice_cmp, stays, stays_again, then_stays, unmoved, weaker}
pub use Rattle.npy_files.specs.declared.mem_store.StoredFile.{StoredFile}
pub use Rattle.npy_files.specs.declared.store.StoreFault.{StoreFault}
pub use Rattle.npy_files.specs.declared.store.StoreFault.TheVariants.{Device, Memory, TooLong}
pub use Rattle.npy_files.specs.inside.Shelves.{IsFirstOf, IsNamed, files_of, is_called, named_bytes}
pub use Rattle.std.proofs.Math.Nat.{eq-or-lt_of_le}
pub use Rattle.std.proofs.lemmas.Bool.{false_from_ne_true, ltb-false, true≢false}
pub use Rattle.std.proofs.lemmas.Grind.{common_steps}
pub use Rattle.std.proofs.lemmas.List.{length-replicate, length-take-le, map-append, take_all, take_at}
pub use Rattle.std.proofs.lemmas.List.Quantifiers.{position-Some}
pub use Rattle.std.proofs.lemmas.Option.{slice_get-get_or, slice_get_within}
pub use Rattle.std.proofs.lemmas.Slice.Eq.{bytes_eq-Decides}
pub use Rattle.std.specs.Cmp.Lexicographic.{nat_list_cmp_total, texts_ties}
pub use Rattle.std.specs.FinMap.{IsAntisymmetric, find, from_entries_push, get-from_entries, get-insert, get-retain_keys, nat_cmp-IsAntisymmetric, same_map, slice_cmp-IsAntisymmetric}
pub use Rattle.std.specs.List.{position_or_len}
pub use Rattle.std.specs.Ordering.{eq_by_cmp, ordering_reverse}
pub use Rattle.std.specs.declared.cmp.Ordering.{Ordering}
pub use Rattle.std.specs.declared.cmp.Ordering.TheVariants.{Equal, Greater, Less}
pub use borrow.Rule.Slice.PartMut.{put_mid}
