-- What the contracts of this crate cite: its own definitions, and names from std and from the crates below.
pub use Rattle.name_store.specs.Arrays.{find_array, has_room_for}
pub use Rattle.name_store.specs.Calls.{AnswersBind, AnswersShares, AnswersUnbind, AnswersUndo, AnswersWrite, Counts, CountsUndo, CountsWrite}
pub use Rattle.name_store.specs.Invariants.{IsSound, all_pins, users_at}
pub use Rattle.name_store.specs.Kept.{with_old}
pub use Rattle.name_store.specs.Memory.{AreShifted, LieInTwo, NeedsNoMemory}
pub use Rattle.name_store.specs.Shown.{Finds}
pub use Rattle.name_store.specs.States.{BenchValue, start}
pub use Rattle.name_store.specs.Targets.{IsAim, target_offsets, target_shape}
pub use Rattle.name_store.specs.View.{bench_value, slot_at}
pub use Rattle.name_store.specs.Views.{MayBind}
pub use Rattle.name_store.specs.Words.{ArePaired, Assigns, EachWithin, Fits, IsPacked, Ring, assigned, buffer, keep_last, last_item, max_bytes, option_map, put_each, run_offsets, spare}
unfoldable pub use Rattle.name_store.specs.Words.{offsets}
pub use Rattle.name_store.specs.declared.change.Change.{Change}
pub use Rattle.name_store.specs.inside.Codes.{value_code}
pub use Rattle.name_store.specs.inside.Exchanges.{AreAll}
pub use Rattle.name_store.specs.inside.Held.{stand}
pub use Rattle.name_store.specs.inside.OldItems.{AreKept, AreKeptAt, AreOld}
pub use Rattle.name_store.specs.inside.Puts.{CanWrite, InPlace, IsNear, MayPut, MayRun, NeedsNone, Runs, RunsInPlace, Writes, parts_for, without_slot}
pub use Rattle.std.specs.List.{flat_map}
