-- The state that the fields of a bench represent.
pub use Rattle.name_store.specs.Entries.{array_at, named_array, slot_at}
use Rattle.std.specs.Prelude.{ℕ, List, [], map, Option}
use Rattle.name_store.specs.Words.{Ring, items_in}
use Rattle.name_store.specs.States.{BenchValue, Buffer, State}
use Rattle.name_store.specs.Kept.{past_buffers, kept_states, patch_size}
use Rattle.name_store.specs.declared.change.Change.{Change}
use Rattle.name_store.specs.declared.bound.Entry.{Entry}
use Rattle.name_store.specs.declared.slot.Slot.{Slot}

abbrev pub buffer_in : Slot → Buffer
buffer_in s = record { descr = s.descr; items = items_in s.descr s.items s.block }

-- the names and buffers, without kept states
abbrev pub present : List (List ℕ × Entry) → List (Option Slot) → State
present names slots = record { names = map named_array names; buffers = past_buffers [] (map named_array names) slots; depth = 0; kept = [] }

abbrev pub state_of : List (List ℕ × Entry) → List (Option Slot) → Ring Change → State
state_of names slots ring = record (present names slots) { depth = ring.capacity; kept = kept_states ring.items (map named_array names) slots }

abbrev pub bench_value : List (List ℕ × Entry) → List (Option Slot) → Ring Change → BenchValue
bench_value names slots ring = record { state = state_of names slots ring; patches = map patch_size ring.items }
