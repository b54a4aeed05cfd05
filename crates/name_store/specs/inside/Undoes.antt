-- How undoing a change changes the names and the slots.
use Rattle.std.specs.Prelude.{◌≡◌, ℕ, List, [], ◌∷◌, ◌++◌, map, Option}
use Rattle.name_store.specs.Words.{buffer, spare, Ring}
use Rattle.name_store.specs.Invariants.{IsSound}
use Rattle.name_store.specs.Kept.{kept_states, past_buffers}
use Rattle.name_store.specs.View.{named_array}
use Rattle.name_store.specs.declared.change.Change.{Change}
use Rattle.name_store.specs.declared.bound.Entry.{Entry}
use Rattle.name_store.specs.declared.slot.Slot.{Slot}
use Rattle.name_store.specs.declared.table.Table.{Table}

-- the state before the change is the present state, and the states that were kept before it are still kept
pub record Undoes (names : List (List ℕ × Entry)) (slots : List (Option Slot)) (change : Change) (names' : List (List ℕ × Entry)) (slots' : List (Option Slot)) (ring : Ring Change) (spare : ℕ) : Type 0 where
  pub sound : IsSound names' slots' ring spare
  pub kept : kept_states (ring.items ++ change ∷ []) (map named_array names) slots
      ≡ kept_states ring.items (map named_array names') slots' ++ (map named_array names', past_buffers [] (map named_array names') slots') ∷ []

-- the change can be undone: it is the newest of the kept changes, for some changes that are kept before it
abbrev pub CanUndo : Table → Change → Type 0
CanUndo table change = (ring : Ring Change) × IsSound table.names.entries table.slots.cells.items (buffer (ring.items ++ change ∷ []) ring.capacity) (spare table.names)

-- the change is undone, whatever changes are kept before it
abbrev pub IsUndone : Table → Change → Table → Type 0
IsUndone old change new =
    (ring : Ring Change) → IsSound old.names.entries old.slots.cells.items (buffer (ring.items ++ change ∷ []) ring.capacity) (spare old.names)
    → Undoes old.names.entries old.slots.cells.items change new.names.entries new.slots.cells.items ring (spare new.names)
