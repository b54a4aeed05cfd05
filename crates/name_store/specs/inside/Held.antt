-- Occupied slots, and how a buffer is added.
use Rattle.std.specs.Prelude.{◌≡◌, ◌<◌, ℕ, true, List, Option, Some, None, is_some, nat_eq, if◌then◌else◌}
use Rattle.name_store.specs.Words.{props, Descr}
use Rattle.name_store.specs.Entries.{slot_at}
use Rattle.name_store.specs.declared.slot.Slot.{Slot}

-- the contents of a slot, without its number of users
abbrev pub stand : Slot → Descr × ℕ × List ℕ
stand s = (s.descr, s.items, s.block)

-- every slot below `lowest` is occupied
pub record IsLowest (slots : List (Option Slot)) (lowest : ℕ) : Type 0 where
  pub taken : (number : ℕ) → number < lowest → is_some (slot_at slots number) ≡ true

pub IsLowest-prop : (slots : List (Option Slot)) (lowest : ℕ) → IsProp (IsLowest slots lowest)
IsLowest-prop slots lowest = hlevel props

-- a buffer was added in the first free slot
pub record Adds (old : List (Option Slot)) (slot : Slot) (number : ℕ) (new : List (Option Slot)) : Type 0 where
  pub free : slot_at old number ≡ None
  pub least : (lower : ℕ) → lower < number → is_some (slot_at old lower) ≡ true
  pub put : (other : ℕ) → slot_at new other ≡ (if nat_eq other number then Some slot else slot_at old other)
