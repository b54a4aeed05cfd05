-- Where the array of a name lies, and slots after the bytes of one block are replaced.
use Rattle.std.specs.Prelude.{◌≡◌, ℕ, List, Option, Some, map, nat_eq, if◌then◌else◌}
use Rattle.name_store.specs.Words.{item_size}
use Rattle.name_store.specs.Arrays.{find_array}
use Rattle.name_store.specs.Invariants.{LiesIn}
use Rattle.name_store.specs.Parts.{descr_at}
use Rattle.name_store.specs.View.{array_at, named_array, slot_at}
use Rattle.name_store.specs.declared.bound.Entry.{Entry}
use Rattle.name_store.specs.declared.slot.Slot.{Slot}

-- the name's array is in the slot with this number, and its items have `width` bytes
pub record IsHome (names : List (List ℕ × Entry)) (slots : List (Option Slot)) (name : List ℕ) (number width : ℕ) : Type 0 where
  pub entry : Entry
  pub slot : Slot
  pub found : find_array (map named_array names) name ≡ Some (array_at entry)
  pub number_is : number ≡ entry.number
  pub there : slot_at slots number ≡ Some slot
  pub lies : LiesIn slot entry
  pub width_is : width ≡ item_size (descr_at slot.descr entry.path)

-- the slot has `bytes` in its block, and is otherwise unchanged
pub record IsRewritten (old : Slot) (bytes : List ℕ) (new : Slot) : Type 0 where
  pub descr : new.descr ≡ old.descr
  pub items : new.items ≡ old.items
  pub block : new.block ≡ bytes
  pub users : new.users ≡ old.users

-- slot `number` is rewritten in this way, and all other slots are unchanged
pub record HasNew (before : List (Option Slot)) (number : ℕ) (old : Slot) (bytes : List ℕ) (after : List (Option Slot)) : Type 0 where
  pub new : Slot
  pub rewritten : IsRewritten old bytes new
  pub set : (other : ℕ) → slot_at after other ≡ (if nat_eq other number then Some new else slot_at before other)
