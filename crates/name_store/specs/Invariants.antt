-- The invariants of a bench.
use Rattle.std.specs.Prelude.{◌≡◌, ◌≤◌, ◌+◌, ◌*◌, ℕ, true, List, [], ◌∷◌, length, map, Option, Some, None, nat_eq, if◌then◌else◌, All}
use Rattle.name_store.specs.Words.{AllByRecursion, Ring, item_size}
use Rattle.name_store.specs.Arrays.{find_array, is_in_use}
use Rattle.name_store.specs.Kept.{Names, names_before, past_names}
use Rattle.name_store.specs.Targets.{target_offsets}
use Rattle.name_store.specs.View.{named_array, array_at, slot_at}
use Rattle.name_store.specs.Views.{IsLaidOut}
use Rattle.name_store.specs.declared.change.Change.{Change}
use Rattle.name_store.specs.declared.change.Change.TheVariants.{Bind, Unbind, Write}
use Rattle.name_store.specs.declared.bound.Entry.{Entry}
use Rattle.name_store.specs.declared.target.OldItems.{OldItems}
use Rattle.name_store.specs.declared.slot.Slot.{Slot}
use Rattle.name_store.specs.declared.target.Target.{Target}

-- The array of `e` lies in the slot: `e.item` is the size of the slot's items, and the layout of `e` is that of an
-- array over these items.
pub record LiesIn (slot : Slot) (e : Entry) : Type 0 where
  pub item : e.item ≡ item_size slot.descr
  pub laid : IsLaidOut slot.descr slot.items (array_at e) e.layout e.writable

-- the slot is occupied, and the array of `e` lies in it
abbrev pub LiesAt : Option Slot → Entry → Type 0
LiesAt None e = ⊥
LiesAt (Some slot) e = LiesIn slot e

-- there are at most 1,024 names, and the array of each lies in an occupied slot
pub record Holds (names : List (List ℕ × Entry)) (slots : List (Option Slot)) : Type 0 where
  pub few : length names ≤ 1024
  pub lie : AllByRecursion (λ entry. LiesAt (slot_at slots entry.1.number) entry.1) names

-- 1 if the two numbers are equal, 0 otherwise
abbrev pub one_at : ℕ → ℕ → ℕ
one_at q number = if nat_eq number q then 1 else 0

-- the number of names whose arrays lie in buffer `q`
abbrev pub users_in : ℕ → Names → ℕ
users_in q [] = 0
users_in q (entry ∷ names) = one_at q entry.1.buffer + users_in q names

-- the number of the buffer that a change keeps alive so that it can be undone, if there is one
abbrev pub held_number : Change → Option ℕ
held_number (Bind key None) = None
held_number (Bind key (Some entry)) = Some entry.number
held_number (Unbind place key entry) = Some entry.number
held_number (Write written target items) = None

-- 1 if this is the number, 0 if it is another or there is none
abbrev pub found_at : ℕ → Option ℕ → ℕ
found_at q None = 0
found_at q (Some number) = one_at q number

-- 1 if the change keeps buffer `q` alive, 0 otherwise
abbrev pub pins : ℕ → Change → ℕ
pins q change = found_at q (held_number change)

-- the number of changes that keep buffer `q` alive
abbrev pub all_pins : ℕ → List Change → ℕ
all_pins q [] = 0
all_pins q (change ∷ changes) = pins q change + all_pins q changes

abbrev pub users_of : Option Slot → ℕ
users_of None = 0
users_of (Some slot) = slot.users

-- the number of users of buffer `q`: 0 if its slot is empty
abbrev pub users_at : List (Option Slot) → ℕ → ℕ
users_at slots q = users_of (slot_at slots q)

-- The old items can be written back to a target in the slot: its places lie within the bytes of the slot's items, and
-- there is one old item for each of them.
pub record GoBack (target : Target) (items : OldItems) (slot : Slot) : Type 0 where
  pub inside : All (λ offset. offset + items.width ≤ slot.items * item_size slot.descr) (target_offsets target)
  pub whole : length items.block ≡ length (target_offsets target) * items.width

abbrev pub GoBackAt : Target → OldItems → Option Slot → Type 0
GoBackAt target items None = ⊥
GoBackAt target items (Some slot) = GoBack target items slot

-- The change, which led to these names, can be undone.
abbrev pub IsUndoable : Change → Names → List (Option Slot) → Type 0
IsUndoable (Bind key None) names slots = Unit {0}
IsUndoable (Bind key (Some entry)) names slots = LiesAt (slot_at slots entry.number) entry
IsUndoable (Unbind place key entry) names slots =
    LiesAt (slot_at slots entry.number) entry × (place ≤ length names) × (find_array names key ≡ None)
IsUndoable (Write number target items) names slots = (is_in_use names number ≡ true) × GoBackAt target items (slot_at slots number)

-- The changes, which are ordered from the oldest to the newest, can be undone from the newest to the oldest, and at
-- most 1,024 names are bound after each step.
abbrev pub AreUndoable : List Change → Names → List (Option Slot) → Type 0
AreUndoable [] names slots = Unit {0}
AreUndoable (change ∷ changes) names slots =
    let after = past_names changes names in
    (length (names_before change after) ≤ 1024) × IsUndoable change after slots × AreUndoable changes names slots

-- The users of each buffer are exactly the names and changes whose arrays lie in it. All changes can be undone, and the
-- table has spare room to undo each of them.
pub record IsSound (names : List (List ℕ × Entry)) (slots : List (Option Slot)) (ring : Ring Change) (spare : ℕ) : Type 0 where
  pub holds : Holds names slots
  pub counted : (q : ℕ) → users_at slots q ≡ users_in q (map named_array names) + all_pins q ring.items
  pub undoable : AreUndoable ring.items (map named_array names) slots
  pub short : length ring.items ≤ ring.capacity
  pub room : length ring.items ≤ spare
