-- How binding a name changes the names and the slots.
use Rattle.std.specs.Prelude.{◌≡◌, ◌<◌, ◌+◌, ℕ, true, List, [], map, Option, None, is_some, IfSome}
use Rattle.name_store.specs.Words.{insert, retain_keys, option_map}
use Rattle.name_store.specs.Arrays.{find_array, put_array, is_in_use}
use Rattle.name_store.specs.Calls.{own_array, own_buffer}
use Rattle.name_store.specs.Invariants.{LiesAt, one_at, users_at}
use Rattle.name_store.specs.Kept.{past_buffers}
use Rattle.name_store.specs.States.{Array}
use Rattle.name_store.specs.View.{array_at, named_array, slot_at, present}
use Rattle.name_store.specs.Views.{IsViewIn}
use Rattle.name_store.specs.declared.bound.Bound.{Bound}
use Rattle.name_store.specs.declared.bound.Bound.TheVariants.{Fresh, View}
use Rattle.name_store.specs.declared.bound.Entry.{Entry}
use Rattle.name_store.specs.declared.slot.Slot.{Slot}
use Rattle.name_store.specs.inside.Held.{stand}

-- The array of the entry `v` is the one that was asked for, and the buffers are the expected ones after a name is bound
-- to it. A new array gets the first free slot.
abbrev pub IsOf : List (List ℕ × Entry) → List (Option Slot) → Bound → Entry → List (Option Slot) → Type 0
IsOf names slots (Fresh o) v slots' =
    (slot_at slots v.number ≡ None) × ((lower : ℕ) → lower < v.number → is_some (slot_at slots lower) ≡ true) × (array_at v ≡ own_array v.number o)
    × ((name : List ℕ) → let bound = put_array (map named_array names) name (array_at v) in past_buffers [] bound slots' ≡ retain_keys (insert (present names slots).buffers v.number (own_buffer o)) (is_in_use bound))
IsOf names slots (View number path layout writable) v slots' =
    ((array : Array) → IsViewIn (present names slots) number path layout writable array → array_at v ≡ array)
    × ((name : List ℕ) → let bound = put_array (map named_array names) name (array_at v) in past_buffers [] bound slots' ≡ retain_keys (present names slots).buffers (is_in_use bound))

-- The array of an entry lies in a slot, which has one user more. The contents of the slots that were occupied are
-- unchanged.
pub record Lodges (names : List (List ℕ × Entry)) (slots : List (Option Slot)) (bound : Bound) (entry : Entry) (slots' : List (Option Slot)) : Type 0 where
  pub kept : (q : ℕ) → is_some (slot_at slots q) ≡ true → option_map stand (slot_at slots' q) ≡ option_map stand (slot_at slots q)
  pub users : (q : ℕ) → users_at slots' q ≡ users_at slots q + one_at q entry.number
  pub lies : LiesAt (slot_at slots' entry.number) entry
  pub is_of : IsOf names slots bound entry slots'

-- The name is bound to an entry whose array lies in a slot. `earlier` is the entry that the name was bound to before,
-- if there was one, with its array in one of the old slots.
pub record Rebinds (names : List (List ℕ × Entry)) (slots : List (Option Slot)) (name : List ℕ) (bound : Bound) (earlier : Option Entry) (names' : List (List ℕ × Entry)) (slots' : List (Option Slot)) : Type 0 where
  pub entry : Entry
  pub lodges : Lodges names slots bound entry slots'
  pub table : map named_array names' ≡ put_array (map named_array names) name (array_at entry)
  pub was : option_map array_at earlier ≡ find_array (map named_array names) name
  pub earlier_lies : IfSome earlier (λ e. LiesAt (slot_at slots e.number) e)
