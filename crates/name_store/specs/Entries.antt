-- The arrays that the entries of the table represent, and the slots by number.
use Rattle.std.specs.Prelude.{ℕ, suc, List, [], ◌∷◌, Option, None}
use Rattle.std.proofs.Common.{zero}
use Rattle.name_store.specs.Words.{offsets, places_of}
use Rattle.name_store.specs.States.{Array}
use Rattle.name_store.specs.declared.bound.Entry.{Entry}
use Rattle.name_store.specs.declared.slot.Slot.{Slot}

abbrev pub array_at : Entry → Array
array_at e = record { buffer = e.number; path = e.path; shape = e.layout.shape; places = places_of e.item (offsets e.layout); writable = e.writable }

abbrev pub named_array : List ℕ × Entry → List ℕ × Array
named_array entry = (entry.0, array_at entry.1)

-- the slot with this number, if it exists and is occupied
abbrev pub slot_at : List (Option Slot) → ℕ → Option Slot
slot_at [] number = None
slot_at (slot ∷ slots) zero = slot
slot_at (slot ∷ slots) (suc number) = slot_at slots number
