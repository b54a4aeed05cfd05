-- The invariant of a table is a proposition: it has at most one proof.
use Rattle.std.specs.Prelude.{ℕ, Bool, List, [], ◌∷◌, Option, Some, None}
use Rattle.name_store.specs.Words.{Unit-prop, le_prop, AllByRecursion-prop, props, Descr, field_at, Layout}
use Rattle.name_store.specs.Invariants.{Holds, LiesAt}
use Rattle.name_store.specs.Parts.{IsPathOf}
use Rattle.name_store.specs.States.{Array}
use Rattle.name_store.specs.View.{array_at, slot_at}
use Rattle.name_store.specs.Views.{IsLaidOut}
use Rattle.name_store.specs.declared.bound.Entry.{Entry}
use Rattle.name_store.specs.declared.slot.Slot.{Slot}

IsPathOf-prop : (descr : Descr) (path : List ℕ) → IsProp (IsPathOf descr path)
IsPathOf-prop descr [] = Unit-prop
IsPathOf-prop descr (k ∷ path) = let rest = IsPathOf-prop (field_at descr k).descr path in hlevel (rest, le_prop)

IsLaidOut-prop : (descr : Descr) (n : ℕ) (array : Array) (layout : Layout) (writable : Bool) → IsProp (IsLaidOut descr n array layout writable)
IsLaidOut-prop descr n array layout writable = let part = IsPathOf-prop descr array.path in hlevel (part, props)

LiesAt-prop : (there : Option Slot) (e : Entry) → IsProp (LiesAt there e)
LiesAt-prop None e = hlevel props
LiesAt-prop (Some slot) e = let laid = IsLaidOut-prop slot.descr slot.items (array_at e) e.layout e.writable in hlevel (laid, props)

pub Holds-prop : (names : List (List ℕ × Entry)) (slots : List (Option Slot)) → IsProp (Holds names slots)
Holds-prop names slots =
    let lie = AllByRecursion-prop (λ (entry : List ℕ × Entry). LiesAt (slot_at slots entry.1.number) entry.1) (λ entry. LiesAt-prop (slot_at slots entry.1.number) entry.1) names in
    hlevel (lie, props)
