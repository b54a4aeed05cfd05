-- Old items, which are adjacent in a block of their own.
use Rattle.std.specs.Prelude.{◌≡◌, ℕ, List, length, Option, Some}
use Rattle.name_store.specs.Words.{IsPacked, IsPermutation, option_map, items_at}
use Rattle.name_store.specs.Invariants.{users_at}
use Rattle.name_store.specs.Targets.{target_offsets}
use Rattle.name_store.specs.View.{slot_at}
use Rattle.name_store.specs.declared.target.Home.{Home}
use Rattle.name_store.specs.declared.target.OldItems.{OldItems}
use Rattle.name_store.specs.declared.slot.Slot.{Slot}
use Rattle.name_store.specs.declared.write.Overwritten.{Overwritten}
use Rattle.name_store.specs.declared.target.Target.{Target}
use Rattle.name_store.specs.inside.Held.{stand}

-- `o` has the items of `width` bytes that a block has at the offsets `os`, in this order
pub record AreOld (width : ℕ) (block os : List ℕ) (o : OldItems) : Type 0 where
  pub size : o.width ≡ width
  pub packed : IsPacked (length os) o.width (items_at os width block) o.block

-- `over` has the items of a block at the places of a target, and these places in the same order, which may be another
-- order than the target's
pub record AreKept (width : ℕ) (block : List ℕ) (target : Target) (over : Overwritten) : Type 0 where
  pub moved : IsPermutation (target_offsets target) (target_offsets over.target)
  pub old : AreOld width block (target_offsets over.target) over.items

-- the same for the block of the buffer that an array lies in
abbrev pub AreKeptAt : List (Option Slot) → Home → Target → Overwritten → Type 0
AreKeptAt slots home target over = (s : Slot) → slot_at slots home.number ≡ Some s → AreKept home.width s.block target over

-- each slot has the same contents and the same number of users
abbrev pub AreSame : List (Option Slot) → List (Option Slot) → Type 0
AreSame before after = (q : ℕ) → (option_map stand (slot_at after q) ≡ option_map stand (slot_at before q)) × (users_at after q ≡ users_at before q)
