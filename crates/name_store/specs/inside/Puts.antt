-- Writes of items to a block, and to the slot that has it.
use Rattle.std.specs.Prelude.{◌≡◌, ◌+◌, ◌≤◌, ◌<◌, ℕ, List, length, replicate, Option, Some, None, Result, IfOk, IfErr, All, slice_set}
use Rattle.name_store.specs.Words.{IsPermutation, item_size, Layout, offsets, Fits, IsNested, max_bytes, items_at, with_items}
use Rattle.name_store.specs.Memory.{MoveInPlace}
use Rattle.name_store.specs.Targets.{target_offsets}
use Rattle.name_store.specs.View.{slot_at}
use Rattle.name_store.specs.declared.target.Home.{Home}
use Rattle.name_store.specs.declared.slot.Slot.{Slot}
use Rattle.name_store.specs.declared.target.Source.{Source}
use Rattle.name_store.specs.declared.target.Source.TheVariants.{One, Block, Buffer}
use Rattle.name_store.specs.declared.target.Target.{Target}
use Rattle.name_store.specs.declared.target.Target.TheVariants.{View, Plan}
use Rattle.name_store.specs.declared.write.Writer.{Writer}
use Rattle.name_store.specs.inside.Homes.{HasNew}
use Rattle.name_store.specs.inside.OldItems.{AreSame}

-- the items of a target lie within `len` bytes, and those of a view do not overlap
abbrev pub MayPut : Target → ℕ → ℕ → Type 0
MayPut (View layout) len width = Fits layout len width × IsNested (offsets layout) width
MayPut (Plan plan) len width = All (λ offset. offset + width ≤ len) plan.offsets

-- the bytes of the buffer that the items come from. If it is not among the other buffers, it is the one being written.
abbrev pub block_from : Option Slot → List ℕ → List ℕ
block_from None block = block
block_from (Some slot) block = slot.block

-- the source has n items of `width` bytes
abbrev pub AreItems : List (Option Slot) → ℕ → List ℕ → ℕ → Source → Type 0
AreItems others width block n (One item) = length item.items ≡ width
AreItems others width block n (Block owned) = (item_size owned.descr ≡ width) × (length (offsets owned.layout) ≡ n)
AreItems others width block n (Buffer number layout) =
    (number < length others) × Fits layout (length (block_from (slot_at others number) block)) width × (length (offsets layout) ≡ n)

-- the items of a source can be written to a target in a block
pub record CanPut (others : List (Option Slot)) (width : ℕ) (target : Target) (source : Source) (block : List ℕ) : Type 0 where
  pub small : length block ≤ max_bytes
  pub some : 1 ≤ width
  pub inside : All (λ offset. offset + width ≤ length block) (target_offsets target)
  pub may : MayPut target (length block) width
  pub are : AreItems others width block (length (target_offsets target)) source

-- the bytes of each of the n items of a source
abbrev pub parts_of : List (Option Slot) → ℕ → List ℕ → ℕ → Source → List (List ℕ)
parts_of others width block n (One item) = replicate n item.items
parts_of others width block n (Block owned) = items_at (offsets owned.layout) width owned.block
parts_of others width block n (Buffer number layout) = items_at (offsets layout) width (block_from (slot_at others number) block)

-- the block after the items of a source are written to the target
abbrev pub with_source : List (Option Slot) → ℕ → Target → Source → List ℕ → List ℕ
with_source others width target source block =
    let os = target_offsets target in with_items os (parts_of others width block (length os) source) block

-- items can be copied one by one from a layout to a target in the same buffer
abbrev pub InPlace : Target → Layout → ℕ → Type 0
InPlace (View to) from width = MoveInPlace to from width
InPlace (Plan plan) from width = ⊥

-- writing the items to the target cannot fail for lack of memory
abbrev pub NeedsNone : List (Option Slot) → ℕ → Target → Source → Type 0
NeedsNone others width target (One item) = Unit {0}
NeedsNone others width target (Block owned) = Unit {0}
NeedsNone others width target (Buffer number from) = slot_at others number ≡ None → InPlace target from width

-- `CanPut` for a writer
abbrev pub MayRun : Writer → Source → List ℕ → Type 0
MayRun w source block = CanPut w.others.now w.width w.target source block

-- `parts_of` for a writer
abbrev pub parts_for : Writer → Source → List ℕ → List (List ℕ)
parts_for w source block = parts_of w.others.now w.width block (length (target_offsets w.target)) source

-- The items are written to the block. If memory runs out, the block is unchanged.
abbrev pub Runs : {A E : Type 0} → Writer → Source → List ℕ → Result A E → List ℕ → Type 0
Runs w source before result after = IfOk result (λ _. after ≡ with_source w.others.now w.width w.target source before) × IfErr result (λ _. after ≡ before)

-- `NeedsNone` for a writer
abbrev pub RunsInPlace : Writer → Source → Type 0
RunsInPlace w source = NeedsNone w.others.now w.width w.target source

-- `other` has the places of `target` in some order, and one item written to all of them leaves the same bytes
pub record IsNear (target other : Target) : Type 0 where
  pub moved : IsPermutation (target_offsets target) (target_offsets other)
  pub may : (len width : ℕ) → MayPut target len width → MayPut other len width
  pub fills : (item block : List ℕ) → MayPut target (length block) (length item)
      → with_items (target_offsets other) (replicate (length (target_offsets other)) item) block ≡ with_items (target_offsets target) (replicate (length (target_offsets target)) item) block

-- the slots, with the slot of this number empty
abbrev pub without_slot : List (Option Slot) → ℕ → List (Option Slot)
without_slot slots number = slice_set slots number None

-- the items of a source can be written to a target in the slot where an array lies
pub record CanWrite (slots : List (Option Slot)) (home : Home) (target : Target) (source : Source) : Type 0 where
  pub slot : Slot
  pub there : slot_at slots home.number ≡ Some slot
  pub can : CanPut (without_slot slots home.number) home.width target source slot.block

-- the items are written to the block of this slot, and nothing else changes
abbrev pub Puts : List (Option Slot) → Home → Target → Source → List (Option Slot) → Type 0
Puts slots home target source slots' =
    (s : Slot) → slot_at slots home.number ≡ Some s
    → HasNew slots home.number s (with_source (without_slot slots home.number) home.width target source s.block) slots'

-- `Puts`, but if memory runs out, nothing changes
abbrev pub Writes : {A E : Type 0} → List (Option Slot) → Home → Target → Source → Result A E → List (Option Slot) → Type 0
Writes slots home target source result slots' = IfOk result (λ _. Puts slots home target source slots') × IfErr result (λ _. AreSame slots slots')
