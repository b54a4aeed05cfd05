-- The calls that cannot fail for lack of memory: writes, if no states are kept, and `shares`, if the arrays lie in
-- different buffers.
use Rattle.std.specs.Prelude.{◌≡◌, ◌≢◌, ◌⊎◌, ℕ, List, Some, IsTrue}
use Rattle.name_store.specs.Words.{item_size, Layout, is_c_contiguous, offsets, IsStacked, AreApart, AreReversed, AreRuns}
use Rattle.name_store.specs.States.{State, Array}
use Rattle.name_store.specs.Arrays.{find_array, descr_of}
use Rattle.name_store.specs.declared.target.Source.{Source}
use Rattle.name_store.specs.declared.target.Source.TheVariants.{One, Block, Buffer}
use Rattle.name_store.specs.declared.target.Target.{Target}
use Rattle.name_store.specs.declared.target.Target.TheVariants.{View, Plan}

-- both layouts have the same shape and strides, and in some order of the axes, each steps clear of those before it
pub record AreShifted (to from : Layout) (item : ℕ) : Type 0 where
  pub shape : from.shape ≡ to.shape
  pub strides : from.strides ≡ to.strides
  pub stacked : IsStacked to item

-- Items of `item` bytes can be copied one by one, within a buffer, from one layout to the other: the layouts are apart,
-- are runs with the same step, are the reverse of each other, or are shifted.
abbrev pub MoveInPlace : Layout → Layout → ℕ → Type 0
MoveInPlace to from item = AreApart to item from item ⊎ (AreRuns to from ⊎ (AreReversed to from ⊎ AreShifted to from item))

-- A write to a view needs no memory if the source is one item, a block or another buffer, or if the items come from the
-- same buffer and can be moved in place.
abbrev pub NeedsNoneInView : State → List ℕ → Layout → Source → Type 0
NeedsNoneInView s name to (One bytes) = Unit {0}
NeedsNoneInView s name to (Block owned) = Unit {0}
NeedsNoneInView s name to (Buffer number from) =
    (array : Array) → find_array s.names name ≡ Some array → array.buffer ≡ number → MoveInPlace to from (item_size (descr_of s array))

-- A write to the places of a plan needs no memory if the source is one item, or a block whose items are adjacent in C
-- order.
abbrev pub NeedsNoneInPlan : Source → Type 0
NeedsNoneInPlan (One bytes) = Unit {0}
NeedsNoneInPlan (Block owned) = IsTrue (is_c_contiguous (item_size owned.descr) (offsets owned.layout))
NeedsNoneInPlan (Buffer number from) = ⊥

abbrev pub NeedsNoMemory : State → List ℕ → Target → Source → Type 0
NeedsNoMemory s name (View to) source = (s.depth ≡ 0) × NeedsNoneInView s name to source
NeedsNoMemory s name (Plan plan) source = (s.depth ≡ 0) × NeedsNoneInPlan source

-- both names are bound, to arrays in different buffers
pub record LieInTwo (s : State) (left right : List ℕ) : Type 0 where
  pub a : Array
  pub b : Array
  pub left_is : find_array s.names left ≡ Some a
  pub right_is : find_array s.names right ≡ Some b
  pub two : a.buffer ≢ b.buffer
