-- The offsets of the items of a plan.
use Rattle.std.specs.Prelude.{◌≡◌, ◌+◌, ◌++◌, ◌*◌, ◌<◌, ◌≤◌, ℕ, List, map, length, get_or, All}
use Rattle.fancy_index.specs.Words.{assigned, joined_at, row_offsets, count, offsets, max_items, run_offsets}
use Rattle.fancy_index.specs.declared.plan_rows.MovedLayout.{MovedLayout}
use Rattle.fancy_index.specs.declared.plan_rows.PlanAxes.{PlanAxes}
use Rattle.fancy_index.specs.declared.plan_rows.Shifted.{Shifted}
use Rattle.fancy_index.specs.declared.fast.short_rows.ShortRows.{ShortRows}
use Rattle.fancy_index.specs.declared.item_sources.PackedItems.{PackedItems}
use Rattle.fancy_index.specs.declared.item_sources.Source.{Source}
use Rattle.fancy_index.specs.Plans.{put_each}
use Rattle.fancy_index.specs.inside.Moved.{moved_offset, shifted_all, moved_all, laid_offsets}

abbrev pub moved_offsets : MovedLayout → List ℕ
moved_offsets moved = map (moved_offset moved.layout.now.offset moved.start) (offsets moved.layout.now)

-- the offsets of the first inner item with each shift, and of all inner items
abbrev pub first_offsets : Shifted → List ℕ
first_offsets rows = map (moved_offset rows.inner.now.offset rows.place) rows.shifts.now

abbrev pub shifted_offsets : Shifted → List ℕ
shifted_offsets rows = shifted_all rows.inner.now.offset rows.shifts.now (offsets rows.inner.now) rows.place

abbrev pub offsets_from : PlanAxes → List ℕ
offsets_from axes = laid_offsets axes.outer axes.shifts.items axes.inner

-- The shifts rise by a step, and each selects one item.
pub record AreEven (axes : PlanAxes) (step : ℕ) : Type 0 where
  pub single : count axes.inner.shape ≡ 1
  pub some : 1 ≤ length axes.shifts.items
  pub few : length axes.shifts.items ≤ max_items
  pub even : (k : ℕ) → k < length axes.shifts.items → get_or axes.shifts.items k 0 ≡ get_or axes.shifts.items 0 0 + k * step

-- the offsets of all items of short rows, and of those at the `k`-th place
abbrev pub short_offsets : ShortRows → List ℕ
short_offsets rows = let axes = rows.axes.now in moved_all axes.inner.offset (run_offsets rows.places) axes.shifts.items (offsets axes.inner)

abbrev pub row_at : ShortRows → ℕ → List ℕ
row_at rows k = let axes = rows.axes.now in shifted_all axes.inner.offset axes.shifts.items (offsets axes.inner) (get_or (run_offsets rows.places) k 0)

-- the offset at which the first `n` items of a source end
abbrev pub end_of : PackedItems → ℕ → ℕ
end_of source n = source.at + n * source.width

-- Items of `width` bytes at these offsets lie within the block.
abbrev pub FitAt : List ℕ → ℕ → List ℕ → Type 0
FitAt offsets width block = All (λ offset. offset + width ≤ length block) offsets

-- The items of `width` bytes at these offsets of a block can be appended, or are appended, to the bytes in `items`, which
-- are followed by room for some more.
pub record CanAppend (offsets : List ℕ) (width : ℕ) (block : List ℕ) (items : List ℕ × ℕ) : Type 0 where
  pub inside : FitAt offsets width block
  pub room : length offsets * width ≤ items.1

pub record HaveAppended (offsets : List ℕ) (width : ℕ) (block : List ℕ) (old new : List ℕ × ℕ) : Type 0 where
  pub bytes : new.0 ≡ old.0 ++ joined_at offsets width block
  pub left : length offsets * width + new.1 ≡ old.1

-- the same for the items of a source
abbrev pub CanPush : List ℕ → Source → List ℕ × ℕ → Type 0
CanPush offsets source items = CanAppend offsets source.width source.block.now items

abbrev pub HavePushed : List ℕ → Source → List ℕ × ℕ → List ℕ × ℕ → Type 0
HavePushed offsets source old new = HaveAppended offsets source.width source.block.now old new

-- Items that are adjacent from `at` on can be copied to these offsets of a block.
pub record CanScatter (offsets : List ℕ) (at width : ℕ) (items block : List ℕ) : Type 0 where
  pub inside : FitAt offsets width block
  pub room : at + length offsets * width ≤ length items

-- the items of a source can be copied, or are copied, to these offsets of a block; the copied items end at `to`
abbrev pub CanPut : List ℕ → PackedItems → List ℕ → Type 0
CanPut offsets source block = CanScatter offsets source.at source.width source.items.now block

-- a block, with the items of a source copied to these offsets
abbrev pub put_packed : List ℕ → PackedItems → List ℕ → List ℕ
put_packed to source block = assigned to (row_offsets source.at source.width (length to)) source.width source.items.now block

pub record HavePut (offsets : List ℕ) (source : PackedItems) (old new : List ℕ) (to : ℕ) : Type 0 where
  pub written : new ≡ put_packed offsets source old
  pub len : length new ≡ length old
  pub end : to ≡ end_of source (length offsets)

-- the item is written at each of these offsets of a block
pub record HaveFilled (offsets item old new : List ℕ) : Type 0 where
  pub written : new ≡ put_each offsets item old
  pub len : length new ≡ length old

-- The inner items are adjacent, so with each shift they are one item of `bytes` bytes.
pub record AreWide (rows : Shifted) (width bytes : ℕ) : Type 0 where
  pub size : length (shifted_offsets rows) * width ≡ length (first_offsets rows) * bytes
  pub joined : (block : List ℕ) → joined_at (shifted_offsets rows) width block ≡ joined_at (first_offsets rows) bytes block
  pub inside : (len : ℕ) → All (λ o. o + width ≤ len) (shifted_offsets rows) → All (λ o. o + bytes ≤ len) (first_offsets rows)
