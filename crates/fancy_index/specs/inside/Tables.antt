-- Offset tables, and what is known once the integers at some places were read.
use Rattle.std.specs.Prelude.{◌≡◌, ◌+◌, ◌*◌, ◌/◌, ◌%◌, ◌<◌, ◌≤◌, ℕ, Bool, true, false, ℤ, pos, List, length, get_or, All}
use Rattle.fancy_index.specs.Words.{Layout, offsets, max_bytes, max_items, is_place, list_all}
use Rattle.fancy_index.specs.declared.fast.offset_tables.OffsetTable.{OffsetTable}
use Rattle.fancy_index.specs.inside.Words.{place_of}

-- the offset of an item is the sum of those of its row and its column, less that of the first item
pub record IsTableOf (layout : Layout) (table : OffsetTable) : Type 0 where
  pub some : 0 < length table.columns.items
  pub step : 0 < table.step
  pub near : table.step ≤ max_items
  pub few : length table.rows.items ≤ max_items
  pub start : table.start ≤ max_bytes
  pub many : length (offsets layout) ≡ length table.rows.items * length table.columns.items
  pub sums : (r c : ℕ) → r < length table.rows.items → c < length table.columns.items
      → get_or (offsets layout) (r * length table.columns.items + c) 0 + table.start ≡ get_or table.rows.items r 0 + get_or table.columns.items c 0
  pub rows : All (λ offset. offset ≤ max_bytes) table.rows.items
  pub columns : All (λ offset. offset ≤ max_bytes) table.columns.items

-- The integers at some places were read. `are` says whether all of them name one of n places; if all integers do, those
-- of them stand in `new`, and the places that were right in `old` are right in `new`.
pub record AreRead (n : ℕ) (numbers : List ℤ) (among : ℕ → Type 0) (are : Bool) (old new : List ℕ) : Type 0 where
  pub named : are ≡ true → (k : ℕ) → k < length numbers → among k → is_place n (get_or numbers k (pos 0)) ≡ true
  pub outside : are ≡ false → list_all (is_place n) numbers ≡ false
  pub placed : list_all (is_place n) numbers ≡ true → (k : ℕ) → k < length numbers → among k → get_or new k 0 ≡ place_of n (get_or numbers k (pos 0))
  pub kept : list_all (is_place n) numbers ≡ true → (k : ℕ) → k < length numbers → get_or old k 0 ≡ place_of n (get_or numbers k (pos 0)) → get_or new k 0 ≡ place_of n (get_or numbers k (pos 0))

-- the items in some columns of a row, in a table with so many columns
pub record InCells (columns row from end : ℕ) (k : ℕ) : Type 0 where
  pub in_row : k / columns ≡ row
  pub low : from ≤ k % columns
  pub high : k % columns < end

-- those in some columns of each row that is a multiple of `step` rows behind a row
pub record InRows (columns step first from end : ℕ) (k : ℕ) : Type 0 where
  pub in_row : k / columns % step ≡ first
  pub low : from ≤ k % columns
  pub high : k % columns < end
