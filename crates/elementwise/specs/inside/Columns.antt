-- One leaf of many items, written to its place in each row.
use Rattle.std.specs.Prelude.{◌≡◌, ◌+◌, ◌*◌, ◌<◌, ◌≤◌, ℕ, zero, suc, List, length, replicate}
use Rattle.elementwise.specs.Words.{EachWithin, Scalar, item_at, max_bytes, max_items, place, put, size}
use Rattle.elementwise.specs.inside.LeafCasts.{leaf_cast}
use Rattle.elementwise.specs.declared.kernels.leaf_casts.Column.{Column}

-- rows of `row` bytes, after the first `n` leaves are written, each at the offset `at` in its row
abbrev pub with_leaves : (ℕ → List ℕ) → ℕ → ℕ → ℕ → List ℕ → List ℕ
with_leaves leaf at row zero rows = rows
with_leaves leaf at row (suc n) rows = put (at + n * row) (leaf n) (with_leaves leaf at row n rows)

-- the leaves of a column, of `width` bytes, lie within its block, and there is a row with room for each of them, of `to` bytes
pub record IsColumn (c : Column) (width to : ℕ) : Type 0 where
  pub few : c.from.count ≤ max_items
  pub small : c.row ≤ max_bytes
  pub within : EachWithin (length c.block.now) c.from.offset c.from.step width c.from.count
  pub fits : c.at + to ≤ c.row
  pub room : c.from.count * c.row ≤ length c.rows

-- there are only zeros where leaves of `width` bytes go
abbrev pub HasZeros : Column → ℕ → Type 0
HasZeros c width = (at n j : ℕ) → c.at ≤ at → at + n ≤ c.at + width → j < c.from.count → item_at (at + j * c.row) n c.rows ≡ replicate n 0

-- the rows of a column, after each leaf of a scalar is cast to another and written to its row; their length is unchanged
abbrev pub AreRows : Scalar → Scalar → Column → List ℕ → Type 0
AreRows from to c rows = (rows ≡ with_leaves (λ k. leaf_cast from to (item_at (place c.from.offset c.from.step k) (size from) c.block.now)) c.at c.row c.from.count c.rows) × (length rows ≡ length c.rows)
