-- Parts of an array: the items that some of its axes lead to.
use Rattle.std.specs.Prelude.{ℕ, ◌<◌, ◌≤◌, ℤ, pos, ◌+ℤ◌, ◌*ℤ◌, ◌≤ℤ◌, List, length, drop, slice_index_or}
use Rattle.array_print.specs.Words.{Layout, count, LieWithin, max_bytes, offsets_at}

-- the offsets that the axes from `axis` on lead to, beginning at `start`
abbrev pub part_offsets : Layout → ℕ → ℕ → List ℕ
part_offsets l axis start = offsets_at (drop axis l.shape) (drop axis l.strides) start

-- The axes from `axis` on lead to at least one item. Each item has `item` bytes and lies within `len` bytes, and each
-- offset is below 2^28.
pub record IsPart (l : Layout) (axis start len item : ℕ) : Type 0 where
  pub axes : axis ≤ length l.shape
  pub some : 0 < count (drop axis l.shape)
  pub small : LieWithin (drop axis l.shape) (drop axis l.strides) start max_bytes 1
  pub inside : LieWithin (drop axis l.shape) (drop axis l.strides) start len item

-- From an offset, `steps` steps along an axis lead to another one, and both are at most 2^28.
pub record LeadsOn (strides : List ℤ) (axis from steps : ℕ) : Type 0 where
  pub start : from ≤ max_bytes
  pub low : pos 0 ≤ℤ (pos from +ℤ slice_index_or strides axis (pos 0) *ℤ pos steps)
  pub high : (pos from +ℤ slice_index_or strides axis (pos 0) *ℤ pos steps) ≤ℤ pos max_bytes
