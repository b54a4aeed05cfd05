-- The state of a walk over axes.
use Rattle.std.specs.Prelude.{◌≡◌, ℕ, ◌+◌, ◌<◌, ◌≤◌, ℤ, pos, List, length, map, All}
use Rattle.shape_strides.specs.Limits.{max_items, max_bytes}
use Rattle.shape_strides.specs.Indexes.{count, indexes, rank, IsIndex}
use Rattle.shape_strides.specs.Addresses.{natural, address_at, LieWithin}

-- The lengths, strides and offset satisfy what the type `Layout` requires.
pub record AreAxes (shape : List ℕ) (strides : List ℤ) (offset : ℕ) : Type 0 where
  pub one_stride_an_axis : length strides ≡ length shape
  pub small : All (λ n. n ≤ max_items) shape
  pub within_limit : LieWithin shape strides offset max_bytes 1
  pub zero_if_empty : count shape ≡ 0 → (offset ≡ 0) × (strides ≡ map (λ _. pos 0) shape)

-- the offsets of the items in C order
abbrev pub offsets_at : List ℕ → List ℤ → ℕ → List ℕ
offsets_at shape strides offset = map (λ index. natural (address_at strides offset index)) (indexes shape)

-- The next item is the one at this index and offset, and `left` items are left, counting it.
pub record IsNext (shape : List ℕ) (strides : List ℤ) (start : ℕ) (index : List ℕ) (offset left : ℕ) : Type 0 where
  pub in_shape : IsIndex shape index
  pub place : rank shape index + left ≡ count shape
  pub address_is : pos offset ≡ address_at strides start index

-- If items are left, a walk is at the next item.
pub record IsOnWalk (shape : List ℕ) (strides : List ℤ) (start : ℕ) (index : List ℕ) (offset left : ℕ) : Type 0 where
  pub most : left ≤ count shape
  pub axes : length index ≡ length shape
  pub next : 0 < left → IsNext shape strides start index offset left
