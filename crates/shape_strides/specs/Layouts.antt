-- The addresses of a layout's items, in bytes.
use Rattle.std.specs.Prelude.{ℕ, ◌+◌, ◌-◌, ◌*◌, ◌<◌, ◌≤◌, ℤ, pos, List, [], ◌∷◌, length, map, reverse, slice_index}
use Rattle.shape_strides.specs.Words.{range_with_len}
use Rattle.shape_strides.specs.declared.layout.Layout.{Layout}
use Rattle.shape_strides.specs.Indexes.{count, indexes, rank}
pub use Rattle.shape_strides.specs.Addresses.{dot, natural}
use Rattle.shape_strides.specs.Addresses.{address_at, LieWithin}

-- the address of the item at an index
abbrev pub address : Layout → List ℕ → ℤ
address l index = address_at l.strides l.offset index

-- the addresses of all items in C order
unfoldable pub offsets : Layout → List ℕ
offsets l = map (λ index. natural (address l index)) (indexes l.shape)

-- Every item, of `item` bytes, lies in the first `len` bytes. This holds if there are no items.
abbrev pub Fits : Layout → ℕ → ℕ → Type 0
Fits l len item = LieWithin l.shape l.strides l.offset len item

-- the distance between two numbers
abbrev pub distance : ℕ → ℕ → ℕ
distance a b = (a - b) + (b - a)

-- No two items share a byte: offsets at different positions differ by at least the size of an item.
pub record IsNested (offsets : List ℕ) (item : ℕ) : Type 0 where
  pub apart : (j k : ℕ) → j < k → k < length offsets → item ≤ distance (slice_index offsets j) (slice_index offsets k)

-- 0, item, 2 * item, ..: the offsets of the first n items of a buffer in C order
abbrev pub multiples : ℕ → ℕ → List ℕ
multiples item n = map (λ k. item * k) (range_with_len 0 n)

-- the strides of C order: an axis steps over all the items of the axes after it
abbrev pub c_strides : ℕ → List ℕ → List ℤ
c_strides item [] = []
c_strides item (n ∷ shape) = pos (count shape * item) ∷ c_strides item shape

-- the strides of Fortran order: an axis steps over all the items of the axes before it
abbrev pub f_strides : ℕ → List ℕ → List ℤ
f_strides item [] = []
f_strides item (n ∷ shape) = pos item ∷ f_strides (item * n) shape

-- the offsets of items in Fortran order: each is the size of an item times its rank with the first axis changing
-- fastest
abbrev pub f_multiples : ℕ → List ℕ → List ℕ
f_multiples item shape = map (λ index. item * rank (reverse shape) (reverse index)) (indexes shape)

-- the offsets that are `start` bytes after the beginning of each place
abbrev pub offsets_of : ℕ → ℕ → List ℕ → List ℕ
offsets_of item start places = map (λ place. item * place + start) places
