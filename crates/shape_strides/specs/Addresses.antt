-- Addresses in bytes, computed from strides and an offset.
use Rattle.std.specs.Prelude.{ℕ, ℤ, pos, negsuc, ◌+ℤ◌, ◌*ℤ◌, ◌≤ℤ◌, List, ◌∷◌}
use Rattle.shape_strides.specs.Indexes.{IsIndex}

-- what an index adds to the offset: the sum of each of its numbers times the stride of its axis
abbrev pub dot : List ℤ → List ℕ → ℤ
dot (stride ∷ strides) (k ∷ index) = stride *ℤ pos k +ℤ dot strides index
dot _ _ = pos 0

-- the address of the item at an index, which may be below 0
abbrev pub address_at : List ℤ → ℕ → List ℕ → ℤ
address_at strides offset index = pos offset +ℤ dot strides index

-- an address as a natural number: 0 if it is below 0
abbrev pub natural : ℤ → ℕ
natural (pos n) = n
natural (negsuc n) = 0

-- Every item, of `item` bytes, lies in the first `len` bytes. This holds if there are no items.
pub record LieWithin (shape : List ℕ) (strides : List ℤ) (offset len item : ℕ) : Type 0 where
  pub from_zero : (index : List ℕ) → IsIndex shape index → pos 0 ≤ℤ address_at strides offset index
  pub within : (index : List ℕ) → IsIndex shape index → (address_at strides offset index +ℤ pos item) ≤ℤ pos len
