-- The same items with another shape, without a copy.
use Rattle.std.specs.Prelude.{◌≡◌, ℕ, ℤ, pos, ◌+ℤ◌, List, length, slice_index}
use Rattle.reshape_rule.specs.Words.{Layout, rank, IsIndex, dot, offsets, Fits}

-- The entries of the list, in C order, are affine in the shape: there are a first number and a stride for each axis
-- from which every entry can be computed.
pub record IsAffine (list shape : List ℕ) : Type 0 where
  pub first : ℤ
  pub strides : List ℤ
  pub one_stride_an_axis : length strides ≡ length shape
  pub leads : (index : List ℕ) → IsIndex shape index → pos (slice_index list (rank shape index)) ≡ first +ℤ dot strides index

-- whether the list is affine, with the proof that it is or that it is not
pub data AffineOrNot (list shape : List ℕ) : Type 0 where
  affine : IsAffine list shape → AffineOrNot list shape
  not_affine : (IsAffine list shape → ⊥) → AffineOrNot list shape

-- A layout has this shape and the items of an older layout in the same order.
pub record IsReshapeOf (old new : Layout) (shape : List ℕ) : Type 0 where
  pub shape_is : new.shape ≡ shape
  pub places : offsets new ≡ offsets old
  pub fits : (len item : ℕ) → Fits old len item → Fits new len item
