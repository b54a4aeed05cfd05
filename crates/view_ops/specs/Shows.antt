-- Layouts that show the items of another layout.
use Rattle.std.specs.Prelude.{◌≡◌, ℕ, ℤ, List}
use Rattle.view_ops.specs.Words.{Layout, IsIndex, address_at, address}

-- An array with this shape, these strides and this offset shows items of `old`: its item at each index is the one that
-- `old` has at the index given by `m`.
pub record ShowsThrough (old : Layout) (shape : List ℕ) (strides : List ℤ) (offset : ℕ) (m : List ℕ → List ℕ) : Type 0 where
  pub leads : (index : List ℕ) → IsIndex shape index → IsIndex old.shape (m index)
  pub same : (index : List ℕ) → IsIndex shape index → address_at strides offset index ≡ address old (m index)

-- The layout `new` shows items of `old` in this way.
abbrev pub IsView : Layout → Layout → (List ℕ → List ℕ) → Type 0
IsView old new m = ShowsThrough old new.shape new.strides new.offset m
