-- Stretched layouts, and the smaller ones that show the same.
use Rattle.std.specs.Prelude.{◌≡◌, ◌+◌, ◌≤◌, ℕ, List, All, IsTrue}
use Rattle.elementwise.specs.Words.{Layout, offsets, View, view_through, can_stretch, broadcast_index}

-- `small` has the shape `once`, and shows the same as `layout` when both are stretched to `shape`. Its items lie within
-- any block in which those of `layout` lie.
pub record IsShrunk (small layout : Layout) (once shape : List ℕ) : Type 0 where
  pub shape_is : small.shape ≡ once
  pub can : IsTrue (can_stretch once shape)
  pub places : view_through (offsets small) small.shape shape (broadcast_index small.shape) ≡ view_through (offsets layout) layout.shape shape (broadcast_index layout.shape)
  pub inside : (len width : ℕ) → All (λ offset. offset + width ≤ len) (offsets layout) → All (λ offset. offset + width ≤ len) (offsets small)

-- the view of a layout that is stretched to a shape
abbrev pub stretched_view : Layout → List ℕ → View
stretched_view layout shape = record { shape = shape; leads = broadcast_index layout.shape }
