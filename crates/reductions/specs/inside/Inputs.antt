-- The numbers to reduce, the lists that they form, and the results.
use Rattle.std.specs.Prelude.{◌≡◌, ◌^◌, ◌<◌, ◌≤◌, ℕ, Option, Some, None, List, length, All}
use Rattle.reductions.specs.Words.{remove, size, EachWithin, count, offsets, Layout, StridedAxis, Red}
use Rattle.reductions.specs.Lists.{lists}
use Rattle.reductions.specs.Reductions.{result_scalar}
use Rattle.reductions.specs.inside.Numbers.{AreReduced}
use Rattle.reductions.specs.declared.lines.Numbers.{Numbers}

-- the offsets of the numbers of each list
abbrev pub lists_of : Numbers → Option ℕ → List (List ℕ)
lists_of n axis = lists n.layout.now.shape axis (offsets n.layout.now)

-- `starts` is a layout without one axis: its items are those with index 0 on that axis
pub record AreStarts (layout : Layout) (axis : ℕ) (starts : Layout) : Type 0 where
  pub shape : starts.shape ≡ remove layout.shape axis
  pub strides : starts.strides ≡ remove layout.strides axis
  pub offset : starts.offset ≡ layout.offset

-- The list of all these numbers has items, or each list along an axis from one of them on has. Such a list has fewer
-- than 2 ^ 63 items, and each of them lies within the bytes.
abbrev pub HaveItems : Numbers → Option StridedAxis → Type 0
HaveItems n None = 0 < count n.layout.now.shape
HaveItems n (Some axis) =
    (1 ≤ axis.len) × (axis.len < 2 ^ 63) × All (λ offset. EachWithin (length n.bytes.now) offset axis.stride (size n.scalar.now) axis.len) (offsets n.layout.now)

-- `out` is the result for each list, one after another
abbrev pub AreResults : Red → Numbers → List (List ℕ) → List ℕ → Type 0
AreResults reduction n lists out = AreReduced reduction n.scalar.now n.bytes.now (size (result_scalar reduction n.scalar.now)) lists out
