-- The strides of a stretched layout.
use Rattle.std.specs.Prelude.{◌≡◌, ℕ, ◌-◌, ◌==◌, true, if◌then◌else◌, ℤ, pos, List, ◌∷◌, ◌++◌, length, replicate}
use Rattle.std.proofs.Common.{[]}
use Rattle.broadcasting.specs.Words.{Layout}
use Rattle.broadcasting.specs.Broadcasts.{can_stretch}

-- the stride of an axis of length n in the stretched layout: 0 for an axis of one item
abbrev pub kept_stride : ℕ → ℤ → ℤ
kept_stride n stride = if n == 1 then pos 0 else stride

abbrev pub kept_strides : List ℕ → List ℤ → List ℤ
kept_strides (n ∷ shape) (stride ∷ strides) = kept_stride n stride ∷ kept_strides shape strides
kept_strides _ _ = []

-- These are the strides of a layout stretched to a target. The new axes, which come first, have stride 0.
pub record AreStretched (old : Layout) (target : List ℕ) (strides : List ℤ) : Type 0 where
  pub can : can_stretch old.shape target ≡ true
  pub strides_are : strides ≡ replicate (length target - length old.shape) (pos 0) ++ kept_strides old.shape old.strides
