-- How far the addresses of a layout with items reach above and below its offset.
use Rattle.std.specs.Prelude.{ℕ, ◌+◌, ◌-◌, ◌*◌, ◌^◌, nat_le, if◌then◌else◌, ℤ, neg_ℤ, unsigned_abs, List, ◌∷◌}
use Rattle.shape_strides.specs.Addresses.{natural}

-- above: each axis with a positive stride is at its last number
abbrev pub reach_above : List ℤ → List ℕ → ℕ
reach_above (stride ∷ strides) (n ∷ shape) = natural stride * (n - 1) + reach_above strides shape
reach_above _ _ = 0

-- below: each axis with a negative stride is at its last number
abbrev pub reach_below : List ℤ → List ℕ → ℕ
reach_below (stride ∷ strides) (n ∷ shape) = natural (neg_ℤ stride) * (n - 1) + reach_below strides shape
reach_below _ _ = 0

-- the reach, in either direction, of the axes with steps of at most `step` bytes
abbrev pub reach_within : ℕ → List ℤ → List ℕ → ℕ
reach_within step (stride ∷ strides) (n ∷ shape) = (if nat_le (unsigned_abs stride) step then unsigned_abs stride * (n - 1) else 0) + reach_within step strides shape
reach_within step _ _ = 0

-- an upper bound for the reach of one axis: a stride has 64 bits, and an axis has at most max_items items
abbrev pub max_reach : ℕ
max_reach = 2 ^ 88
