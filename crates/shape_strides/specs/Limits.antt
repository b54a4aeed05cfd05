-- The limits of an array.
use Rattle.std.specs.Prelude.{ℕ, ◌^◌}

-- the greatest number of axes
abbrev pub max_axes : ℕ
max_axes = 64

-- the greatest length of an axis, and also the greatest number of items
abbrev pub max_items : ℕ
max_items = 2 ^ 24

-- the greatest number of bytes in a buffer
abbrev pub max_bytes : ℕ
max_bytes = 2 ^ 28
