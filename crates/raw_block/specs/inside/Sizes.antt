-- The sizes of the blocks that are allocated.
use Rattle.std.specs.Prelude.{◌≡◌, ℕ, ◌%◌, ◌^◌, ◌<◌, ◌≤◌}

-- a block of `size` bytes has room for `len` bytes, and consists of words of 16 bytes
abbrev pub IsSizeFor : ℕ → ℕ → Type 0
IsSizeFor size len = (len ≤ size) × (size % 16 ≡ 0) × (size < 2 ^ 63)
