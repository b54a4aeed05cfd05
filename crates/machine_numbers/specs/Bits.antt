-- Numbers given by their lowest 64 bits.
use Rattle.std.specs.Prelude.{◌≡◌, ℕ, ℤ, pos}
use Rattle.elem_descr.specs.Encoding.{low_bits}

-- the lowest 64 bits of a number, which are 0 only if the number is 0
pub record AreBits (bits : ℕ) (z : ℤ) : Type 0 where
  pub low : low_bits 8 z ≡ bits
  pub zero : bits ≡ 0 → z ≡ pos 0
