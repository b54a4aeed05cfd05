-- Items at equal steps, as one value.
use Rattle.std.specs.Prelude.{◌≡◌, ℕ, ℤ, List}
use Rattle.elem_descr.specs.declared.scalar.Scalar.{Scalar}
use Rattle.elem_descr.specs.Encoding.{decode, number_of}
use Rattle.raw_block.specs.Bytes.{place, item_at}
use Rattle.machine_numbers.specs.declared.sides.Side.{Side}

-- the bytes of the k-th item of a side
abbrev pub item_in : Side → ℕ → List ℕ
item_in s k = item_at (place s.run.offset s.run.step k) s.width s.bytes.now

-- the number that this item means
abbrev pub number_of_side : Scalar → Side → ℕ → ℤ
number_of_side scalar s k = number_of (decode scalar (item_in s k))

-- Two sides have the same run of items in the same bytes.
abbrev pub AreSame : Side → Side → Type 0
AreSame a b = (a.bytes.now ≡ b.bytes.now) × (a.run ≡ b.run) × (a.width ≡ b.width)
