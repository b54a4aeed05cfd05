-- The bytes of the numbers of a range.
use Rattle.std.specs.Prelude.{ℕ, ℤ, pos, ◌+ℤ◌, ◌*ℤ◌, List}
use Rattle.literal_items.specs.Words.{Scalar, encode, number}

-- the bytes of start + k * step
abbrev pub numbered : Scalar → ℤ → ℤ → ℕ → List ℕ
numbered scalar start step k = encode scalar (number (start +ℤ step *ℤ pos k))
