-- Numbers, given by their lowest 64 bits.
use Rattle.std.specs.Prelude.{◌≡◌, ◌⊎◌, ℕ, ◌-◌, ◌%◌, ◌^◌, nat_le, ℤ, pos, Bool, ◌&&◌, if◌then◌else◌}

-- whether the bits are those of a negative number
abbrev pub is_negative : Bool → ℕ → Bool
is_negative signed bits = signed && nat_le (2 ^ 63) bits

-- the distance of the number from 0
abbrev pub magnitude_of : Bool → ℕ → ℕ
magnitude_of negative bits = if negative then (2 ^ 64 - bits) % 2 ^ 64 else bits

-- the number is 0 or 1, as a bool is
abbrev pub IsTruth : ℤ → Type 0
IsTruth z = (z ≡ pos 0) ⊎ (z ≡ pos 1)
