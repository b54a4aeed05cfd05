-- Operations on numbers by value. The results are wrapped to a scalar.
use Rattle.std.specs.Prelude.{ℕ, zero, suc, ◌*◌, ◌^◌, nat_lt, ℤ, pos, negsuc, ◌+ℤ◌, ◌-ℤ◌, ◌*ℤ◌, neg_ℤ, Bool, true, false, not, ◌&&◌, if◌then◌else◌, bit_and, bit_or, bit_xor}
use Rattle.elementwise.specs.Words.{int_div_euclid, Scalar, size, wrap, low_bits, BinOp, Add, Subtract, Multiply, FloorDivide, Modulo, And, Or, Xor, ShiftLeft, ShiftRight, Divide, UnOp, Negate, Invert, is_bool, is_text}

-- ---- division

-- a / b rounded down; 0 if b is 0. A negative b is handled as -a / -b.
abbrev pub floor_quotient : ℤ → ℤ → ℤ
floor_quotient a (pos zero) = pos 0
floor_quotient a (pos (suc b)) = int_div_euclid a (pos (suc b))
floor_quotient a (negsuc b) = int_div_euclid (neg_ℤ a) (pos (suc b))

-- the remainder of that division, which is 0 or has the sign of b; 0 if b is 0
abbrev pub modulo : ℤ → ℤ → ℤ
modulo a (pos zero) = pos 0
modulo a b = a -ℤ b *ℤ floor_quotient a b

-- ---- bits

-- `f` of the bits of `a` and `b` in two's complement, with the number of bits of the scalar
abbrev pub of_bits : (ℕ → ℕ → ℕ) → Scalar → ℤ → ℤ → ℤ
of_bits f scalar a b = pos (f (low_bits (size scalar) a) (low_bits (size scalar) b))

-- the sign bit in all bits: -1 for a negative number, and 0 otherwise
abbrev pub sign_bits : ℤ → ℤ
sign_bits (pos a) = pos 0
sign_bits (negsuc a) = negsuc 0

-- `a` shifted left or right by `b`, for numbers of `bits` bits. If `b` is negative or at least `bits`, no bit of `a` is
-- left: the result is 0 or, to the right, all sign bits.
abbrev pub shifted_left : ℕ → ℤ → ℤ → ℤ
shifted_left bits a (pos b) = if nat_lt b bits then a *ℤ pos (2 ^ b) else pos 0
shifted_left bits a (negsuc b) = pos 0

abbrev pub shifted_right : ℕ → ℤ → ℤ → ℤ
shifted_right bits a (pos b) = if nat_lt b bits then floor_quotient a (pos (2 ^ b)) else sign_bits a
shifted_right bits a (negsuc b) = sign_bits a

-- ---- all operations

-- The exact result for two numbers of the scalar. Bools are 0 and 1, so their sum is not 0 if either is true. True
-- division is unsupported; the 0 is a placeholder.
abbrev pub exact : BinOp → Scalar → ℤ → ℤ → ℤ
exact Add scalar a b = a +ℤ b
exact Subtract scalar a b = a -ℤ b
exact Multiply scalar a b = a *ℤ b
exact FloorDivide scalar a b = floor_quotient a b
exact Modulo scalar a b = modulo a b
exact And scalar a b = of_bits bit_and scalar a b
exact Or scalar a b = of_bits bit_or scalar a b
exact Xor scalar a b = of_bits bit_xor scalar a b
exact ShiftLeft scalar a b = shifted_left (8 * size scalar) a b
exact ShiftRight scalar a b = shifted_right (8 * size scalar) a b
exact Divide scalar a b = pos 0

abbrev pub binary : BinOp → Scalar → ℤ → ℤ → ℤ
binary op scalar a b = wrap scalar (exact op scalar a b)

-- which operations accept two bools. True division is refused for all types, by `promote`.
abbrev pub serves_bools : BinOp → Bool
serves_bools Subtract = false
serves_bools FloorDivide = false
serves_bools Modulo = false
serves_bools ShiftLeft = false
serves_bools ShiftRight = false
serves_bools _ = true

-- The exact result for one number of the scalar: its negative, or the complement of all its bits. The complement of a
-- bool is the other bool.
abbrev pub exact_one : UnOp → Scalar → ℤ → ℤ
exact_one Negate scalar a = pos 0 -ℤ a
exact_one Invert scalar a = (if is_bool scalar then pos 1 else negsuc 0) -ℤ a

abbrev pub unary : UnOp → Scalar → ℤ → ℤ
unary op scalar a = wrap scalar (exact_one op scalar a)

-- which operations accept a number of the scalar
abbrev pub serves_one : UnOp → Scalar → Bool
serves_one Negate scalar = not (is_text scalar) && not (is_bool scalar)
serves_one Invert scalar = not (is_text scalar)
