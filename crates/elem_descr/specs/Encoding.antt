-- The values of a scalar as bytes.
use Rattle.std.specs.Prelude.{◌≡◌, ◌⊎◌, ◌↔◌, ℕ, ℤ, pos, neg_ℤ, ◌-◌, ◌*◌, ◌^◌, ◌+ℤ◌, ◌≤ℤ◌, ◌<ℤ◌, Bool, List, [], ◌∷◌, ◌++◌, length, take, nat_eq, if◌then◌else◌, unsigned_abs}
use Rattle.std.proofs.Common.{true, false, replicate}
use Rattle.elem_descr.specs.Words.{int_rem_euclid, int_eq, suffix_len, little_number, big_number, little_bytes, big_bytes, twos_complement}
use Rattle.elem_descr.specs.declared.scalar.Order.{Order}
use Rattle.elem_descr.specs.declared.scalar.Order.TheVariants.{Little, Big}
use Rattle.elem_descr.specs.declared.scalar.Width.{Width}
use Rattle.elem_descr.specs.declared.scalar.Width.TheVariants.{Two, Four, Eight}
use Rattle.elem_descr.specs.declared.scalar.Scalar.{Scalar}
use Rattle.elem_descr.specs.declared.scalar.Scalar.TheVariants.{Bool as BoolScalar, Byte, Int, Bytes}
use Rattle.elem_descr.specs.Values.{LeafValue, number, text}

-- the number of bytes of an integer
abbrev pub width_size : Width → ℕ
width_size Two = 2
width_size Four = 4
width_size Eight = 8

-- the number of bytes of an item
abbrev pub size : Scalar → ℕ
size BoolScalar = 1
size (Byte signed) = 1
size (Int signed width order) = width_size width
size (Bytes n) = n

-- the values of the scalar are numbers: it is not a byte string
abbrev pub IsNumber : Scalar → Type 0
IsNumber BoolScalar = Unit {0}
IsNumber (Byte signed) = Unit {0}
IsNumber (Int signed width order) = Unit {0}
IsNumber (Bytes n) = ⊥

-- the unsigned number in `n` bytes
abbrev pub number_in : Order → ℕ → List ℕ → ℕ
number_in Little n bytes = little_number n bytes
number_in Big n bytes = big_number n bytes

-- the `n` bytes of an unsigned number
abbrev pub bytes_of : Order → ℕ → ℕ → List ℕ
bytes_of Little n bits = little_bytes n bits
bytes_of Big n bits = big_bytes n bits

-- the integer that the bits of `n` bytes mean, unsigned or in two's complement
abbrev pub integer : Bool → ℕ → ℕ → ℤ
integer false n bits = pos bits
integer true n bits = twos_complement n bits

-- the number below 2 ^ (8 * n) that differs from the value by a multiple of 2 ^ (8 * n)
abbrev pub low_bits : ℕ → ℤ → ℕ
low_bits n value = unsigned_abs (int_rem_euclid value (pos (2 ^ (8 * n))))

-- 0 stays 0, and every other number becomes 1
abbrev pub truth : ℕ → ℕ
truth n = if nat_eq n 0 then 0 else 1

-- the value of an integer scalar that differs from `value` by a multiple of 2 ^ its number of bits. A bool is 0 if
-- `value` is 0 and otherwise 1. A byte string has no numbers, and leaves `value` as it is.
abbrev pub wrap : Scalar → ℤ → ℤ
wrap BoolScalar value = pos (truth (unsigned_abs value))
wrap (Byte signed) value = integer signed 1 (low_bits 1 value)
wrap (Int signed width order) value = integer signed (width_size width) (low_bits (width_size width) value)
wrap (Bytes n) value = value

-- the integers that fit into `n` bytes, unsigned or signed
abbrev pub FitsBytes : Bool → ℕ → ℤ → Type 0
FitsBytes false n value = (pos 0 ≤ℤ value) × (value <ℤ pos (2 ^ (8 * n)))
FitsBytes true n value = (neg_ℤ (pos (2 ^ (8 * n - 1))) ≤ℤ value) × (value <ℤ pos (2 ^ (8 * n - 1)))

-- the numbers that are values of the scalar
abbrev pub IsValueOf : Scalar → ℤ → Type 0
IsValueOf BoolScalar value = (value ≡ pos 0) ⊎ (value ≡ pos 1)
IsValueOf (Byte signed) value = FitsBytes signed 1 value
IsValueOf (Int signed width order) value = FitsBytes signed (width_size width) value
IsValueOf (Bytes n) value = ⊥

-- whether wrapping leaves a number as it is. Unless the scalar is a byte string, this is whether the number is one of
-- its values.
abbrev pub is_value : Scalar → ℤ → Bool
is_value scalar value = int_eq (wrap scalar value) value

-- two numbers that differ by a multiple of `d`
abbrev pub DifferByMultiple : ℕ → ℤ → ℤ → Type 0
DifferByMultiple d x y = (k : ℕ) × ((x ≡ y +ℤ pos (k * d)) ⊎ (y ≡ x +ℤ pos (k * d)))

-- an integer wraps to a number that differs by a multiple of 2 ^ its number of bits, and a bool wraps to 0 if and only
-- if the value is 0
abbrev pub WrapsTo : Scalar → ℤ → ℤ → Type 0
WrapsTo BoolScalar value wrapped = (wrapped ≡ pos 0) ↔ (value ≡ pos 0)
WrapsTo (Byte signed) value wrapped = DifferByMultiple (2 ^ 8) wrapped value
WrapsTo (Int signed width order) value wrapped = DifferByMultiple (2 ^ (8 * width_size width)) wrapped value
WrapsTo (Bytes n) value wrapped = ⊥

-- a byte string without the NULs at its end
abbrev pub without_nuls : List ℕ → List ℕ
without_nuls bytes = take (length bytes - suffix_len (λ b. nat_eq b 0) bytes) bytes

-- the first `n` bytes, followed by NULs if the string is shorter
abbrev pub padded : ℕ → List ℕ → List ℕ
padded n bytes = take n bytes ++ replicate (n - length bytes) 0

-- the value that an item's bytes mean
abbrev pub decode : Scalar → List ℕ → LeafValue
decode BoolScalar bytes = number (pos (truth (little_number 1 bytes)))
decode (Byte signed) bytes = number (integer signed 1 (little_number 1 bytes))
decode (Int signed width order) bytes = number (integer signed (width_size width) (number_in order (width_size width) bytes))
decode (Bytes n) bytes = text (without_nuls bytes)

-- a value as a number: 0 if it is a byte string
abbrev pub number_of : LeafValue → ℤ
number_of (number value) = value
number_of (text bytes) = pos 0

-- a value as a byte string: empty if it is a number
abbrev pub text_of : LeafValue → List ℕ
text_of (number value) = []
text_of (text bytes) = bytes

-- the bytes of a value: a number is wrapped, and a byte string is cut off or padded with NULs
abbrev pub encode : Scalar → LeafValue → List ℕ
encode BoolScalar value = truth (unsigned_abs (number_of value)) ∷ []
encode (Byte signed) value = little_bytes 1 (low_bits 1 (number_of value))
encode (Int signed width order) value = bytes_of order (width_size width) (low_bits (width_size width) (number_of value))
encode (Bytes n) value = padded n (text_of value)
