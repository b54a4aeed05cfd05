-- The type of a result, as NumPy 2 promotes the types of two operands.
use Rattle.std.specs.Prelude.{ℕ, ◌*◌, max, ◌==◌, nat_le, Bool, true, false, not, ◌&&◌, ◌||◌, if◌then◌else◌, Result, Ok}
use Rattle.elementwise.specs.Words.{Refusal, NotForThisKind, NeedsFloats, NotSameKind, Little, Two, Four, Eight, Scalar, Byte, Int, size, ◌>>=◌, check, is_bool, is_text, is_signed, little, BinOp, Divide, UnOp, BoolScalar}
use Rattle.elementwise.specs.Casts.{can_cast_scalar}
use Rattle.elementwise.specs.Operations.{serves_bools, serves_one}

-- ---- kinds

-- the rank of a kind of numbers: bools, then unsigned integers, then signed integers
abbrev pub rank_of_kind : Scalar → ℕ
rank_of_kind scalar = if is_bool scalar then 0 else (if is_signed scalar then 2 else 1)

-- A result of type `from` may be written to items of type `to` unless its kind has a higher rank. The widths do not
-- matter. Byte strings are refused.
unfoldable pub same_kind : Scalar → Scalar → Result (Unit {0}) Refusal
same_kind from to = check (not (is_text from || is_text to) && nat_le (rank_of_kind from) (rank_of_kind to)) NotSameKind

-- ---- the common type

-- the little-endian integer type of 1, 2, 4 or 8 bytes
abbrev pub integer_type : Bool → ℕ → Scalar
integer_type signed bytes =
    if bytes == 1 then Byte signed
    else (if bytes == 2 then Int signed Two Little
    else (if bytes == 4 then Int signed Four Little
    else Int signed Eight Little))

-- the smallest signed integer type that holds unsigned integers of one width and signed integers of another, or the
-- refusal if there is none
abbrev pub mixed_type : ℕ → ℕ → Result Scalar Refusal
mixed_type unsigned signed = do
  _ ← check (nat_le (2 * unsigned) 8) NeedsFloats
  Ok (integer_type true (max (2 * unsigned) signed))

-- the common type of two integer types: the wider one if both are signed or both are unsigned, else their mixed type
abbrev pub common_integers : Scalar → Scalar → Result Scalar Refusal
common_integers left right =
    if is_signed left
    then (if is_signed right then Ok (integer_type true (max (size left) (size right))) else mixed_type (size right) (size left))
    else (if is_signed right then mixed_type (size left) (size right) else Ok (integer_type false (max (size left) (size right))))

-- the common type of two types of numbers: if one is bool, the other one, and otherwise that of two integer types
abbrev pub common_type : Scalar → Scalar → Result Scalar Refusal
common_type left right =
    if is_bool left then Ok (little right)
    else (if is_bool right then Ok (little left)
    else common_integers left right)

-- ---- the type of a result

abbrev pub is_division : BinOp → Bool
is_division Divide = true
is_division _ = false

-- the type of the result of an operation on two scalars
unfoldable pub promote : BinOp → Scalar → Scalar → Result Scalar Refusal
promote op left right = do
  _ ← check (not (is_text left || is_text right)) NotForThisKind
  _ ← check (serves_bools op || not (is_bool left && is_bool right)) NotForThisKind
  _ ← check (not (is_division op)) NeedsFloats
  common_type left right

-- the type of the result of a comparison of two scalars: numbers are compared with numbers, byte strings with byte strings
unfoldable pub compared_type : Scalar → Scalar → Result Scalar Refusal
compared_type left right = do
  _ ← check (can_cast_scalar left right) NotForThisKind
  Ok BoolScalar

-- the type of an integer literal that is used with a scalar: the type of the scalar, or a signed 64-bit integer if the
-- scalar is a bool
abbrev pub literal_type : Scalar → Scalar
literal_type BoolScalar = Int true Eight Little
literal_type scalar = little scalar

-- the type of the result of an operation on one scalar
unfoldable pub promote_one : UnOp → Scalar → Result Scalar Refusal
promote_one op scalar = do
  _ ← check (serves_one op scalar) NotForThisKind
  Ok (little scalar)
