-- Test vectors: the types of results, as NumPy 2 promotes them.
use Rattle.std.proofs.Common.{◌≡◌, true, false, List, [], ◌∷◌, map, Result, Ok, Err, refl}
use Rattle.elementwise.proofs.Words.{Refusal, NotForThisKind, NeedsFloats, NotSameKind, Little, Big, Two, Four, Eight, Scalar, Byte, Int, Bytes, BinOp, Add, Subtract, Multiply, FloorDivide, Modulo, And, Or, Xor, ShiftLeft, ShiftRight, Divide, Negate, Invert, BoolScalar, promote, compared_type, literal_type, promote_one, same_kind}

abbrev b1 : Scalar
b1 = BoolScalar

abbrev i1 : Scalar
i1 = Byte true

abbrev u1 : Scalar
u1 = Byte false

abbrev i2 : Scalar
i2 = Int true Two Little

abbrev u2 : Scalar
u2 = Int false Two Little

abbrev i4 : Scalar
i4 = Int true Four Little

abbrev u4 : Scalar
u4 = Int false Four Little

abbrev i8 : Scalar
i8 = Int true Eight Little

abbrev u8 : Scalar
u8 = Int false Eight Little

abbrev s3 : Scalar
s3 = Bytes 3

abbrev types : List Scalar
types = b1 ∷ i1 ∷ u1 ∷ i2 ∷ u2 ∷ i4 ∷ u4 ∷ i8 ∷ u8 ∷ []

abbrev refused : Result Scalar Refusal
refused = Err NotForThisKind

abbrev float : Result Scalar Refusal
float = Err NeedsFloats

-- np.promote_types of every pair, unless it is a float
promoted : map (λ left. map (promote Multiply left) types) types ≡
    (Ok b1 ∷ Ok i1 ∷ Ok u1 ∷ Ok i2 ∷ Ok u2 ∷ Ok i4 ∷ Ok u4 ∷ Ok i8 ∷ Ok u8 ∷ []) ∷
    (Ok i1 ∷ Ok i1 ∷ Ok i2 ∷ Ok i2 ∷ Ok i4 ∷ Ok i4 ∷ Ok i8 ∷ Ok i8 ∷ float ∷ []) ∷
    (Ok u1 ∷ Ok i2 ∷ Ok u1 ∷ Ok i2 ∷ Ok u2 ∷ Ok i4 ∷ Ok u4 ∷ Ok i8 ∷ Ok u8 ∷ []) ∷
    (Ok i2 ∷ Ok i2 ∷ Ok i2 ∷ Ok i2 ∷ Ok i4 ∷ Ok i4 ∷ Ok i8 ∷ Ok i8 ∷ float ∷ []) ∷
    (Ok u2 ∷ Ok i4 ∷ Ok u2 ∷ Ok i4 ∷ Ok u2 ∷ Ok i4 ∷ Ok u4 ∷ Ok i8 ∷ Ok u8 ∷ []) ∷
    (Ok i4 ∷ Ok i4 ∷ Ok i4 ∷ Ok i4 ∷ Ok i4 ∷ Ok i4 ∷ Ok i8 ∷ Ok i8 ∷ float ∷ []) ∷
    (Ok u4 ∷ Ok i8 ∷ Ok u4 ∷ Ok i8 ∷ Ok u4 ∷ Ok i8 ∷ Ok u4 ∷ Ok i8 ∷ Ok u8 ∷ []) ∷
    (Ok i8 ∷ Ok i8 ∷ Ok i8 ∷ Ok i8 ∷ Ok i8 ∷ Ok i8 ∷ Ok i8 ∷ Ok i8 ∷ float ∷ []) ∷
    (Ok u8 ∷ float ∷ Ok u8 ∷ float ∷ Ok u8 ∷ float ∷ Ok u8 ∷ float ∷ Ok u8 ∷ []) ∷
    []
unfolding promote
promoted = refl

abbrev words : List BinOp
words = Add ∷ Subtract ∷ Multiply ∷ FloorDivide ∷ Modulo ∷ And ∷ Or ∷ Xor ∷ ShiftLeft ∷ ShiftRight ∷ Divide ∷ []

-- two types, and the result of each word. Byte strings cannot be operands of any operation.
abbrev pairs : List (Scalar × Scalar × List (Result Scalar Refusal))
pairs =
    (b1, b1, Ok b1 ∷ refused ∷ Ok b1 ∷ refused ∷ refused ∷ Ok b1 ∷ Ok b1 ∷ Ok b1 ∷ refused ∷ refused ∷ float ∷ []) ∷
    (i4, u1, Ok i4 ∷ Ok i4 ∷ Ok i4 ∷ Ok i4 ∷ Ok i4 ∷ Ok i4 ∷ Ok i4 ∷ Ok i4 ∷ Ok i4 ∷ Ok i4 ∷ float ∷ []) ∷
    (b1, i2, Ok i2 ∷ Ok i2 ∷ Ok i2 ∷ Ok i2 ∷ Ok i2 ∷ Ok i2 ∷ Ok i2 ∷ Ok i2 ∷ Ok i2 ∷ Ok i2 ∷ float ∷ []) ∷
    (s3, s3, refused ∷ refused ∷ refused ∷ refused ∷ refused ∷ refused ∷ refused ∷ refused ∷ refused ∷ refused ∷ refused ∷ []) ∷
    []

by_word : map (λ row. map (λ op. promote op row.0 row.1) words) pairs ≡ map (λ row. row.2) pairs
unfolding promote
by_word = refl

-- an operation, two types, and the type of the result, which is little-endian
abbrev single : List (BinOp × Scalar × Scalar × Result Scalar Refusal)
single =
    (Add, s3, i4, refused) ∷
    (Divide, i4, s3, refused) ∷
    (Add, Int true Four Big, Int true Four Big, Ok i4) ∷
    (Add, Int false Two Big, b1, Ok u2) ∷
    []

singles : map (λ row. promote row.0 row.1 row.2) single ≡ map (λ row. row.3) single
unfolding promote
singles = refl

-- with an integer literal: np.array([1], 'u1') + 1 is u1, np.array([True]) + 1 is i8
literals : map literal_type types ≡ i8 ∷ i1 ∷ u1 ∷ i2 ∷ u2 ∷ i4 ∷ u4 ∷ i8 ∷ u8 ∷ []
literals = refl

-- np.negative and np.invert
unary : map (λ op. map (promote_one op) types) (Negate ∷ Invert ∷ []) ≡
    (refused ∷ Ok i1 ∷ Ok u1 ∷ Ok i2 ∷ Ok u2 ∷ Ok i4 ∷ Ok u4 ∷ Ok i8 ∷ Ok u8 ∷ []) ∷
    (Ok b1 ∷ Ok i1 ∷ Ok u1 ∷ Ok i2 ∷ Ok u2 ∷ Ok i4 ∷ Ok u4 ∷ Ok i8 ∷ Ok u8 ∷ []) ∷
    []
unfolding promote_one
unary = refl

no_text : promote_one Invert s3 ≡ refused
unfolding promote_one
no_text = refl

-- comparisons: numbers with all numbers, and byte strings with byte strings
compared_with_u8 : map (compared_type u8) types ≡ map (λ _. Ok b1) types
unfolding compared_type
compared_with_u8 = refl

abbrev compared : List (Scalar × Scalar × Result Scalar Refusal)
compared = (s3, Bytes 1, Ok b1) ∷ (s3, u1, refused) ∷ (b1, s3, refused) ∷ []

compared_texts : map (λ row. compared_type row.0 row.1) compared ≡ map (λ row. row.2) compared
unfolding compared_type
compared_texts = refl

abbrev can : Result (Unit {0}) Refusal
can = Ok tt

abbrev cannot : Result (Unit {0}) Refusal
cannot = Err NotSameKind

-- np.can_cast(a, b, 'same_kind') for numbers: signed integers cannot be written to unsigned ones, nor integers to bools
same_kinds : map (λ from. map (same_kind from) types) types ≡
    (can ∷ can ∷ can ∷ can ∷ can ∷ can ∷ can ∷ can ∷ can ∷ []) ∷
    (cannot ∷ can ∷ cannot ∷ can ∷ cannot ∷ can ∷ cannot ∷ can ∷ cannot ∷ []) ∷
    (cannot ∷ can ∷ can ∷ can ∷ can ∷ can ∷ can ∷ can ∷ can ∷ []) ∷
    (cannot ∷ can ∷ cannot ∷ can ∷ cannot ∷ can ∷ cannot ∷ can ∷ cannot ∷ []) ∷
    (cannot ∷ can ∷ can ∷ can ∷ can ∷ can ∷ can ∷ can ∷ can ∷ []) ∷
    (cannot ∷ can ∷ cannot ∷ can ∷ cannot ∷ can ∷ cannot ∷ can ∷ cannot ∷ []) ∷
    (cannot ∷ can ∷ can ∷ can ∷ can ∷ can ∷ can ∷ can ∷ can ∷ []) ∷
    (cannot ∷ can ∷ cannot ∷ can ∷ cannot ∷ can ∷ cannot ∷ can ∷ cannot ∷ []) ∷
    (cannot ∷ can ∷ can ∷ can ∷ can ∷ can ∷ can ∷ can ∷ can ∷ []) ∷
    []
unfolding same_kind
same_kinds = refl

to_text : same_kind b1 s3 ≡ cannot
unfolding same_kind
to_text = refl
