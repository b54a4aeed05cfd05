-- Test vectors: operations and comparisons of single values, as in NumPy.
use Rattle.std.proofs.Common.{◌≡◌, ℤ, pos, negsuc, Bool, true, false, List, [], ◌∷◌, map, refl}
use Rattle.elementwise.proofs.Words.{Little, Four, Eight, Scalar, Byte, Int, LeafValue, number, text, BinOp, UnOp, Add, Subtract, Multiply, FloorDivide, Modulo, And, Or, Xor, ShiftLeft, ShiftRight, Negate, Invert, Comparison, Equal, NotEqual, Less, LessOrEqual, Greater, GreaterOrEqual, BoolScalar, binary, unary, compared}

-- each number of the first list with each number of the second
abbrev table : BinOp → Scalar → List ℤ → List ℤ → List (List ℤ)
table op scalar xs ys = map (λ x. map (λ y. binary op scalar x y) ys) xs

abbrev signed : List ℤ
signed = negsuc 127 ∷ negsuc 126 ∷ negsuc 6 ∷ negsuc 0 ∷ pos 0 ∷ pos 1 ∷ pos 2 ∷ pos 7 ∷ pos 127 ∷ []

abbrev unsigned : List ℤ
unsigned = pos 0 ∷ pos 1 ∷ pos 2 ∷ pos 7 ∷ pos 127 ∷ pos 128 ∷ pos 254 ∷ pos 255 ∷ []

abbrev longest : List ℤ
longest = negsuc 9223372036854775807 ∷ negsuc 9223372036854775806 ∷ negsuc 6 ∷ negsuc 0 ∷ pos 0 ∷ pos 1 ∷ pos 3 ∷ pos 9223372036854775807 ∷ []

abbrev greatest : List ℤ
greatest = pos 0 ∷ pos 1 ∷ pos 3 ∷ pos 9223372036854775807 ∷ pos 9223372036854775808 ∷ pos 18446744073709551615 ∷ []

abbrev bools : List ℤ
bools = pos 0 ∷ pos 1 ∷ []

-- an operation, a type, two lists, and the table
abbrev tables : List (BinOp × Scalar × List ℤ × List ℤ × List (List ℤ))
tables =
    (Add, Byte true, signed, signed, (pos 0 ∷ pos 1 ∷ pos 121 ∷ pos 127 ∷ negsuc 127 ∷ negsuc 126 ∷ negsuc 125 ∷ negsuc 120 ∷ negsuc 0 ∷ []) ∷ (pos 1 ∷ pos 2 ∷ pos 122 ∷ negsuc 127 ∷ negsuc 126 ∷ negsuc 125 ∷ negsuc 124 ∷ negsuc 119 ∷ pos 0 ∷ []) ∷ (pos 121 ∷ pos 122 ∷ negsuc 13 ∷ negsuc 7 ∷ negsuc 6 ∷ negsuc 5 ∷ negsuc 4 ∷ pos 0 ∷ pos 120 ∷ []) ∷ (pos 127 ∷ negsuc 127 ∷ negsuc 7 ∷ negsuc 1 ∷ negsuc 0 ∷ pos 0 ∷ pos 1 ∷ pos 6 ∷ pos 126 ∷ []) ∷ (negsuc 127 ∷ negsuc 126 ∷ negsuc 6 ∷ negsuc 0 ∷ pos 0 ∷ pos 1 ∷ pos 2 ∷ pos 7 ∷ pos 127 ∷ []) ∷ (negsuc 126 ∷ negsuc 125 ∷ negsuc 5 ∷ pos 0 ∷ pos 1 ∷ pos 2 ∷ pos 3 ∷ pos 8 ∷ negsuc 127 ∷ []) ∷ (negsuc 125 ∷ negsuc 124 ∷ negsuc 4 ∷ pos 1 ∷ pos 2 ∷ pos 3 ∷ pos 4 ∷ pos 9 ∷ negsuc 126 ∷ []) ∷ (negsuc 120 ∷ negsuc 119 ∷ pos 0 ∷ pos 6 ∷ pos 7 ∷ pos 8 ∷ pos 9 ∷ pos 14 ∷ negsuc 121 ∷ []) ∷ (negsuc 0 ∷ pos 0 ∷ pos 120 ∷ pos 126 ∷ pos 127 ∷ negsuc 127 ∷ negsuc 126 ∷ negsuc 121 ∷ negsuc 1 ∷ []) ∷ []) ∷
    (Subtract, Byte true, signed, signed, (pos 0 ∷ negsuc 0 ∷ negsuc 120 ∷ negsuc 126 ∷ negsuc 127 ∷ pos 127 ∷ pos 126 ∷ pos 121 ∷ pos 1 ∷ []) ∷ (pos 1 ∷ pos 0 ∷ negsuc 119 ∷ negsuc 125 ∷ negsuc 126 ∷ negsuc 127 ∷ pos 127 ∷ pos 122 ∷ pos 2 ∷ []) ∷ (pos 121 ∷ pos 120 ∷ pos 0 ∷ negsuc 5 ∷ negsuc 6 ∷ negsuc 7 ∷ negsuc 8 ∷ negsuc 13 ∷ pos 122 ∷ []) ∷ (pos 127 ∷ pos 126 ∷ pos 6 ∷ pos 0 ∷ negsuc 0 ∷ negsuc 1 ∷ negsuc 2 ∷ negsuc 7 ∷ negsuc 127 ∷ []) ∷ (negsuc 127 ∷ pos 127 ∷ pos 7 ∷ pos 1 ∷ pos 0 ∷ negsuc 0 ∷ negsuc 1 ∷ negsuc 6 ∷ negsuc 126 ∷ []) ∷ (negsuc 126 ∷ negsuc 127 ∷ pos 8 ∷ pos 2 ∷ pos 1 ∷ pos 0 ∷ negsuc 0 ∷ negsuc 5 ∷ negsuc 125 ∷ []) ∷ (negsuc 125 ∷ negsuc 126 ∷ pos 9 ∷ pos 3 ∷ pos 2 ∷ pos 1 ∷ pos 0 ∷ negsuc 4 ∷ negsuc 124 ∷ []) ∷ (negsuc 120 ∷ negsuc 121 ∷ pos 14 ∷ pos 8 ∷ pos 7 ∷ pos 6 ∷ pos 5 ∷ pos 0 ∷ negsuc 119 ∷ []) ∷ (negsuc 0 ∷ negsuc 1 ∷ negsuc 121 ∷ negsuc 127 ∷ pos 127 ∷ pos 126 ∷ pos 125 ∷ pos 120 ∷ pos 0 ∷ []) ∷ []) ∷
    (Multiply, Byte true, signed, signed, (pos 0 ∷ negsuc 127 ∷ negsuc 127 ∷ negsuc 127 ∷ pos 0 ∷ negsuc 127 ∷ pos 0 ∷ negsuc 127 ∷ negsuc 127 ∷ []) ∷ (negsuc 127 ∷ pos 1 ∷ pos 121 ∷ pos 127 ∷ pos 0 ∷ negsuc 126 ∷ pos 2 ∷ negsuc 120 ∷ negsuc 0 ∷ []) ∷ (negsuc 127 ∷ pos 121 ∷ pos 49 ∷ pos 7 ∷ pos 0 ∷ negsuc 6 ∷ negsuc 13 ∷ negsuc 48 ∷ negsuc 120 ∷ []) ∷ (negsuc 127 ∷ pos 127 ∷ pos 7 ∷ pos 1 ∷ pos 0 ∷ negsuc 0 ∷ negsuc 1 ∷ negsuc 6 ∷ negsuc 126 ∷ []) ∷ (pos 0 ∷ pos 0 ∷ pos 0 ∷ pos 0 ∷ pos 0 ∷ pos 0 ∷ pos 0 ∷ pos 0 ∷ pos 0 ∷ []) ∷ (negsuc 127 ∷ negsuc 126 ∷ negsuc 6 ∷ negsuc 0 ∷ pos 0 ∷ pos 1 ∷ pos 2 ∷ pos 7 ∷ pos 127 ∷ []) ∷ (pos 0 ∷ pos 2 ∷ negsuc 13 ∷ negsuc 1 ∷ pos 0 ∷ pos 2 ∷ pos 4 ∷ pos 14 ∷ negsuc 1 ∷ []) ∷ (negsuc 127 ∷ negsuc 120 ∷ negsuc 48 ∷ negsuc 6 ∷ pos 0 ∷ pos 7 ∷ pos 14 ∷ pos 49 ∷ pos 121 ∷ []) ∷ (negsuc 127 ∷ negsuc 0 ∷ negsuc 120 ∷ negsuc 126 ∷ pos 0 ∷ pos 127 ∷ negsuc 1 ∷ pos 121 ∷ pos 1 ∷ []) ∷ []) ∷
    (FloorDivide, Byte true, signed, signed, (pos 1 ∷ pos 1 ∷ pos 18 ∷ negsuc 127 ∷ pos 0 ∷ negsuc 127 ∷ negsuc 63 ∷ negsuc 18 ∷ negsuc 1 ∷ []) ∷ (pos 0 ∷ pos 1 ∷ pos 18 ∷ pos 127 ∷ pos 0 ∷ negsuc 126 ∷ negsuc 63 ∷ negsuc 18 ∷ negsuc 0 ∷ []) ∷ (pos 0 ∷ pos 0 ∷ pos 1 ∷ pos 7 ∷ pos 0 ∷ negsuc 6 ∷ negsuc 3 ∷ negsuc 0 ∷ negsuc 0 ∷ []) ∷ (pos 0 ∷ pos 0 ∷ pos 0 ∷ pos 1 ∷ pos 0 ∷ negsuc 0 ∷ negsuc 0 ∷ negsuc 0 ∷ negsuc 0 ∷ []) ∷ (pos 0 ∷ pos 0 ∷ pos 0 ∷ pos 0 ∷ pos 0 ∷ pos 0 ∷ pos 0 ∷ pos 0 ∷ pos 0 ∷ []) ∷ (negsuc 0 ∷ negsuc 0 ∷ negsuc 0 ∷ negsuc 0 ∷ pos 0 ∷ pos 1 ∷ pos 0 ∷ pos 0 ∷ pos 0 ∷ []) ∷ (negsuc 0 ∷ negsuc 0 ∷ negsuc 0 ∷ negsuc 1 ∷ pos 0 ∷ pos 2 ∷ pos 1 ∷ pos 0 ∷ pos 0 ∷ []) ∷ (negsuc 0 ∷ negsuc 0 ∷ negsuc 0 ∷ negsuc 6 ∷ pos 0 ∷ pos 7 ∷ pos 3 ∷ pos 1 ∷ pos 0 ∷ []) ∷ (negsuc 0 ∷ negsuc 0 ∷ negsuc 18 ∷ negsuc 126 ∷ pos 0 ∷ pos 127 ∷ pos 63 ∷ pos 18 ∷ pos 1 ∷ []) ∷ []) ∷
    (Modulo, Byte true, signed, signed, (pos 0 ∷ negsuc 0 ∷ negsuc 1 ∷ pos 0 ∷ pos 0 ∷ pos 0 ∷ pos 0 ∷ pos 5 ∷ pos 126 ∷ []) ∷ (negsuc 126 ∷ pos 0 ∷ negsuc 0 ∷ pos 0 ∷ pos 0 ∷ pos 0 ∷ pos 1 ∷ pos 6 ∷ pos 0 ∷ []) ∷ (negsuc 6 ∷ negsuc 6 ∷ pos 0 ∷ pos 0 ∷ pos 0 ∷ pos 0 ∷ pos 1 ∷ pos 0 ∷ pos 120 ∷ []) ∷ (negsuc 0 ∷ negsuc 0 ∷ negsuc 0 ∷ pos 0 ∷ pos 0 ∷ pos 0 ∷ pos 1 ∷ pos 6 ∷ pos 126 ∷ []) ∷ (pos 0 ∷ pos 0 ∷ pos 0 ∷ pos 0 ∷ pos 0 ∷ pos 0 ∷ pos 0 ∷ pos 0 ∷ pos 0 ∷ []) ∷ (negsuc 126 ∷ negsuc 125 ∷ negsuc 5 ∷ pos 0 ∷ pos 0 ∷ pos 0 ∷ pos 1 ∷ pos 1 ∷ pos 1 ∷ []) ∷ (negsuc 125 ∷ negsuc 124 ∷ negsuc 4 ∷ pos 0 ∷ pos 0 ∷ pos 0 ∷ pos 0 ∷ pos 2 ∷ pos 2 ∷ []) ∷ (negsuc 120 ∷ negsuc 119 ∷ pos 0 ∷ pos 0 ∷ pos 0 ∷ pos 0 ∷ pos 1 ∷ pos 0 ∷ pos 7 ∷ []) ∷ (negsuc 0 ∷ pos 0 ∷ negsuc 5 ∷ pos 0 ∷ pos 0 ∷ pos 0 ∷ pos 1 ∷ pos 1 ∷ pos 0 ∷ []) ∷ []) ∷
    (And, Byte true, signed, signed, (negsuc 127 ∷ negsuc 127 ∷ negsuc 127 ∷ negsuc 127 ∷ pos 0 ∷ pos 0 ∷ pos 0 ∷ pos 0 ∷ pos 0 ∷ []) ∷ (negsuc 127 ∷ negsuc 126 ∷ negsuc 126 ∷ negsuc 126 ∷ pos 0 ∷ pos 1 ∷ pos 0 ∷ pos 1 ∷ pos 1 ∷ []) ∷ (negsuc 127 ∷ negsuc 126 ∷ negsuc 6 ∷ negsuc 6 ∷ pos 0 ∷ pos 1 ∷ pos 0 ∷ pos 1 ∷ pos 121 ∷ []) ∷ (negsuc 127 ∷ negsuc 126 ∷ negsuc 6 ∷ negsuc 0 ∷ pos 0 ∷ pos 1 ∷ pos 2 ∷ pos 7 ∷ pos 127 ∷ []) ∷ (pos 0 ∷ pos 0 ∷ pos 0 ∷ pos 0 ∷ pos 0 ∷ pos 0 ∷ pos 0 ∷ pos 0 ∷ pos 0 ∷ []) ∷ (pos 0 ∷ pos 1 ∷ pos 1 ∷ pos 1 ∷ pos 0 ∷ pos 1 ∷ pos 0 ∷ pos 1 ∷ pos 1 ∷ []) ∷ (pos 0 ∷ pos 0 ∷ pos 0 ∷ pos 2 ∷ pos 0 ∷ pos 0 ∷ pos 2 ∷ pos 2 ∷ pos 2 ∷ []) ∷ (pos 0 ∷ pos 1 ∷ pos 1 ∷ pos 7 ∷ pos 0 ∷ pos 1 ∷ pos 2 ∷ pos 7 ∷ pos 7 ∷ []) ∷ (pos 0 ∷ pos 1 ∷ pos 121 ∷ pos 127 ∷ pos 0 ∷ pos 1 ∷ pos 2 ∷ pos 7 ∷ pos 127 ∷ []) ∷ []) ∷
    (Or, Byte true, signed, signed, (negsuc 127 ∷ negsuc 126 ∷ negsuc 6 ∷ negsuc 0 ∷ negsuc 127 ∷ negsuc 126 ∷ negsuc 125 ∷ negsuc 120 ∷ negsuc 0 ∷ []) ∷ (negsuc 126 ∷ negsuc 126 ∷ negsuc 6 ∷ negsuc 0 ∷ negsuc 126 ∷ negsuc 126 ∷ negsuc 124 ∷ negsuc 120 ∷ negsuc 0 ∷ []) ∷ (negsuc 6 ∷ negsuc 6 ∷ negsuc 6 ∷ negsuc 0 ∷ negsuc 6 ∷ negsuc 6 ∷ negsuc 4 ∷ negsuc 0 ∷ negsuc 0 ∷ []) ∷ (negsuc 0 ∷ negsuc 0 ∷ negsuc 0 ∷ negsuc 0 ∷ negsuc 0 ∷ negsuc 0 ∷ negsuc 0 ∷ negsuc 0 ∷ negsuc 0 ∷ []) ∷ (negsuc 127 ∷ negsuc 126 ∷ negsuc 6 ∷ negsuc 0 ∷ pos 0 ∷ pos 1 ∷ pos 2 ∷ pos 7 ∷ pos 127 ∷ []) ∷ (negsuc 126 ∷ negsuc 126 ∷ negsuc 6 ∷ negsuc 0 ∷ pos 1 ∷ pos 1 ∷ pos 3 ∷ pos 7 ∷ pos 127 ∷ []) ∷ (negsuc 125 ∷ negsuc 124 ∷ negsuc 4 ∷ negsuc 0 ∷ pos 2 ∷ pos 3 ∷ pos 2 ∷ pos 7 ∷ pos 127 ∷ []) ∷ (negsuc 120 ∷ negsuc 120 ∷ negsuc 0 ∷ negsuc 0 ∷ pos 7 ∷ pos 7 ∷ pos 7 ∷ pos 7 ∷ pos 127 ∷ []) ∷ (negsuc 0 ∷ negsuc 0 ∷ negsuc 0 ∷ negsuc 0 ∷ pos 127 ∷ pos 127 ∷ pos 127 ∷ pos 127 ∷ pos 127 ∷ []) ∷ []) ∷
    (Xor, Byte true, signed, signed, (pos 0 ∷ pos 1 ∷ pos 121 ∷ pos 127 ∷ negsuc 127 ∷ negsuc 126 ∷ negsuc 125 ∷ negsuc 120 ∷ negsuc 0 ∷ []) ∷ (pos 1 ∷ pos 0 ∷ pos 120 ∷ pos 126 ∷ negsuc 126 ∷ negsuc 127 ∷ negsuc 124 ∷ negsuc 121 ∷ negsuc 1 ∷ []) ∷ (pos 121 ∷ pos 120 ∷ pos 0 ∷ pos 6 ∷ negsuc 6 ∷ negsuc 7 ∷ negsuc 4 ∷ negsuc 1 ∷ negsuc 121 ∷ []) ∷ (pos 127 ∷ pos 126 ∷ pos 6 ∷ pos 0 ∷ negsuc 0 ∷ negsuc 1 ∷ negsuc 2 ∷ negsuc 7 ∷ negsuc 127 ∷ []) ∷ (negsuc 127 ∷ negsuc 126 ∷ negsuc 6 ∷ negsuc 0 ∷ pos 0 ∷ pos 1 ∷ pos 2 ∷ pos 7 ∷ pos 127 ∷ []) ∷ (negsuc 126 ∷ negsuc 127 ∷ negsuc 7 ∷ negsuc 1 ∷ pos 1 ∷ pos 0 ∷ pos 3 ∷ pos 6 ∷ pos 126 ∷ []) ∷ (negsuc 125 ∷ negsuc 124 ∷ negsuc 4 ∷ negsuc 2 ∷ pos 2 ∷ pos 3 ∷ pos 0 ∷ pos 5 ∷ pos 125 ∷ []) ∷ (negsuc 120 ∷ negsuc 121 ∷ negsuc 1 ∷ negsuc 7 ∷ pos 7 ∷ pos 6 ∷ pos 5 ∷ pos 0 ∷ pos 120 ∷ []) ∷ (negsuc 0 ∷ negsuc 1 ∷ negsuc 121 ∷ negsuc 127 ∷ pos 127 ∷ pos 126 ∷ pos 125 ∷ pos 120 ∷ pos 0 ∷ []) ∷ []) ∷
    (ShiftLeft, Byte true, signed, negsuc 127 ∷ negsuc 0 ∷ pos 0 ∷ pos 1 ∷ pos 7 ∷ pos 8 ∷ pos 127 ∷ [], (pos 0 ∷ pos 0 ∷ negsuc 127 ∷ pos 0 ∷ pos 0 ∷ pos 0 ∷ pos 0 ∷ []) ∷ (pos 0 ∷ pos 0 ∷ negsuc 126 ∷ pos 2 ∷ negsuc 127 ∷ pos 0 ∷ pos 0 ∷ []) ∷ (pos 0 ∷ pos 0 ∷ negsuc 6 ∷ negsuc 13 ∷ negsuc 127 ∷ pos 0 ∷ pos 0 ∷ []) ∷ (pos 0 ∷ pos 0 ∷ negsuc 0 ∷ negsuc 1 ∷ negsuc 127 ∷ pos 0 ∷ pos 0 ∷ []) ∷ (pos 0 ∷ pos 0 ∷ pos 0 ∷ pos 0 ∷ pos 0 ∷ pos 0 ∷ pos 0 ∷ []) ∷ (pos 0 ∷ pos 0 ∷ pos 1 ∷ pos 2 ∷ negsuc 127 ∷ pos 0 ∷ pos 0 ∷ []) ∷ (pos 0 ∷ pos 0 ∷ pos 2 ∷ pos 4 ∷ pos 0 ∷ pos 0 ∷ pos 0 ∷ []) ∷ (pos 0 ∷ pos 0 ∷ pos 7 ∷ pos 14 ∷ negsuc 127 ∷ pos 0 ∷ pos 0 ∷ []) ∷ (pos 0 ∷ pos 0 ∷ pos 127 ∷ negsuc 1 ∷ negsuc 127 ∷ pos 0 ∷ pos 0 ∷ []) ∷ []) ∷
    (ShiftRight, Byte true, signed, negsuc 127 ∷ negsuc 0 ∷ pos 0 ∷ pos 1 ∷ pos 7 ∷ pos 8 ∷ pos 127 ∷ [], (negsuc 0 ∷ negsuc 0 ∷ negsuc 127 ∷ negsuc 63 ∷ negsuc 0 ∷ negsuc 0 ∷ negsuc 0 ∷ []) ∷ (negsuc 0 ∷ negsuc 0 ∷ negsuc 126 ∷ negsuc 63 ∷ negsuc 0 ∷ negsuc 0 ∷ negsuc 0 ∷ []) ∷ (negsuc 0 ∷ negsuc 0 ∷ negsuc 6 ∷ negsuc 3 ∷ negsuc 0 ∷ negsuc 0 ∷ negsuc 0 ∷ []) ∷ (negsuc 0 ∷ negsuc 0 ∷ negsuc 0 ∷ negsuc 0 ∷ negsuc 0 ∷ negsuc 0 ∷ negsuc 0 ∷ []) ∷ (pos 0 ∷ pos 0 ∷ pos 0 ∷ pos 0 ∷ pos 0 ∷ pos 0 ∷ pos 0 ∷ []) ∷ (pos 0 ∷ pos 0 ∷ pos 1 ∷ pos 0 ∷ pos 0 ∷ pos 0 ∷ pos 0 ∷ []) ∷ (pos 0 ∷ pos 0 ∷ pos 2 ∷ pos 1 ∷ pos 0 ∷ pos 0 ∷ pos 0 ∷ []) ∷ (pos 0 ∷ pos 0 ∷ pos 7 ∷ pos 3 ∷ pos 0 ∷ pos 0 ∷ pos 0 ∷ []) ∷ (pos 0 ∷ pos 0 ∷ pos 127 ∷ pos 63 ∷ pos 0 ∷ pos 0 ∷ pos 0 ∷ []) ∷ []) ∷
    (Add, Byte false, unsigned, unsigned, (pos 0 ∷ pos 1 ∷ pos 2 ∷ pos 7 ∷ pos 127 ∷ pos 128 ∷ pos 254 ∷ pos 255 ∷ []) ∷ (pos 1 ∷ pos 2 ∷ pos 3 ∷ pos 8 ∷ pos 128 ∷ pos 129 ∷ pos 255 ∷ pos 0 ∷ []) ∷ (pos 2 ∷ pos 3 ∷ pos 4 ∷ pos 9 ∷ pos 129 ∷ pos 130 ∷ pos 0 ∷ pos 1 ∷ []) ∷ (pos 7 ∷ pos 8 ∷ pos 9 ∷ pos 14 ∷ pos 134 ∷ pos 135 ∷ pos 5 ∷ pos 6 ∷ []) ∷ (pos 127 ∷ pos 128 ∷ pos 129 ∷ pos 134 ∷ pos 254 ∷ pos 255 ∷ pos 125 ∷ pos 126 ∷ []) ∷ (pos 128 ∷ pos 129 ∷ pos 130 ∷ pos 135 ∷ pos 255 ∷ pos 0 ∷ pos 126 ∷ pos 127 ∷ []) ∷ (pos 254 ∷ pos 255 ∷ pos 0 ∷ pos 5 ∷ pos 125 ∷ pos 126 ∷ pos 252 ∷ pos 253 ∷ []) ∷ (pos 255 ∷ pos 0 ∷ pos 1 ∷ pos 6 ∷ pos 126 ∷ pos 127 ∷ pos 253 ∷ pos 254 ∷ []) ∷ []) ∷
    (Subtract, Byte false, unsigned, unsigned, (pos 0 ∷ pos 255 ∷ pos 254 ∷ pos 249 ∷ pos 129 ∷ pos 128 ∷ pos 2 ∷ pos 1 ∷ []) ∷ (pos 1 ∷ pos 0 ∷ pos 255 ∷ pos 250 ∷ pos 130 ∷ pos 129 ∷ pos 3 ∷ pos 2 ∷ []) ∷ (pos 2 ∷ pos 1 ∷ pos 0 ∷ pos 251 ∷ pos 131 ∷ pos 130 ∷ pos 4 ∷ pos 3 ∷ []) ∷ (pos 7 ∷ pos 6 ∷ pos 5 ∷ pos 0 ∷ pos 136 ∷ pos 135 ∷ pos 9 ∷ pos 8 ∷ []) ∷ (pos 127 ∷ pos 126 ∷ pos 125 ∷ pos 120 ∷ pos 0 ∷ pos 255 ∷ pos 129 ∷ pos 128 ∷ []) ∷ (pos 128 ∷ pos 127 ∷ pos 126 ∷ pos 121 ∷ pos 1 ∷ pos 0 ∷ pos 130 ∷ pos 129 ∷ []) ∷ (pos 254 ∷ pos 253 ∷ pos 252 ∷ pos 247 ∷ pos 127 ∷ pos 126 ∷ pos 0 ∷ pos 255 ∷ []) ∷ (pos 255 ∷ pos 254 ∷ pos 253 ∷ pos 248 ∷ pos 128 ∷ pos 127 ∷ pos 1 ∷ pos 0 ∷ []) ∷ []) ∷
    (Multiply, Byte false, unsigned, unsigned, (pos 0 ∷ pos 0 ∷ pos 0 ∷ pos 0 ∷ pos 0 ∷ pos 0 ∷ pos 0 ∷ pos 0 ∷ []) ∷ (pos 0 ∷ pos 1 ∷ pos 2 ∷ pos 7 ∷ pos 127 ∷ pos 128 ∷ pos 254 ∷ pos 255 ∷ []) ∷ (pos 0 ∷ pos 2 ∷ pos 4 ∷ pos 14 ∷ pos 254 ∷ pos 0 ∷ pos 252 ∷ pos 254 ∷ []) ∷ (pos 0 ∷ pos 7 ∷ pos 14 ∷ pos 49 ∷ pos 121 ∷ pos 128 ∷ pos 242 ∷ pos 249 ∷ []) ∷ (pos 0 ∷ pos 127 ∷ pos 254 ∷ pos 121 ∷ pos 1 ∷ pos 128 ∷ pos 2 ∷ pos 129 ∷ []) ∷ (pos 0 ∷ pos 128 ∷ pos 0 ∷ pos 128 ∷ pos 128 ∷ pos 0 ∷ pos 0 ∷ pos 128 ∷ []) ∷ (pos 0 ∷ pos 254 ∷ pos 252 ∷ pos 242 ∷ pos 2 ∷ pos 0 ∷ pos 4 ∷ pos 2 ∷ []) ∷ (pos 0 ∷ pos 255 ∷ pos 254 ∷ pos 249 ∷ pos 129 ∷ pos 128 ∷ pos 2 ∷ pos 1 ∷ []) ∷ []) ∷
    (FloorDivide, Byte false, unsigned, unsigned, (pos 0 ∷ pos 0 ∷ pos 0 ∷ pos 0 ∷ pos 0 ∷ pos 0 ∷ pos 0 ∷ pos 0 ∷ []) ∷ (pos 0 ∷ pos 1 ∷ pos 0 ∷ pos 0 ∷ pos 0 ∷ pos 0 ∷ pos 0 ∷ pos 0 ∷ []) ∷ (pos 0 ∷ pos 2 ∷ pos 1 ∷ pos 0 ∷ pos 0 ∷ pos 0 ∷ pos 0 ∷ pos 0 ∷ []) ∷ (pos 0 ∷ pos 7 ∷ pos 3 ∷ pos 1 ∷ pos 0 ∷ pos 0 ∷ pos 0 ∷ pos 0 ∷ []) ∷ (pos 0 ∷ pos 127 ∷ pos 63 ∷ pos 18 ∷ pos 1 ∷ pos 0 ∷ pos 0 ∷ pos 0 ∷ []) ∷ (pos 0 ∷ pos 128 ∷ pos 64 ∷ pos 18 ∷ pos 1 ∷ pos 1 ∷ pos 0 ∷ pos 0 ∷ []) ∷ (pos 0 ∷ pos 254 ∷ pos 127 ∷ pos 36 ∷ pos 2 ∷ pos 1 ∷ pos 1 ∷ pos 0 ∷ []) ∷ (pos 0 ∷ pos 255 ∷ pos 127 ∷ pos 36 ∷ pos 2 ∷ pos 1 ∷ pos 1 ∷ pos 1 ∷ []) ∷ []) ∷
    (Modulo, Byte false, unsigned, unsigned, (pos 0 ∷ pos 0 ∷ pos 0 ∷ pos 0 ∷ pos 0 ∷ pos 0 ∷ pos 0 ∷ pos 0 ∷ []) ∷ (pos 0 ∷ pos 0 ∷ pos 1 ∷ pos 1 ∷ pos 1 ∷ pos 1 ∷ pos 1 ∷ pos 1 ∷ []) ∷ (pos 0 ∷ pos 0 ∷ pos 0 ∷ pos 2 ∷ pos 2 ∷ pos 2 ∷ pos 2 ∷ pos 2 ∷ []) ∷ (pos 0 ∷ pos 0 ∷ pos 1 ∷ pos 0 ∷ pos 7 ∷ pos 7 ∷ pos 7 ∷ pos 7 ∷ []) ∷ (pos 0 ∷ pos 0 ∷ pos 1 ∷ pos 1 ∷ pos 0 ∷ pos 127 ∷ pos 127 ∷ pos 127 ∷ []) ∷ (pos 0 ∷ pos 0 ∷ pos 0 ∷ pos 2 ∷ pos 1 ∷ pos 0 ∷ pos 128 ∷ pos 128 ∷ []) ∷ (pos 0 ∷ pos 0 ∷ pos 0 ∷ pos 2 ∷ pos 0 ∷ pos 126 ∷ pos 0 ∷ pos 254 ∷ []) ∷ (pos 0 ∷ pos 0 ∷ pos 1 ∷ pos 3 ∷ pos 1 ∷ pos 127 ∷ pos 1 ∷ pos 0 ∷ []) ∷ []) ∷
    (And, Byte false, unsigned, unsigned, (pos 0 ∷ pos 0 ∷ pos 0 ∷ pos 0 ∷ pos 0 ∷ pos 0 ∷ pos 0 ∷ pos 0 ∷ []) ∷ (pos 0 ∷ pos 1 ∷ pos 0 ∷ pos 1 ∷ pos 1 ∷ pos 0 ∷ pos 0 ∷ pos 1 ∷ []) ∷ (pos 0 ∷ pos 0 ∷ pos 2 ∷ pos 2 ∷ pos 2 ∷ pos 0 ∷ pos 2 ∷ pos 2 ∷ []) ∷ (pos 0 ∷ pos 1 ∷ pos 2 ∷ pos 7 ∷ pos 7 ∷ pos 0 ∷ pos 6 ∷ pos 7 ∷ []) ∷ (pos 0 ∷ pos 1 ∷ pos 2 ∷ pos 7 ∷ pos 127 ∷ pos 0 ∷ pos 126 ∷ pos 127 ∷ []) ∷ (pos 0 ∷ pos 0 ∷ pos 0 ∷ pos 0 ∷ pos 0 ∷ pos 128 ∷ pos 128 ∷ pos 128 ∷ []) ∷ (pos 0 ∷ pos 0 ∷ pos 2 ∷ pos 6 ∷ pos 126 ∷ pos 128 ∷ pos 254 ∷ pos 254 ∷ []) ∷ (pos 0 ∷ pos 1 ∷ pos 2 ∷ pos 7 ∷ pos 127 ∷ pos 128 ∷ pos 254 ∷ pos 255 ∷ []) ∷ []) ∷
    (Or, Byte false, unsigned, unsigned, (pos 0 ∷ pos 1 ∷ pos 2 ∷ pos 7 ∷ pos 127 ∷ pos 128 ∷ pos 254 ∷ pos 255 ∷ []) ∷ (pos 1 ∷ pos 1 ∷ pos 3 ∷ pos 7 ∷ pos 127 ∷ pos 129 ∷ pos 255 ∷ pos 255 ∷ []) ∷ (pos 2 ∷ pos 3 ∷ pos 2 ∷ pos 7 ∷ pos 127 ∷ pos 130 ∷ pos 254 ∷ pos 255 ∷ []) ∷ (pos 7 ∷ pos 7 ∷ pos 7 ∷ pos 7 ∷ pos 127 ∷ pos 135 ∷ pos 255 ∷ pos 255 ∷ []) ∷ (pos 127 ∷ pos 127 ∷ pos 127 ∷ pos 127 ∷ pos 127 ∷ pos 255 ∷ pos 255 ∷ pos 255 ∷ []) ∷ (pos 128 ∷ pos 129 ∷ pos 130 ∷ pos 135 ∷ pos 255 ∷ pos 128 ∷ pos 254 ∷ pos 255 ∷ []) ∷ (pos 254 ∷ pos 255 ∷ pos 254 ∷ pos 255 ∷ pos 255 ∷ pos 254 ∷ pos 254 ∷ pos 255 ∷ []) ∷ (pos 255 ∷ pos 255 ∷ pos 255 ∷ pos 255 ∷ pos 255 ∷ pos 255 ∷ pos 255 ∷ pos 255 ∷ []) ∷ []) ∷
    (Xor, Byte false, unsigned, unsigned, (pos 0 ∷ pos 1 ∷ pos 2 ∷ pos 7 ∷ pos 127 ∷ pos 128 ∷ pos 254 ∷ pos 255 ∷ []) ∷ (pos 1 ∷ pos 0 ∷ pos 3 ∷ pos 6 ∷ pos 126 ∷ pos 129 ∷ pos 255 ∷ pos 254 ∷ []) ∷ (pos 2 ∷ pos 3 ∷ pos 0 ∷ pos 5 ∷ pos 125 ∷ pos 130 ∷ pos 252 ∷ pos 253 ∷ []) ∷ (pos 7 ∷ pos 6 ∷ pos 5 ∷ pos 0 ∷ pos 120 ∷ pos 135 ∷ pos 249 ∷ pos 248 ∷ []) ∷ (pos 127 ∷ pos 126 ∷ pos 125 ∷ pos 120 ∷ pos 0 ∷ pos 255 ∷ pos 129 ∷ pos 128 ∷ []) ∷ (pos 128 ∷ pos 129 ∷ pos 130 ∷ pos 135 ∷ pos 255 ∷ pos 0 ∷ pos 126 ∷ pos 127 ∷ []) ∷ (pos 254 ∷ pos 255 ∷ pos 252 ∷ pos 249 ∷ pos 129 ∷ pos 126 ∷ pos 0 ∷ pos 1 ∷ []) ∷ (pos 255 ∷ pos 254 ∷ pos 253 ∷ pos 248 ∷ pos 128 ∷ pos 127 ∷ pos 1 ∷ pos 0 ∷ []) ∷ []) ∷
    (ShiftLeft, Byte false, unsigned, pos 0 ∷ pos 1 ∷ pos 7 ∷ pos 8 ∷ pos 9 ∷ pos 255 ∷ [], (pos 0 ∷ pos 0 ∷ pos 0 ∷ pos 0 ∷ pos 0 ∷ pos 0 ∷ []) ∷ (pos 1 ∷ pos 2 ∷ pos 128 ∷ pos 0 ∷ pos 0 ∷ pos 0 ∷ []) ∷ (pos 2 ∷ pos 4 ∷ pos 0 ∷ pos 0 ∷ pos 0 ∷ pos 0 ∷ []) ∷ (pos 7 ∷ pos 14 ∷ pos 128 ∷ pos 0 ∷ pos 0 ∷ pos 0 ∷ []) ∷ (pos 127 ∷ pos 254 ∷ pos 128 ∷ pos 0 ∷ pos 0 ∷ pos 0 ∷ []) ∷ (pos 128 ∷ pos 0 ∷ pos 0 ∷ pos 0 ∷ pos 0 ∷ pos 0 ∷ []) ∷ (pos 254 ∷ pos 252 ∷ pos 0 ∷ pos 0 ∷ pos 0 ∷ pos 0 ∷ []) ∷ (pos 255 ∷ pos 254 ∷ pos 128 ∷ pos 0 ∷ pos 0 ∷ pos 0 ∷ []) ∷ []) ∷
    (ShiftRight, Byte false, unsigned, pos 0 ∷ pos 1 ∷ pos 7 ∷ pos 8 ∷ pos 9 ∷ pos 255 ∷ [], (pos 0 ∷ pos 0 ∷ pos 0 ∷ pos 0 ∷ pos 0 ∷ pos 0 ∷ []) ∷ (pos 1 ∷ pos 0 ∷ pos 0 ∷ pos 0 ∷ pos 0 ∷ pos 0 ∷ []) ∷ (pos 2 ∷ pos 1 ∷ pos 0 ∷ pos 0 ∷ pos 0 ∷ pos 0 ∷ []) ∷ (pos 7 ∷ pos 3 ∷ pos 0 ∷ pos 0 ∷ pos 0 ∷ pos 0 ∷ []) ∷ (pos 127 ∷ pos 63 ∷ pos 0 ∷ pos 0 ∷ pos 0 ∷ pos 0 ∷ []) ∷ (pos 128 ∷ pos 64 ∷ pos 1 ∷ pos 0 ∷ pos 0 ∷ pos 0 ∷ []) ∷ (pos 254 ∷ pos 127 ∷ pos 1 ∷ pos 0 ∷ pos 0 ∷ pos 0 ∷ []) ∷ (pos 255 ∷ pos 127 ∷ pos 1 ∷ pos 0 ∷ pos 0 ∷ pos 0 ∷ []) ∷ []) ∷
    (Add, Int true Eight Little, longest, longest, (pos 0 ∷ pos 1 ∷ pos 9223372036854775801 ∷ pos 9223372036854775807 ∷ negsuc 9223372036854775807 ∷ negsuc 9223372036854775806 ∷ negsuc 9223372036854775804 ∷ negsuc 0 ∷ []) ∷ (pos 1 ∷ pos 2 ∷ pos 9223372036854775802 ∷ negsuc 9223372036854775807 ∷ negsuc 9223372036854775806 ∷ negsuc 9223372036854775805 ∷ negsuc 9223372036854775803 ∷ pos 0 ∷ []) ∷ (pos 9223372036854775801 ∷ pos 9223372036854775802 ∷ negsuc 13 ∷ negsuc 7 ∷ negsuc 6 ∷ negsuc 5 ∷ negsuc 3 ∷ pos 9223372036854775800 ∷ []) ∷ (pos 9223372036854775807 ∷ negsuc 9223372036854775807 ∷ negsuc 7 ∷ negsuc 1 ∷ negsuc 0 ∷ pos 0 ∷ pos 2 ∷ pos 9223372036854775806 ∷ []) ∷ (negsuc 9223372036854775807 ∷ negsuc 9223372036854775806 ∷ negsuc 6 ∷ negsuc 0 ∷ pos 0 ∷ pos 1 ∷ pos 3 ∷ pos 9223372036854775807 ∷ []) ∷ (negsuc 9223372036854775806 ∷ negsuc 9223372036854775805 ∷ negsuc 5 ∷ pos 0 ∷ pos 1 ∷ pos 2 ∷ pos 4 ∷ negsuc 9223372036854775807 ∷ []) ∷ (negsuc 9223372036854775804 ∷ negsuc 9223372036854775803 ∷ negsuc 3 ∷ pos 2 ∷ pos 3 ∷ pos 4 ∷ pos 6 ∷ negsuc 9223372036854775805 ∷ []) ∷ (negsuc 0 ∷ pos 0 ∷ pos 9223372036854775800 ∷ pos 9223372036854775806 ∷ pos 9223372036854775807 ∷ negsuc 9223372036854775807 ∷ negsuc 9223372036854775805 ∷ negsuc 1 ∷ []) ∷ []) ∷
    (Subtract, Int true Eight Little, longest, longest, (pos 0 ∷ negsuc 0 ∷ negsuc 9223372036854775800 ∷ negsuc 9223372036854775806 ∷ negsuc 9223372036854775807 ∷ pos 9223372036854775807 ∷ pos 9223372036854775805 ∷ pos 1 ∷ []) ∷ (pos 1 ∷ pos 0 ∷ negsuc 9223372036854775799 ∷ negsuc 9223372036854775805 ∷ negsuc 9223372036854775806 ∷ negsuc 9223372036854775807 ∷ pos 9223372036854775806 ∷ pos 2 ∷ []) ∷ (pos 9223372036854775801 ∷ pos 9223372036854775800 ∷ pos 0 ∷ negsuc 5 ∷ negsuc 6 ∷ negsuc 7 ∷ negsuc 9 ∷ pos 9223372036854775802 ∷ []) ∷ (pos 9223372036854775807 ∷ pos 9223372036854775806 ∷ pos 6 ∷ pos 0 ∷ negsuc 0 ∷ negsuc 1 ∷ negsuc 3 ∷ negsuc 9223372036854775807 ∷ []) ∷ (negsuc 9223372036854775807 ∷ pos 9223372036854775807 ∷ pos 7 ∷ pos 1 ∷ pos 0 ∷ negsuc 0 ∷ negsuc 2 ∷ negsuc 9223372036854775806 ∷ []) ∷ (negsuc 9223372036854775806 ∷ negsuc 9223372036854775807 ∷ pos 8 ∷ pos 2 ∷ pos 1 ∷ pos 0 ∷ negsuc 1 ∷ negsuc 9223372036854775805 ∷ []) ∷ (negsuc 9223372036854775804 ∷ negsuc 9223372036854775805 ∷ pos 10 ∷ pos 4 ∷ pos 3 ∷ pos 2 ∷ pos 0 ∷ negsuc 9223372036854775803 ∷ []) ∷ (negsuc 0 ∷ negsuc 1 ∷ negsuc 9223372036854775801 ∷ negsuc 9223372036854775807 ∷ pos 9223372036854775807 ∷ pos 9223372036854775806 ∷ pos 9223372036854775804 ∷ pos 0 ∷ []) ∷ []) ∷
    (Multiply, Int true Eight Little, longest, longest, (pos 0 ∷ negsuc 9223372036854775807 ∷ negsuc 9223372036854775807 ∷ negsuc 9223372036854775807 ∷ pos 0 ∷ negsuc 9223372036854775807 ∷ negsuc 9223372036854775807 ∷ negsuc 9223372036854775807 ∷ []) ∷ (negsuc 9223372036854775807 ∷ pos 1 ∷ pos 9223372036854775801 ∷ pos 9223372036854775807 ∷ pos 0 ∷ negsuc 9223372036854775806 ∷ negsuc 9223372036854775804 ∷ negsuc 0 ∷ []) ∷ (negsuc 9223372036854775807 ∷ pos 9223372036854775801 ∷ pos 49 ∷ pos 7 ∷ pos 0 ∷ negsuc 6 ∷ negsuc 20 ∷ negsuc 9223372036854775800 ∷ []) ∷ (negsuc 9223372036854775807 ∷ pos 9223372036854775807 ∷ pos 7 ∷ pos 1 ∷ pos 0 ∷ negsuc 0 ∷ negsuc 2 ∷ negsuc 9223372036854775806 ∷ []) ∷ (pos 0 ∷ pos 0 ∷ pos 0 ∷ pos 0 ∷ pos 0 ∷ pos 0 ∷ pos 0 ∷ pos 0 ∷ []) ∷ (negsuc 9223372036854775807 ∷ negsuc 9223372036854775806 ∷ negsuc 6 ∷ negsuc 0 ∷ pos 0 ∷ pos 1 ∷ pos 3 ∷ pos 9223372036854775807 ∷ []) ∷ (negsuc 9223372036854775807 ∷ negsuc 9223372036854775804 ∷ negsuc 20 ∷ negsuc 2 ∷ pos 0 ∷ pos 3 ∷ pos 9 ∷ pos 9223372036854775805 ∷ []) ∷ (negsuc 9223372036854775807 ∷ negsuc 0 ∷ negsuc 9223372036854775800 ∷ negsuc 9223372036854775806 ∷ pos 0 ∷ pos 9223372036854775807 ∷ pos 9223372036854775805 ∷ pos 1 ∷ []) ∷ []) ∷
    (FloorDivide, Int true Eight Little, longest, longest, (pos 1 ∷ pos 1 ∷ pos 1317624576693539401 ∷ negsuc 9223372036854775807 ∷ pos 0 ∷ negsuc 9223372036854775807 ∷ negsuc 3074457345618258602 ∷ negsuc 1 ∷ []) ∷ (pos 0 ∷ pos 1 ∷ pos 1317624576693539401 ∷ pos 9223372036854775807 ∷ pos 0 ∷ negsuc 9223372036854775806 ∷ negsuc 3074457345618258602 ∷ negsuc 0 ∷ []) ∷ (pos 0 ∷ pos 0 ∷ pos 1 ∷ pos 7 ∷ pos 0 ∷ negsuc 6 ∷ negsuc 2 ∷ negsuc 0 ∷ []) ∷ (pos 0 ∷ pos 0 ∷ pos 0 ∷ pos 1 ∷ pos 0 ∷ negsuc 0 ∷ negsuc 0 ∷ negsuc 0 ∷ []) ∷ (pos 0 ∷ pos 0 ∷ pos 0 ∷ pos 0 ∷ pos 0 ∷ pos 0 ∷ pos 0 ∷ pos 0 ∷ []) ∷ (negsuc 0 ∷ negsuc 0 ∷ negsuc 0 ∷ negsuc 0 ∷ pos 0 ∷ pos 1 ∷ pos 0 ∷ pos 0 ∷ []) ∷ (negsuc 0 ∷ negsuc 0 ∷ negsuc 0 ∷ negsuc 2 ∷ pos 0 ∷ pos 3 ∷ pos 1 ∷ pos 0 ∷ []) ∷ (negsuc 0 ∷ negsuc 0 ∷ negsuc 1317624576693539400 ∷ negsuc 9223372036854775806 ∷ pos 0 ∷ pos 9223372036854775807 ∷ pos 3074457345618258602 ∷ pos 1 ∷ []) ∷ []) ∷
    (Modulo, Int true Eight Little, longest, longest, (pos 0 ∷ negsuc 0 ∷ negsuc 0 ∷ pos 0 ∷ pos 0 ∷ pos 0 ∷ pos 1 ∷ pos 9223372036854775806 ∷ []) ∷ (negsuc 9223372036854775806 ∷ pos 0 ∷ pos 0 ∷ pos 0 ∷ pos 0 ∷ pos 0 ∷ pos 2 ∷ pos 0 ∷ []) ∷ (negsuc 6 ∷ negsuc 6 ∷ pos 0 ∷ pos 0 ∷ pos 0 ∷ pos 0 ∷ pos 2 ∷ pos 9223372036854775800 ∷ []) ∷ (negsuc 0 ∷ negsuc 0 ∷ negsuc 0 ∷ pos 0 ∷ pos 0 ∷ pos 0 ∷ pos 2 ∷ pos 9223372036854775806 ∷ []) ∷ (pos 0 ∷ pos 0 ∷ pos 0 ∷ pos 0 ∷ pos 0 ∷ pos 0 ∷ pos 0 ∷ pos 0 ∷ []) ∷ (negsuc 9223372036854775806 ∷ negsuc 9223372036854775805 ∷ negsuc 5 ∷ pos 0 ∷ pos 0 ∷ pos 0 ∷ pos 1 ∷ pos 1 ∷ []) ∷ (negsuc 9223372036854775804 ∷ negsuc 9223372036854775803 ∷ negsuc 3 ∷ pos 0 ∷ pos 0 ∷ pos 0 ∷ pos 0 ∷ pos 3 ∷ []) ∷ (negsuc 0 ∷ pos 0 ∷ pos 0 ∷ pos 0 ∷ pos 0 ∷ pos 0 ∷ pos 1 ∷ pos 0 ∷ []) ∷ []) ∷
    (And, Int true Eight Little, longest, longest, (negsuc 9223372036854775807 ∷ negsuc 9223372036854775807 ∷ negsuc 9223372036854775807 ∷ negsuc 9223372036854775807 ∷ pos 0 ∷ pos 0 ∷ pos 0 ∷ pos 0 ∷ []) ∷ (negsuc 9223372036854775807 ∷ negsuc 9223372036854775806 ∷ negsuc 9223372036854775806 ∷ negsuc 9223372036854775806 ∷ pos 0 ∷ pos 1 ∷ pos 1 ∷ pos 1 ∷ []) ∷ (negsuc 9223372036854775807 ∷ negsuc 9223372036854775806 ∷ negsuc 6 ∷ negsuc 6 ∷ pos 0 ∷ pos 1 ∷ pos 1 ∷ pos 9223372036854775801 ∷ []) ∷ (negsuc 9223372036854775807 ∷ negsuc 9223372036854775806 ∷ negsuc 6 ∷ negsuc 0 ∷ pos 0 ∷ pos 1 ∷ pos 3 ∷ pos 9223372036854775807 ∷ []) ∷ (pos 0 ∷ pos 0 ∷ pos 0 ∷ pos 0 ∷ pos 0 ∷ pos 0 ∷ pos 0 ∷ pos 0 ∷ []) ∷ (pos 0 ∷ pos 1 ∷ pos 1 ∷ pos 1 ∷ pos 0 ∷ pos 1 ∷ pos 1 ∷ pos 1 ∷ []) ∷ (pos 0 ∷ pos 1 ∷ pos 1 ∷ pos 3 ∷ pos 0 ∷ pos 1 ∷ pos 3 ∷ pos 3 ∷ []) ∷ (pos 0 ∷ pos 1 ∷ pos 9223372036854775801 ∷ pos 9223372036854775807 ∷ pos 0 ∷ pos 1 ∷ pos 3 ∷ pos 9223372036854775807 ∷ []) ∷ []) ∷
    (Or, Int true Eight Little, longest, longest, (negsuc 9223372036854775807 ∷ negsuc 9223372036854775806 ∷ negsuc 6 ∷ negsuc 0 ∷ negsuc 9223372036854775807 ∷ negsuc 9223372036854775806 ∷ negsuc 9223372036854775804 ∷ negsuc 0 ∷ []) ∷ (negsuc 9223372036854775806 ∷ negsuc 9223372036854775806 ∷ negsuc 6 ∷ negsuc 0 ∷ negsuc 9223372036854775806 ∷ negsuc 9223372036854775806 ∷ negsuc 9223372036854775804 ∷ negsuc 0 ∷ []) ∷ (negsuc 6 ∷ negsuc 6 ∷ negsuc 6 ∷ negsuc 0 ∷ negsuc 6 ∷ negsuc 6 ∷ negsuc 4 ∷ negsuc 0 ∷ []) ∷ (negsuc 0 ∷ negsuc 0 ∷ negsuc 0 ∷ negsuc 0 ∷ negsuc 0 ∷ negsuc 0 ∷ negsuc 0 ∷ negsuc 0 ∷ []) ∷ (negsuc 9223372036854775807 ∷ negsuc 9223372036854775806 ∷ negsuc 6 ∷ negsuc 0 ∷ pos 0 ∷ pos 1 ∷ pos 3 ∷ pos 9223372036854775807 ∷ []) ∷ (negsuc 9223372036854775806 ∷ negsuc 9223372036854775806 ∷ negsuc 6 ∷ negsuc 0 ∷ pos 1 ∷ pos 1 ∷ pos 3 ∷ pos 9223372036854775807 ∷ []) ∷ (negsuc 9223372036854775804 ∷ negsuc 9223372036854775804 ∷ negsuc 4 ∷ negsuc 0 ∷ pos 3 ∷ pos 3 ∷ pos 3 ∷ pos 9223372036854775807 ∷ []) ∷ (negsuc 0 ∷ negsuc 0 ∷ negsuc 0 ∷ negsuc 0 ∷ pos 9223372036854775807 ∷ pos 9223372036854775807 ∷ pos 9223372036854775807 ∷ pos 9223372036854775807 ∷ []) ∷ []) ∷
    (Xor, Int true Eight Little, longest, longest, (pos 0 ∷ pos 1 ∷ pos 9223372036854775801 ∷ pos 9223372036854775807 ∷ negsuc 9223372036854775807 ∷ negsuc 9223372036854775806 ∷ negsuc 9223372036854775804 ∷ negsuc 0 ∷ []) ∷ (pos 1 ∷ pos 0 ∷ pos 9223372036854775800 ∷ pos 9223372036854775806 ∷ negsuc 9223372036854775806 ∷ negsuc 9223372036854775807 ∷ negsuc 9223372036854775805 ∷ negsuc 1 ∷ []) ∷ (pos 9223372036854775801 ∷ pos 9223372036854775800 ∷ pos 0 ∷ pos 6 ∷ negsuc 6 ∷ negsuc 7 ∷ negsuc 5 ∷ negsuc 9223372036854775801 ∷ []) ∷ (pos 9223372036854775807 ∷ pos 9223372036854775806 ∷ pos 6 ∷ pos 0 ∷ negsuc 0 ∷ negsuc 1 ∷ negsuc 3 ∷ negsuc 9223372036854775807 ∷ []) ∷ (negsuc 9223372036854775807 ∷ negsuc 9223372036854775806 ∷ negsuc 6 ∷ negsuc 0 ∷ pos 0 ∷ pos 1 ∷ pos 3 ∷ pos 9223372036854775807 ∷ []) ∷ (negsuc 9223372036854775806 ∷ negsuc 9223372036854775807 ∷ negsuc 7 ∷ negsuc 1 ∷ pos 1 ∷ pos 0 ∷ pos 2 ∷ pos 9223372036854775806 ∷ []) ∷ (negsuc 9223372036854775804 ∷ negsuc 9223372036854775805 ∷ negsuc 5 ∷ negsuc 3 ∷ pos 3 ∷ pos 2 ∷ pos 0 ∷ pos 9223372036854775804 ∷ []) ∷ (negsuc 0 ∷ negsuc 1 ∷ negsuc 9223372036854775801 ∷ negsuc 9223372036854775807 ∷ pos 9223372036854775807 ∷ pos 9223372036854775806 ∷ pos 9223372036854775804 ∷ pos 0 ∷ []) ∷ []) ∷
    (ShiftLeft, Int true Eight Little, longest, negsuc 9223372036854775807 ∷ negsuc 0 ∷ pos 0 ∷ pos 1 ∷ pos 63 ∷ pos 64 ∷ pos 9223372036854775807 ∷ [], (pos 0 ∷ pos 0 ∷ negsuc 9223372036854775807 ∷ pos 0 ∷ pos 0 ∷ pos 0 ∷ pos 0 ∷ []) ∷ (pos 0 ∷ pos 0 ∷ negsuc 9223372036854775806 ∷ pos 2 ∷ negsuc 9223372036854775807 ∷ pos 0 ∷ pos 0 ∷ []) ∷ (pos 0 ∷ pos 0 ∷ negsuc 6 ∷ negsuc 13 ∷ negsuc 9223372036854775807 ∷ pos 0 ∷ pos 0 ∷ []) ∷ (pos 0 ∷ pos 0 ∷ negsuc 0 ∷ negsuc 1 ∷ negsuc 9223372036854775807 ∷ pos 0 ∷ pos 0 ∷ []) ∷ (pos 0 ∷ pos 0 ∷ pos 0 ∷ pos 0 ∷ pos 0 ∷ pos 0 ∷ pos 0 ∷ []) ∷ (pos 0 ∷ pos 0 ∷ pos 1 ∷ pos 2 ∷ negsuc 9223372036854775807 ∷ pos 0 ∷ pos 0 ∷ []) ∷ (pos 0 ∷ pos 0 ∷ pos 3 ∷ pos 6 ∷ negsuc 9223372036854775807 ∷ pos 0 ∷ pos 0 ∷ []) ∷ (pos 0 ∷ pos 0 ∷ pos 9223372036854775807 ∷ negsuc 1 ∷ negsuc 9223372036854775807 ∷ pos 0 ∷ pos 0 ∷ []) ∷ []) ∷
    (ShiftRight, Int true Eight Little, longest, negsuc 9223372036854775807 ∷ negsuc 0 ∷ pos 0 ∷ pos 1 ∷ pos 63 ∷ pos 64 ∷ pos 9223372036854775807 ∷ [], (negsuc 0 ∷ negsuc 0 ∷ negsuc 9223372036854775807 ∷ negsuc 4611686018427387903 ∷ negsuc 0 ∷ negsuc 0 ∷ negsuc 0 ∷ []) ∷ (negsuc 0 ∷ negsuc 0 ∷ negsuc 9223372036854775806 ∷ negsuc 4611686018427387903 ∷ negsuc 0 ∷ negsuc 0 ∷ negsuc 0 ∷ []) ∷ (negsuc 0 ∷ negsuc 0 ∷ negsuc 6 ∷ negsuc 3 ∷ negsuc 0 ∷ negsuc 0 ∷ negsuc 0 ∷ []) ∷ (negsuc 0 ∷ negsuc 0 ∷ negsuc 0 ∷ negsuc 0 ∷ negsuc 0 ∷ negsuc 0 ∷ negsuc 0 ∷ []) ∷ (pos 0 ∷ pos 0 ∷ pos 0 ∷ pos 0 ∷ pos 0 ∷ pos 0 ∷ pos 0 ∷ []) ∷ (pos 0 ∷ pos 0 ∷ pos 1 ∷ pos 0 ∷ pos 0 ∷ pos 0 ∷ pos 0 ∷ []) ∷ (pos 0 ∷ pos 0 ∷ pos 3 ∷ pos 1 ∷ pos 0 ∷ pos 0 ∷ pos 0 ∷ []) ∷ (pos 0 ∷ pos 0 ∷ pos 9223372036854775807 ∷ pos 4611686018427387903 ∷ pos 0 ∷ pos 0 ∷ pos 0 ∷ []) ∷ []) ∷
    (Add, Int false Eight Little, greatest, greatest, (pos 0 ∷ pos 1 ∷ pos 3 ∷ pos 9223372036854775807 ∷ pos 9223372036854775808 ∷ pos 18446744073709551615 ∷ []) ∷ (pos 1 ∷ pos 2 ∷ pos 4 ∷ pos 9223372036854775808 ∷ pos 9223372036854775809 ∷ pos 0 ∷ []) ∷ (pos 3 ∷ pos 4 ∷ pos 6 ∷ pos 9223372036854775810 ∷ pos 9223372036854775811 ∷ pos 2 ∷ []) ∷ (pos 9223372036854775807 ∷ pos 9223372036854775808 ∷ pos 9223372036854775810 ∷ pos 18446744073709551614 ∷ pos 18446744073709551615 ∷ pos 9223372036854775806 ∷ []) ∷ (pos 9223372036854775808 ∷ pos 9223372036854775809 ∷ pos 9223372036854775811 ∷ pos 18446744073709551615 ∷ pos 0 ∷ pos 9223372036854775807 ∷ []) ∷ (pos 18446744073709551615 ∷ pos 0 ∷ pos 2 ∷ pos 9223372036854775806 ∷ pos 9223372036854775807 ∷ pos 18446744073709551614 ∷ []) ∷ []) ∷
    (Subtract, Int false Eight Little, greatest, greatest, (pos 0 ∷ pos 18446744073709551615 ∷ pos 18446744073709551613 ∷ pos 9223372036854775809 ∷ pos 9223372036854775808 ∷ pos 1 ∷ []) ∷ (pos 1 ∷ pos 0 ∷ pos 18446744073709551614 ∷ pos 9223372036854775810 ∷ pos 9223372036854775809 ∷ pos 2 ∷ []) ∷ (pos 3 ∷ pos 2 ∷ pos 0 ∷ pos 9223372036854775812 ∷ pos 9223372036854775811 ∷ pos 4 ∷ []) ∷ (pos 9223372036854775807 ∷ pos 9223372036854775806 ∷ pos 9223372036854775804 ∷ pos 0 ∷ pos 18446744073709551615 ∷ pos 9223372036854775808 ∷ []) ∷ (pos 9223372036854775808 ∷ pos 9223372036854775807 ∷ pos 9223372036854775805 ∷ pos 1 ∷ pos 0 ∷ pos 9223372036854775809 ∷ []) ∷ (pos 18446744073709551615 ∷ pos 18446744073709551614 ∷ pos 18446744073709551612 ∷ pos 9223372036854775808 ∷ pos 9223372036854775807 ∷ pos 0 ∷ []) ∷ []) ∷
    (Multiply, Int false Eight Little, greatest, greatest, (pos 0 ∷ pos 0 ∷ pos 0 ∷ pos 0 ∷ pos 0 ∷ pos 0 ∷ []) ∷ (pos 0 ∷ pos 1 ∷ pos 3 ∷ pos 9223372036854775807 ∷ pos 9223372036854775808 ∷ pos 18446744073709551615 ∷ []) ∷ (pos 0 ∷ pos 3 ∷ pos 9 ∷ pos 9223372036854775805 ∷ pos 9223372036854775808 ∷ pos 18446744073709551613 ∷ []) ∷ (pos 0 ∷ pos 9223372036854775807 ∷ pos 9223372036854775805 ∷ pos 1 ∷ pos 9223372036854775808 ∷ pos 9223372036854775809 ∷ []) ∷ (pos 0 ∷ pos 9223372036854775808 ∷ pos 9223372036854775808 ∷ pos 9223372036854775808 ∷ pos 0 ∷ pos 9223372036854775808 ∷ []) ∷ (pos 0 ∷ pos 18446744073709551615 ∷ pos 18446744073709551613 ∷ pos 9223372036854775809 ∷ pos 9223372036854775808 ∷ pos 1 ∷ []) ∷ []) ∷
    (FloorDivide, Int false Eight Little, greatest, greatest, (pos 0 ∷ pos 0 ∷ pos 0 ∷ pos 0 ∷ pos 0 ∷ pos 0 ∷ []) ∷ (pos 0 ∷ pos 1 ∷ pos 0 ∷ pos 0 ∷ pos 0 ∷ pos 0 ∷ []) ∷ (pos 0 ∷ pos 3 ∷ pos 1 ∷ pos 0 ∷ pos 0 ∷ pos 0 ∷ []) ∷ (pos 0 ∷ pos 9223372036854775807 ∷ pos 3074457345618258602 ∷ pos 1 ∷ pos 0 ∷ pos 0 ∷ []) ∷ (pos 0 ∷ pos 9223372036854775808 ∷ pos 3074457345618258602 ∷ pos 1 ∷ pos 1 ∷ pos 0 ∷ []) ∷ (pos 0 ∷ pos 18446744073709551615 ∷ pos 6148914691236517205 ∷ pos 2 ∷ pos 1 ∷ pos 1 ∷ []) ∷ []) ∷
    (Modulo, Int false Eight Little, greatest, greatest, (pos 0 ∷ pos 0 ∷ pos 0 ∷ pos 0 ∷ pos 0 ∷ pos 0 ∷ []) ∷ (pos 0 ∷ pos 0 ∷ pos 1 ∷ pos 1 ∷ pos 1 ∷ pos 1 ∷ []) ∷ (pos 0 ∷ pos 0 ∷ pos 0 ∷ pos 3 ∷ pos 3 ∷ pos 3 ∷ []) ∷ (pos 0 ∷ pos 0 ∷ pos 1 ∷ pos 0 ∷ pos 9223372036854775807 ∷ pos 9223372036854775807 ∷ []) ∷ (pos 0 ∷ pos 0 ∷ pos 2 ∷ pos 1 ∷ pos 0 ∷ pos 9223372036854775808 ∷ []) ∷ (pos 0 ∷ pos 0 ∷ pos 0 ∷ pos 1 ∷ pos 9223372036854775807 ∷ pos 0 ∷ []) ∷ []) ∷
    (And, Int false Eight Little, greatest, greatest, (pos 0 ∷ pos 0 ∷ pos 0 ∷ pos 0 ∷ pos 0 ∷ pos 0 ∷ []) ∷ (pos 0 ∷ pos 1 ∷ pos 1 ∷ pos 1 ∷ pos 0 ∷ pos 1 ∷ []) ∷ (pos 0 ∷ pos 1 ∷ pos 3 ∷ pos 3 ∷ pos 0 ∷ pos 3 ∷ []) ∷ (pos 0 ∷ pos 1 ∷ pos 3 ∷ pos 9223372036854775807 ∷ pos 0 ∷ pos 9223372036854775807 ∷ []) ∷ (pos 0 ∷ pos 0 ∷ pos 0 ∷ pos 0 ∷ pos 9223372036854775808 ∷ pos 9223372036854775808 ∷ []) ∷ (pos 0 ∷ pos 1 ∷ pos 3 ∷ pos 9223372036854775807 ∷ pos 9223372036854775808 ∷ pos 18446744073709551615 ∷ []) ∷ []) ∷
    (Or, Int false Eight Little, greatest, greatest, (pos 0 ∷ pos 1 ∷ pos 3 ∷ pos 9223372036854775807 ∷ pos 9223372036854775808 ∷ pos 18446744073709551615 ∷ []) ∷ (pos 1 ∷ pos 1 ∷ pos 3 ∷ pos 9223372036854775807 ∷ pos 9223372036854775809 ∷ pos 18446744073709551615 ∷ []) ∷ (pos 3 ∷ pos 3 ∷ pos 3 ∷ pos 9223372036854775807 ∷ pos 9223372036854775811 ∷ pos 18446744073709551615 ∷ []) ∷ (pos 9223372036854775807 ∷ pos 9223372036854775807 ∷ pos 9223372036854775807 ∷ pos 9223372036854775807 ∷ pos 18446744073709551615 ∷ pos 18446744073709551615 ∷ []) ∷ (pos 9223372036854775808 ∷ pos 9223372036854775809 ∷ pos 9223372036854775811 ∷ pos 18446744073709551615 ∷ pos 9223372036854775808 ∷ pos 18446744073709551615 ∷ []) ∷ (pos 18446744073709551615 ∷ pos 18446744073709551615 ∷ pos 18446744073709551615 ∷ pos 18446744073709551615 ∷ pos 18446744073709551615 ∷ pos 18446744073709551615 ∷ []) ∷ []) ∷
    (Xor, Int false Eight Little, greatest, greatest, (pos 0 ∷ pos 1 ∷ pos 3 ∷ pos 9223372036854775807 ∷ pos 9223372036854775808 ∷ pos 18446744073709551615 ∷ []) ∷ (pos 1 ∷ pos 0 ∷ pos 2 ∷ pos 9223372036854775806 ∷ pos 9223372036854775809 ∷ pos 18446744073709551614 ∷ []) ∷ (pos 3 ∷ pos 2 ∷ pos 0 ∷ pos 9223372036854775804 ∷ pos 9223372036854775811 ∷ pos 18446744073709551612 ∷ []) ∷ (pos 9223372036854775807 ∷ pos 9223372036854775806 ∷ pos 9223372036854775804 ∷ pos 0 ∷ pos 18446744073709551615 ∷ pos 9223372036854775808 ∷ []) ∷ (pos 9223372036854775808 ∷ pos 9223372036854775809 ∷ pos 9223372036854775811 ∷ pos 18446744073709551615 ∷ pos 0 ∷ pos 9223372036854775807 ∷ []) ∷ (pos 18446744073709551615 ∷ pos 18446744073709551614 ∷ pos 18446744073709551612 ∷ pos 9223372036854775808 ∷ pos 9223372036854775807 ∷ pos 0 ∷ []) ∷ []) ∷
    (ShiftLeft, Int false Eight Little, greatest, pos 0 ∷ pos 1 ∷ pos 63 ∷ pos 64 ∷ pos 18446744073709551615 ∷ [], (pos 0 ∷ pos 0 ∷ pos 0 ∷ pos 0 ∷ pos 0 ∷ []) ∷ (pos 1 ∷ pos 2 ∷ pos 9223372036854775808 ∷ pos 0 ∷ pos 0 ∷ []) ∷ (pos 3 ∷ pos 6 ∷ pos 9223372036854775808 ∷ pos 0 ∷ pos 0 ∷ []) ∷ (pos 9223372036854775807 ∷ pos 18446744073709551614 ∷ pos 9223372036854775808 ∷ pos 0 ∷ pos 0 ∷ []) ∷ (pos 9223372036854775808 ∷ pos 0 ∷ pos 0 ∷ pos 0 ∷ pos 0 ∷ []) ∷ (pos 18446744073709551615 ∷ pos 18446744073709551614 ∷ pos 9223372036854775808 ∷ pos 0 ∷ pos 0 ∷ []) ∷ []) ∷
    (ShiftRight, Int false Eight Little, greatest, pos 0 ∷ pos 1 ∷ pos 63 ∷ pos 64 ∷ pos 18446744073709551615 ∷ [], (pos 0 ∷ pos 0 ∷ pos 0 ∷ pos 0 ∷ pos 0 ∷ []) ∷ (pos 1 ∷ pos 0 ∷ pos 0 ∷ pos 0 ∷ pos 0 ∷ []) ∷ (pos 3 ∷ pos 1 ∷ pos 0 ∷ pos 0 ∷ pos 0 ∷ []) ∷ (pos 9223372036854775807 ∷ pos 4611686018427387903 ∷ pos 0 ∷ pos 0 ∷ pos 0 ∷ []) ∷ (pos 9223372036854775808 ∷ pos 4611686018427387904 ∷ pos 1 ∷ pos 0 ∷ pos 0 ∷ []) ∷ (pos 18446744073709551615 ∷ pos 9223372036854775807 ∷ pos 1 ∷ pos 0 ∷ pos 0 ∷ []) ∷ []) ∷
    (Add, BoolScalar, bools, bools, (pos 0 ∷ pos 1 ∷ []) ∷ (pos 1 ∷ pos 1 ∷ []) ∷ []) ∷
    (Multiply, BoolScalar, bools, bools, (pos 0 ∷ pos 0 ∷ []) ∷ (pos 0 ∷ pos 1 ∷ []) ∷ []) ∷
    (And, BoolScalar, bools, bools, (pos 0 ∷ pos 0 ∷ []) ∷ (pos 0 ∷ pos 1 ∷ []) ∷ []) ∷
    (Or, BoolScalar, bools, bools, (pos 0 ∷ pos 1 ∷ []) ∷ (pos 1 ∷ pos 1 ∷ []) ∷ []) ∷
    (Xor, BoolScalar, bools, bools, (pos 0 ∷ pos 1 ∷ []) ∷ (pos 1 ∷ pos 0 ∷ []) ∷ []) ∷
    (FloorDivide, Int true Four Little, negsuc 6 ∷ pos 7 ∷ [], pos 2 ∷ [], (negsuc 3 ∷ []) ∷ (pos 3 ∷ []) ∷ []) ∷  -- np.int32([-7, 7]) // 2
    (Modulo, Int true Four Little, negsuc 6 ∷ pos 7 ∷ [], negsuc 2 ∷ [], (negsuc 0 ∷ []) ∷ (negsuc 1 ∷ []) ∷ []) ∷  -- np.int32([-7, 7]) % -3
    (FloorDivide, Int true Four Little, negsuc 6 ∷ pos 7 ∷ [], pos 0 ∷ [], (pos 0 ∷ []) ∷ (pos 0 ∷ []) ∷ []) ∷  -- np.int32([-7, 7]) // 0
    (ShiftRight, Int true Four Little, negsuc 6 ∷ pos 7 ∷ [], pos 40 ∷ [], (negsuc 0 ∷ []) ∷ (pos 0 ∷ []) ∷ []) ∷  -- np.int32([-7, 7]) >> 40
    []

tables_hold : map (λ row. table row.0 row.1 row.2 row.3) tables ≡ map (λ row. row.4) tables
tables_hold = refl

-- np.negative and np.invert: an operation, a type, numbers, and the results
abbrev negated : List (UnOp × Scalar × List ℤ × List ℤ)
negated =
    (Negate, Byte true, signed, negsuc 127 ∷ pos 127 ∷ pos 7 ∷ pos 1 ∷ pos 0 ∷ negsuc 0 ∷ negsuc 1 ∷ negsuc 6 ∷ negsuc 126 ∷ []) ∷
    (Invert, Byte true, signed, pos 127 ∷ pos 126 ∷ pos 6 ∷ pos 0 ∷ negsuc 0 ∷ negsuc 1 ∷ negsuc 2 ∷ negsuc 7 ∷ negsuc 127 ∷ []) ∷
    (Negate, Int false Eight Little, greatest, pos 0 ∷ pos 18446744073709551615 ∷ pos 18446744073709551613 ∷ pos 9223372036854775809 ∷ pos 9223372036854775808 ∷ pos 1 ∷ []) ∷
    (Invert, Int false Eight Little, greatest, pos 18446744073709551615 ∷ pos 18446744073709551614 ∷ pos 18446744073709551612 ∷ pos 9223372036854775808 ∷ pos 9223372036854775807 ∷ pos 0 ∷ []) ∷
    (Invert, BoolScalar, bools, pos 1 ∷ pos 0 ∷ []) ∷
    []

negated_rows : map (λ row. map (unary row.0 row.1) row.2) negated ≡ map (λ row. row.3) negated
negated_rows = refl

abbrev words : List Comparison
words = Equal ∷ NotEqual ∷ Less ∷ LessOrEqual ∷ Greater ∷ GreaterOrEqual ∷ []

-- comparisons by value: two values, and the answers of these words
abbrev pairs : List (LeafValue × LeafValue × List Bool)
pairs =
    (number (negsuc 0), number (pos 18446744073709551615), false ∷ true ∷ true ∷ true ∷ false ∷ false ∷ []) ∷
    (number (negsuc 4), number (negsuc 4), true ∷ false ∷ false ∷ true ∷ false ∷ true ∷ []) ∷
    (number (pos 200), number (negsuc 55), false ∷ true ∷ false ∷ false ∷ true ∷ true ∷ []) ∷
    (text (97 ∷ 98 ∷ []), text (97 ∷ 98 ∷ 99 ∷ []), false ∷ true ∷ true ∷ true ∷ false ∷ false ∷ []) ∷
    (text (97 ∷ 0 ∷ 99 ∷ []), text (97 ∷ 0 ∷ 99 ∷ []), true ∷ false ∷ false ∷ true ∷ false ∷ true ∷ []) ∷
    (text (255 ∷ []), text (97 ∷ 98 ∷ []), false ∷ true ∷ false ∷ false ∷ true ∷ true ∷ []) ∷
    (text [], text (97 ∷ []), false ∷ true ∷ true ∷ true ∷ false ∷ false ∷ []) ∷
    (text (97 ∷ 98 ∷ 100 ∷ []), text (97 ∷ 98 ∷ 99 ∷ 122 ∷ []), false ∷ true ∷ false ∷ false ∷ true ∷ true ∷ []) ∷
    []

compared_pairs : map (λ row. map (λ word. compared word row.0 row.1) words) pairs ≡ map (λ row. row.2) pairs
compared_pairs = refl
