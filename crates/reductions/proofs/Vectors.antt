-- Test vectors: reductions as in NumPy.
use Rattle.std.proofs.Common.{◌≡◌, ℕ, ℤ, pos, negsuc, Bool, true, false, List, [], ◌∷◌, map, Option, Some, None, Result, Ok, Err, refl}
use Rattle.reductions.proofs.Words.{Red, Refusal, TooLarge, BadAxis, NotForThisKind, EmptyReduction, Little, Big, Two, Four, Eight, Scalar, Byte, Int, Bytes, number, shape_after, shape_of, Sum, Product, Minimum, Maximum, Any, ArgMin, ArgMax, ScalarDescr, BoolScalar, lists, reduced, reduced_item, ReducedType, reduced_type}
use Rattle.reductions.specs.Words.{All}

abbrev int : Scalar
int = Int true Four Little

abbrev long : Scalar
long = Int true Eight Little

abbrev unsigned : Scalar
unsigned = Int false Eight Little

-- ---- lists

-- a shape, an axis, the items, and the lists that are reduced
abbrev list_rows : List (List ℕ × Option ℕ × List ℕ × List (List ℕ))
list_rows =
    -- `numpy.arange(6).reshape(2, 3)`: all items, down the columns, along the rows
    (2 ∷ 3 ∷ [], None, 0 ∷ 1 ∷ 2 ∷ 3 ∷ 4 ∷ 5 ∷ [], (0 ∷ 1 ∷ 2 ∷ 3 ∷ 4 ∷ 5 ∷ []) ∷ []) ∷
    (2 ∷ 3 ∷ [], Some 0, 0 ∷ 1 ∷ 2 ∷ 3 ∷ 4 ∷ 5 ∷ [], (0 ∷ 3 ∷ []) ∷ (1 ∷ 4 ∷ []) ∷ (2 ∷ 5 ∷ []) ∷ []) ∷
    (2 ∷ 3 ∷ [], Some 1, 0 ∷ 1 ∷ 2 ∷ 3 ∷ 4 ∷ 5 ∷ [], (0 ∷ 1 ∷ 2 ∷ []) ∷ (3 ∷ 4 ∷ 5 ∷ []) ∷ []) ∷
    -- along the middle axis of `numpy.arange(8).reshape(2, 2, 2)`
    (2 ∷ 2 ∷ 2 ∷ [], Some 1, 0 ∷ 1 ∷ 2 ∷ 3 ∷ 4 ∷ 5 ∷ 6 ∷ 7 ∷ [], (0 ∷ 2 ∷ []) ∷ (1 ∷ 3 ∷ []) ∷ (4 ∷ 6 ∷ []) ∷ (5 ∷ 7 ∷ []) ∷ []) ∷
    -- `numpy.zeros((0, 3))` along each axis
    (0 ∷ 3 ∷ [], Some 0, [], [] ∷ [] ∷ [] ∷ []) ∷
    (0 ∷ 3 ∷ [], Some 1, [], []) ∷
    []

lists_hold : map (λ row. lists row.0 row.1 row.2) list_rows ≡ map (λ row. row.3) list_rows
lists_hold = refl

-- ---- values

-- a reduction, the type of its result, numbers, and the result
abbrev values : List (Red × Scalar × List ℤ × ℤ)
values =
    (Sum, long, pos 1 ∷ pos 4 ∷ [], pos 5) ∷
    (Sum, long, pos 9223372036854775807 ∷ pos 1 ∷ [], negsuc 9223372036854775807) ∷  -- numpy.array([2 ** 63 - 1, 1]).sum()
    (Sum, unsigned, pos 18446744073709551615 ∷ pos 2 ∷ [], pos 1) ∷  -- numpy.array([2 ** 64 - 1, 2], 'u8').sum()
    (Product, long, negsuc 2 ∷ pos 5 ∷ pos 7 ∷ [], negsuc 104) ∷  -- numpy.array([-3, 5, 7]).prod()
    (Product, long, pos 4611686018427387904 ∷ pos 3 ∷ [], negsuc 4611686018427387903) ∷  -- numpy.array([2 ** 62, 3]).prod()
    -- `numpy.array([])` of integers and bools
    (Sum, long, [], pos 0) ∷
    (Product, long, [], pos 1) ∷
    (Any, BoolScalar, [], pos 0) ∷
    (All, BoolScalar, [], pos 1) ∷
    -- `numpy.array([3, -7, 5])`
    (Minimum, int, pos 3 ∷ negsuc 6 ∷ pos 5 ∷ [], negsuc 6) ∷
    (Maximum, int, pos 3 ∷ negsuc 6 ∷ pos 5 ∷ [], pos 5) ∷
    (ArgMin, long, pos 3 ∷ negsuc 6 ∷ pos 5 ∷ [], pos 1) ∷
    (ArgMax, long, pos 3 ∷ negsuc 6 ∷ pos 5 ∷ [], pos 2) ∷
    -- the first of equal items
    (ArgMax, long, pos 1 ∷ pos 4 ∷ pos 0 ∷ pos 4 ∷ pos 0 ∷ [], pos 1) ∷
    (ArgMin, long, pos 1 ∷ pos 4 ∷ pos 0 ∷ pos 4 ∷ pos 0 ∷ [], pos 2) ∷
    -- `numpy.array([0, -2])`, and `numpy.array([3, -2])`
    (Any, BoolScalar, pos 0 ∷ negsuc 1 ∷ [], pos 1) ∷
    (All, BoolScalar, pos 0 ∷ negsuc 1 ∷ [], pos 0) ∷
    (All, BoolScalar, pos 3 ∷ negsuc 1 ∷ [], pos 1) ∷
    []

values_hold : map (λ row. reduced row.0 row.1 row.2) values ≡ map (λ row. row.3) values
values_hold = refl

-- `numpy.full(2, 200, 'u1').sum()`
wide_sum : reduced_item Sum (ScalarDescr unsigned) ((number (pos 200) ∷ []) ∷ (number (pos 200) ∷ []) ∷ []) ≡ number (pos 400) ∷ []
wide_sum = refl

-- ---- types and shapes

abbrev typed : Scalar → List ℕ → Result ReducedType Refusal
typed scalar shape = Ok (record { descr = ScalarDescr scalar; shape = shape })

-- a reduction, a type, a shape, an axis, whether the axes stay, and the result. Of two refusals the first one is reported.
abbrev types : List (Red × Scalar × List ℕ × Option ℤ × Bool × Result ReducedType Refusal)
types =
    -- `numpy.zeros((2, 3), 'i4')`
    (Sum, int, 2 ∷ 3 ∷ [], Some (pos 0), false, typed long (3 ∷ [])) ∷
    (Maximum, int, 2 ∷ 3 ∷ [], Some (pos 1), true, typed int (2 ∷ 1 ∷ [])) ∷
    (ArgMax, int, 2 ∷ 3 ∷ [], None, false, typed long []) ∷
    (Sum, int, 2 ∷ 3 ∷ [], Some (negsuc 0), false, typed long (2 ∷ [])) ∷
    (Minimum, int, 2 ∷ 3 ∷ [], None, true, typed int (1 ∷ 1 ∷ [])) ∷
    -- `numpy.zeros(2)` of other types
    (Sum, Byte false, 2 ∷ [], None, false, typed unsigned []) ∷
    (Sum, BoolScalar, 2 ∷ [], None, false, typed long []) ∷
    (Maximum, Int true Two Big, 2 ∷ [], None, false, typed (Int true Two Little) []) ∷
    (Minimum, BoolScalar, 2 ∷ [], None, false, typed BoolScalar []) ∷
    (All, unsigned, 2 ∷ [], None, false, typed BoolScalar []) ∷
    -- byte strings, even along an axis that does not exist
    (Any, Bytes 3, 2 ∷ [], Some (pos 5), false, Err NotForThisKind) ∷
    -- a bad axis, also of an array without axes and of an array without items
    (Sum, int, 2 ∷ 3 ∷ [], Some (pos 2), false, Err BadAxis) ∷
    (Sum, int, 2 ∷ 3 ∷ [], Some (negsuc 2), false, Err BadAxis) ∷
    (Maximum, int, [], Some (pos 0), false, Err BadAxis) ∷
    (Maximum, int, 0 ∷ [], Some (pos 1), false, Err BadAxis) ∷
    -- arrays without items
    (Maximum, int, 0 ∷ [], None, false, Err EmptyReduction) ∷
    (ArgMin, int, 0 ∷ 3 ∷ [], Some (pos 0), true, Err EmptyReduction) ∷
    (Maximum, int, 0 ∷ 3 ∷ [], Some (pos 1), false, typed int (0 ∷ [])) ∷  -- the result has no items
    (Sum, int, 0 ∷ 3 ∷ [], Some (pos 0), false, typed long (3 ∷ [])) ∷
    -- more than 2^24 items, each the reduction of an empty list
    (Sum, int, 0 ∷ 16777216 ∷ 16777216 ∷ [], Some (pos 0), false, Err TooLarge) ∷
    (Maximum, int, 0 ∷ 16777216 ∷ 16777216 ∷ [], Some (pos 0), false, Err EmptyReduction) ∷
    []

types_hold : map (λ row. reduced_type row.0 (ScalarDescr row.1) row.2 row.3 row.4) types ≡ map (λ row. row.5) types
unfolding reduced_type shape_after shape_of
types_hold = refl
