-- Test vectors: index lists with arrays, on items that are numbered in C order. Each selects what NumPy selects, and
-- the refusals come in the stated order.
use Rattle.std.proofs.Common.{◌≡◌, ℕ, ℤ, pos, negsuc, true, Some, None, List, [], ◌∷◌, map, Result, Ok, Err, replicate, refl}
use Rattle.fancy_index.proofs.Words.{range_with_len, Refusal, TooManyAxes, TooLarge, NotAnIndexType, TooManyIndices, MaskLengths, ZeroStep, IndexOutOfRange, IndexShapes, Byte, Bytes, ◌>>=◌, stepped, IndexItem, Integer, Slice, Ellipsis, Array, count, shape_of, slice_indices, New, view_through, common_of_two, ScalarDescr, BoolScalar, IndexArray, Axis, Part, Points, indexed, parts_view}
use Rattle.fancy_index.specs.Words.{NewAxis}

-- arrays of numbers, of bools and of byte strings in an index list
abbrev numbers : List ℕ → List ℤ → IndexItem IndexArray
numbers shape values = Array (record { descr = ScalarDescr (Byte true); shape = shape; numbers = values })

abbrev mask : List ℕ → List ℤ → IndexItem IndexArray
mask shape values = Array (record { descr = ScalarDescr BoolScalar; shape = shape; numbers = values })

abbrev bytes : List ℕ → IndexItem IndexArray
bytes shape = Array (record { descr = ScalarDescr (Bytes 2); shape = shape; numbers = [] })

abbrev whole : IndexItem IndexArray
whole = Slice None None None

-- the shape of the result, and the numbers of its items
abbrev answer : List ℕ → List (IndexItem IndexArray) → Result (List ℕ × List ℕ) Refusal
answer shape items = indexed shape items >>= (λ v. Ok (v.shape, view_through (range_with_len 0 (count shape)) shape v.shape v.leads))

-- a shape, an index list, and the answer
abbrev lists : List (List ℕ × List (IndexItem IndexArray) × Result (List ℕ × List ℕ) Refusal)
lists =
    (2 ∷ 3 ∷ 4 ∷ [], numbers (2 ∷ []) (pos 1 ∷ pos 1 ∷ []) ∷ whole ∷ numbers (2 ∷ []) (pos 2 ∷ pos 2 ∷ []) ∷ [], Ok (2 ∷ 3 ∷ [], 14 ∷ 18 ∷ 22 ∷ 14 ∷ 18 ∷ 22 ∷ [])) ∷
    (2 ∷ 3 ∷ 4 ∷ [], whole ∷ numbers (2 ∷ []) (pos 1 ∷ pos 1 ∷ []) ∷ numbers (2 ∷ []) (pos 2 ∷ pos 2 ∷ []) ∷ [], Ok (2 ∷ 2 ∷ [], 6 ∷ 6 ∷ 18 ∷ 18 ∷ [])) ∷
    (2 ∷ 3 ∷ 4 ∷ [], whole ∷ numbers (2 ∷ []) (pos 1 ∷ pos 1 ∷ []) ∷ Ellipsis ∷ numbers (2 ∷ []) (pos 2 ∷ pos 2 ∷ []) ∷ [], Ok (2 ∷ 2 ∷ [], 6 ∷ 18 ∷ 6 ∷ 18 ∷ [])) ∷
    (2 ∷ 3 ∷ 4 ∷ 2 ∷ [], whole ∷ numbers (2 ∷ []) (pos 1 ∷ pos 1 ∷ []) ∷ whole ∷ numbers (2 ∷ []) (pos 1 ∷ pos 0 ∷ []) ∷ [], Ok (2 ∷ 2 ∷ 4 ∷ [], 9 ∷ 11 ∷ 13 ∷ 15 ∷ 33 ∷ 35 ∷ 37 ∷ 39 ∷ 8 ∷ 10 ∷ 12 ∷ 14 ∷ 32 ∷ 34 ∷ 36 ∷ 38 ∷ [])) ∷
    (3 ∷ [], numbers (2 ∷ []) (pos 0 ∷ pos 0 ∷ []) ∷ [], Ok (2 ∷ [], 0 ∷ 0 ∷ [])) ∷
    (3 ∷ [], mask (3 ∷ []) (pos 1 ∷ pos 0 ∷ pos 1 ∷ []) ∷ [], Ok (2 ∷ [], 0 ∷ 2 ∷ [])) ∷
    (4 ∷ [], numbers (2 ∷ 2 ∷ []) (pos 0 ∷ pos 1 ∷ negsuc 0 ∷ negsuc 1 ∷ []) ∷ [], Ok (2 ∷ 2 ∷ [], 0 ∷ 1 ∷ 3 ∷ 2 ∷ [])) ∷
    (4 ∷ [], numbers (0 ∷ []) [] ∷ [], Ok (0 ∷ [], [])) ∷
    (4 ∷ [], Integer (pos 9) ∷ numbers (0 ∷ []) [] ∷ [], Err TooManyIndices) ∷  -- the count before the range
    (4 ∷ [], numbers [] (pos 3 ∷ []) ∷ [], Ok ([], 3 ∷ [])) ∷
    (2 ∷ 3 ∷ [], mask (3 ∷ []) (pos 0 ∷ pos 0 ∷ pos 0 ∷ []) ∷ [], Err MaskLengths) ∷
    (2 ∷ 3 ∷ [], bytes (2 ∷ []) ∷ [], Err NotAnIndexType) ∷
    (2 ∷ 3 ∷ [], numbers (2 ∷ []) (pos 0 ∷ pos 0 ∷ []) ∷ numbers (3 ∷ []) (pos 0 ∷ pos 0 ∷ pos 0 ∷ []) ∷ [], Err IndexShapes) ∷
    (2 ∷ 3 ∷ [], numbers (1 ∷ []) (pos 2 ∷ []) ∷ [], Err IndexOutOfRange) ∷
    (2 ∷ 3 ∷ [], mask (2 ∷ 3 ∷ []) (pos 0 ∷ pos 0 ∷ pos 0 ∷ pos 0 ∷ pos 0 ∷ pos 0 ∷ []) ∷ [], Ok (0 ∷ [], [])) ∷
    (2 ∷ 3 ∷ [], mask (2 ∷ 3 ∷ []) (pos 0 ∷ pos 0 ∷ pos 0 ∷ pos 0 ∷ pos 0 ∷ pos 1 ∷ []) ∷ [], Ok (1 ∷ [], 5 ∷ [])) ∷
    (2 ∷ 3 ∷ [], mask (2 ∷ 4 ∷ []) (pos 0 ∷ pos 0 ∷ pos 0 ∷ pos 0 ∷ pos 0 ∷ pos 0 ∷ pos 0 ∷ pos 0 ∷ []) ∷ [], Err MaskLengths) ∷
    (2 ∷ 3 ∷ [], mask [] (pos 1 ∷ []) ∷ [], Err NotAnIndexType) ∷
    (2 ∷ 3 ∷ [], numbers (1 ∷ []) (pos 5 ∷ []) ∷ numbers (0 ∷ []) [] ∷ [], Err IndexOutOfRange) ∷  -- though no item is read
    (2 ∷ 3 ∷ [], bytes (2 ∷ []) ∷ Integer (pos 0) ∷ Integer (pos 0) ∷ Integer (pos 0) ∷ [], Err NotAnIndexType) ∷  -- the type before the count
    (2 ∷ 3 ∷ [], mask (3 ∷ []) (pos 0 ∷ pos 0 ∷ pos 0 ∷ []) ∷ Slice None None (Some (pos 0)) ∷ [], Err MaskLengths) ∷  -- the lengths before the step
    (2 ∷ 3 ∷ [], numbers (1 ∷ []) (pos 2 ∷ []) ∷ Slice None None (Some (pos 0)) ∷ [], Err ZeroStep) ∷  -- the step before the range
    (2 ∷ 3 ∷ [], numbers (2 ∷ []) (pos 0 ∷ pos 0 ∷ []) ∷ numbers (3 ∷ []) (pos 0 ∷ pos 9 ∷ pos 0 ∷ []) ∷ [], Err IndexOutOfRange) ∷  -- the range before the shapes
    (2 ∷ 3 ∷ 4 ∷ [], Integer (pos 1) ∷ NewAxis ∷ numbers (2 ∷ []) (pos 0 ∷ pos 2 ∷ []) ∷ [], Ok (2 ∷ 1 ∷ 4 ∷ [], 12 ∷ 13 ∷ 14 ∷ 15 ∷ 20 ∷ 21 ∷ 22 ∷ 23 ∷ [])) ∷
    (2 ∷ 3 ∷ [], numbers (2 ∷ []) (pos 0 ∷ pos 1 ∷ []) ∷ Ellipsis ∷ numbers (2 ∷ []) (pos 2 ∷ pos 0 ∷ []) ∷ [], Ok (2 ∷ [], 2 ∷ 3 ∷ [])) ∷
    []

lists_hold : map (λ row. answer row.0 row.1) lists ≡ map (λ row. row.2) lists
unfolding indexed parts_view shape_of slice_indices stepped common_of_two
lists_hold = refl

-- the result: more than 64 axes, then more than 2^24 items
abbrev refused : List (List Part × Refusal)
refused =
    (Points (2 ∷ []) [] ∷ replicate 64 (Axis New), TooManyAxes) ∷
    (Points (4097 ∷ 1 ∷ []) [] ∷ Points (4096 ∷ []) [] ∷ [], TooLarge) ∷
    (Points (2 ∷ []) [] ∷ Points (3 ∷ []) [] ∷ replicate 64 (Axis New), IndexShapes) ∷  -- the shapes before the axes
    []

refused_parts : map (λ row. parts_view row.0) refused ≡ map (λ row. Err row.1) refused
unfolding parts_view shape_of common_of_two
refused_parts = refl
