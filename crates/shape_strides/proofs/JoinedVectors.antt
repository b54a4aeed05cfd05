-- Examples of joined axes and of runs: arrays whose shapes and strides NumPy gives.
use Rattle.std.proofs.Common.{◌≡◌, ℕ, ℤ, pos, negsuc, List, [], ◌∷◌, map, refl, arith, lit≤}
use Rattle.shape_strides.proofs.Words.{Layout, Run, StridedAxis, strided_axes, all_joined, runs, run_pairs}
use Rattle.shape_strides.proofs.ReachLaws.{LieWithin-from_reach}

abbrev axis : ℕ → ℤ → StridedAxis
axis len stride = record { len = len; stride = stride }

-- strides, a shape, and the joined axes, for `a = numpy.zeros((2, 3, 4), "<i4")`
abbrev joined : List (List ℤ × List ℕ × List StridedAxis)
joined =
    (pos 48 ∷ pos 16 ∷ pos 4 ∷ [], 2 ∷ 3 ∷ 4 ∷ [], axis 24 (pos 4) ∷ []) ∷  -- `a`
    (pos 48 ∷ pos 16 ∷ pos 4 ∷ [], 2 ∷ 3 ∷ 2 ∷ [], axis 6 (pos 16) ∷ axis 2 (pos 4) ∷ []) ∷  -- `a[:, :, :2]`
    (pos 48 ∷ pos 16 ∷ pos 4 ∷ [], 2 ∷ 2 ∷ 4 ∷ [], axis 2 (pos 48) ∷ axis 8 (pos 4) ∷ []) ∷  -- `a[:, :2]`
    (pos 48 ∷ pos 16 ∷ pos 4 ∷ [], 2 ∷ 1 ∷ 4 ∷ [], axis 2 (pos 48) ∷ axis 4 (pos 4) ∷ []) ∷  -- `a[:, :1]`
    (pos 4 ∷ pos 16 ∷ pos 48 ∷ [], 4 ∷ 3 ∷ 2 ∷ [], axis 4 (pos 4) ∷ axis 3 (pos 16) ∷ axis 2 (pos 48) ∷ []) ∷  -- `a.T`
    (negsuc 47 ∷ negsuc 15 ∷ negsuc 3 ∷ [], 2 ∷ 3 ∷ 4 ∷ [], axis 24 (negsuc 3) ∷ []) ∷  -- `a[::-1, ::-1, ::-1]`
    (negsuc 47 ∷ pos 16 ∷ pos 4 ∷ [], 2 ∷ 3 ∷ 4 ∷ [], axis 2 (negsuc 47) ∷ axis 12 (pos 4) ∷ []) ∷  -- `a[::-1]`
    (pos 0 ∷ pos 0 ∷ [], 2 ∷ 3 ∷ [], axis 6 (pos 0) ∷ []) ∷  -- `numpy.broadcast_to(0, (2, 3))`
    -- `numpy.broadcast_to(numpy.zeros(3, "<i4"), (2, 3))`
    (pos 0 ∷ pos 4 ∷ [], 2 ∷ 3 ∷ [], axis 2 (pos 0) ∷ axis 3 (pos 4) ∷ []) ∷
    -- unusual strides on axes of length 1, as `numpy.lib.stride_tricks.as_strided` makes them
    (pos 5 ∷ pos 16 ∷ negsuc 6 ∷ pos 4 ∷ pos 9 ∷ [], 1 ∷ 3 ∷ 1 ∷ 4 ∷ 1 ∷ [], axis 12 (pos 4) ∷ []) ∷
    (pos 5 ∷ negsuc 6 ∷ [], 1 ∷ 1 ∷ [], []) ∷
    ([], [], []) ∷
    []

joined_rows : map (λ row. all_joined (strided_axes row.0 row.1)) joined ≡ map (λ row. row.2) joined
joined_rows = refl

-- `numpy.zeros((2, 3), "<i4")[:, :2]`, and `numpy.zeros((2, 2), "<i4")`
abbrev rows : Layout
rows = record { shape = 2 ∷ 2 ∷ []; strides = pos 12 ∷ pos 4 ∷ []; offset = 0; one_stride_an_axis = refl; within_limit = LieWithin-from_reach _ _ _ _ _ (lit≤ tt) (lit≤ tt); zero_if_empty = λ none. absurd (omega arith) }

abbrev square : Layout
square = record { shape = 2 ∷ 2 ∷ []; strides = pos 8 ∷ pos 4 ∷ []; offset = 0; one_stride_an_axis = refl; within_limit = LieWithin-from_reach _ _ _ _ _ (lit≤ tt) (lit≤ tt); zero_if_empty = λ none. absurd (omega arith) }

-- `numpy.zeros(5, "<i4")[::-2]`
abbrev backwards : Layout
backwards = record { shape = 3 ∷ []; strides = negsuc 7 ∷ []; offset = 16; one_stride_an_axis = refl; within_limit = LieWithin-from_reach _ _ _ _ _ (lit≤ tt) (lit≤ tt); zero_if_empty = λ none. absurd (omega arith) }

-- `numpy.zeros((3, 3), "<i4")[1, 2]`, and `numpy.zeros((2, 0))`
abbrev item : Layout
item = record { shape = []; strides = []; offset = 20; one_stride_an_axis = refl; within_limit = LieWithin-from_reach _ _ _ _ _ (lit≤ tt) (lit≤ tt); zero_if_empty = λ none. absurd (omega arith) }

abbrev empty : Layout
empty = record { shape = 2 ∷ 0 ∷ []; strides = pos 0 ∷ pos 0 ∷ []; offset = 0; one_stride_an_axis = refl; within_limit = LieWithin-from_reach _ _ _ _ _ (lit≤ tt) (lit≤ tt); zero_if_empty = λ _. (refl, refl) }

abbrev run : ℕ → ℕ → ℤ → Run
run offset count step = record { offset = offset; count = count; step = step }

all_runs : map runs (rows ∷ backwards ∷ item ∷ empty ∷ [])
    ≡ (run 0 2 (pos 4) ∷ run 12 2 (pos 4) ∷ []) ∷ (run 16 3 (negsuc 7) ∷ []) ∷ (run 20 1 (pos 0) ∷ []) ∷ [] ∷ []
unfolding runs
all_runs = refl

-- the rows are copied to the square
square_and_rows : run_pairs square rows ≡ record { first = run 0 2 (pos 4); second = run 0 2 (pos 4) } ∷ record { first = run 8 2 (pos 4); second = run 12 2 (pos 4) } ∷ []
unfolding runs run_pairs
square_and_rows = refl

square_and_itself : run_pairs square square ≡ record { first = run 0 4 (pos 4); second = run 0 4 (pos 4) } ∷ []
unfolding runs run_pairs
square_and_itself = refl

empties : run_pairs empty empty ≡ []
unfolding runs run_pairs
empties = refl
