-- Examples of the definitions: arrays whose shapes, strides and indexes NumPy and Python give.
use Rattle.std.proofs.Common.{◌≡◌, pos, negsuc, [], ◌∷◌, map, Ok, Err, replicate, codes, refl, arith, lit≤}
use Rattle.shape_strides.proofs.Words.{digits, TooManyAxes, TooLarge, Layout, count, indexes, rank, c_strides, offsets, shape_of, shape_text}
use Rattle.shape_strides.proofs.ReachLaws.{LieWithin-from_reach}

-- `numpy.zeros(()).size`, `numpy.zeros((2, 3, 4)).size`, `numpy.zeros((2, 0, 4)).size`
sizes : map count ([] ∷ (2 ∷ 3 ∷ 4 ∷ []) ∷ (2 ∷ 0 ∷ 4 ∷ []) ∷ []) ≡ 1 ∷ 24 ∷ 0 ∷ []
sizes = refl

-- `list(itertools.product(range(2), range(3)))`
row_major : indexes (2 ∷ 3 ∷ []) ≡ (0 ∷ 0 ∷ []) ∷ (0 ∷ 1 ∷ []) ∷ (0 ∷ 2 ∷ []) ∷ (1 ∷ 0 ∷ []) ∷ (1 ∷ 1 ∷ []) ∷ (1 ∷ 2 ∷ []) ∷ []
row_major = refl

-- `numpy.ravel_multi_index((1, 2, 3), (2, 3, 4))`
ravelled : rank (2 ∷ 3 ∷ 4 ∷ []) (1 ∷ 2 ∷ 3 ∷ []) ≡ 23
ravelled = refl

-- `numpy.zeros((2, 3, 4), "<i4").strides`
int_strides : c_strides 4 (2 ∷ 3 ∷ 4 ∷ []) ≡ pos 48 ∷ pos 16 ∷ pos 4 ∷ []
int_strides = refl

-- `numpy.zeros((2, 3), "<i4").T`
abbrev transposed : Layout
transposed = record { shape = 3 ∷ 2 ∷ []; strides = pos 4 ∷ pos 12 ∷ []; offset = 0; one_stride_an_axis = refl; within_limit = LieWithin-from_reach _ _ _ _ _ (lit≤ tt) (lit≤ tt); zero_if_empty = λ none. absurd (omega arith) }

-- `numpy.zeros(5, "<i4")[::-2]`
abbrev backwards : Layout
backwards = record { shape = 3 ∷ []; strides = negsuc 7 ∷ []; offset = 16; one_stride_an_axis = refl; within_limit = LieWithin-from_reach _ _ _ _ _ (lit≤ tt) (lit≤ tt); zero_if_empty = λ none. absurd (omega arith) }

all_offsets : map offsets (transposed ∷ backwards ∷ []) ≡ (0 ∷ 12 ∷ 4 ∷ 16 ∷ 8 ∷ 20 ∷ []) ∷ (16 ∷ 8 ∷ 0 ∷ []) ∷ []
unfolding offsets
all_offsets = refl

-- The number of items is the exact product, and a length that is too large is refused first.
shapes : map shape_of ((0 ∷ 16777216 ∷ 16777216 ∷ []) ∷ (0 ∷ 16777217 ∷ []) ∷ replicate 65 16777217 ∷ [])
    ≡ Ok (0 ∷ 16777216 ∷ 16777216 ∷ []) ∷ Err TooLarge ∷ Err TooManyAxes ∷ []
unfolding shape_of
shapes = refl

-- `str(numpy.zeros((2, 3)).shape)`
texts : map shape_text ((2 ∷ 3 ∷ []) ∷ (12 ∷ []) ∷ []) ≡ codes "(2, 3)" ∷ codes "(12,)" ∷ []
unfolding digits
texts = refl
