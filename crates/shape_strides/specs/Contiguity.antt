-- The strides of an array as NumPy prints them, and whether it is C or Fortran contiguous, defined by the addresses of
-- its items in C order. The stride of an axis of length 1 is 0, and so are all strides if there are no items.
use Rattle.std.specs.Prelude.{ℕ, ◌+◌, nat_le, ◌==◌, Bool, true, ◌&&◌, if◌then◌else◌, ℤ, pos, ◌-ℤ◌, List, [], ◌∷◌, ◌++◌, codes, map, reverse, slice_index}
use Rattle.shape_strides.specs.Words.{flat_map, signed_decimal}
use Rattle.shape_strides.specs.Indexes.{count, indexes, rank}

-- the address of the first item, or 0 if there are no items
abbrev pub first_address : List ℕ → ℕ
first_address [] = 0
first_address (address ∷ addresses) = address

-- The distance in bytes from index 0 of an axis of length `n` to its index 1, which has rank `rank`. It is 0 if the
-- axis has fewer than 2 items.
abbrev pub printed_stride : ℕ → ℕ → List ℕ → ℤ
printed_stride n rank addresses = if nat_le 2 n then pos (slice_index addresses rank) -ℤ pos (slice_index addresses 0) else pos 0

-- the printed stride of each axis of a shape, which is 0 if there are no items
abbrev pub printed_strides : List ℕ → List ℕ → List ℤ
printed_strides [] addresses = []
printed_strides (n ∷ shape) addresses = printed_stride n (count shape) addresses ∷ printed_strides shape addresses

-- Each item begins where the previous one ends.
abbrev pub is_c_contiguous : ℕ → List ℕ → Bool
is_c_contiguous item [] = true
is_c_contiguous item (address ∷ []) = true
is_c_contiguous item (address ∷ next ∷ addresses) = (next == address + item) && is_c_contiguous item (next ∷ addresses)

-- the entries of a list in C order, rearranged to Fortran order, in which the first axis changes fastest
abbrev pub fortran_order : List ℕ → List ℕ → List ℕ
fortran_order shape list = map (λ index. slice_index list (rank shape (reverse index))) (indexes (reverse shape))

-- The items are adjacent in Fortran order.
abbrev pub is_f_contiguous : ℕ → List ℕ → List ℕ → Bool
is_f_contiguous item shape addresses = is_c_contiguous item (fortran_order shape addresses)

-- strides as Python writes a tuple: `()`, `(12,)`, `(-8, 4)`
abbrev pub strides_text : List ℤ → List ℕ
strides_text [] = codes "()"
strides_text (stride ∷ []) = codes "(" ++ signed_decimal stride ++ codes ",)"
strides_text (stride ∷ strides) = codes "(" ++ signed_decimal stride ++ flat_map (λ s. codes ", " ++ signed_decimal s) strides ++ codes ")"
