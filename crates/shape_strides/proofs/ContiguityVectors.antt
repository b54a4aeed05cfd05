-- Examples of the definitions of strides and contiguity: arrays whose strides and flags NumPy gives.
use Rattle.std.proofs.Common.{◌≡◌, ℕ, ℤ, pos, negsuc, Bool, true, false, List, [], ◌∷◌, map, codes, refl, arith}
use Rattle.shape_strides.proofs.Words.{IsPermutation-refl, digits, f_strides, f_multiples, reach_within, axes, StepsClear, CanStack, first_address, printed_strides, is_c_contiguous, is_f_contiguous, fortran_order, strides_text}

-- a shape, the places of the items in bytes, and the strides
abbrev strided : List (List ℕ × List ℕ × List ℤ)
strided =
    (2 ∷ 3 ∷ [], 0 ∷ 4 ∷ 8 ∷ 12 ∷ 16 ∷ 20 ∷ [], pos 12 ∷ pos 4 ∷ []) ∷  -- `numpy.zeros((2, 3), "<i4")`
    (2 ∷ 3 ∷ [], 0 ∷ 8 ∷ 16 ∷ 4 ∷ 12 ∷ 20 ∷ [], pos 4 ∷ pos 8 ∷ []) ∷  -- `numpy.zeros((2, 3), "<i4", order="F")`
    (3 ∷ [], 16 ∷ 8 ∷ 0 ∷ [], negsuc 7 ∷ []) ∷  -- `numpy.zeros(5, "<i4")[::-2]`
    (1 ∷ [], 12 ∷ [], pos 0 ∷ []) ∷  -- `numpy.zeros(5, "<i4")[3:4]`
    (2 ∷ 1 ∷ [], 0 ∷ 12 ∷ [], pos 12 ∷ pos 0 ∷ []) ∷  -- `numpy.zeros((2, 3), "<i4")[:, :1]`
    (2 ∷ 0 ∷ [], [], pos 0 ∷ pos 0 ∷ []) ∷
    []

strided_rows : map (λ row. printed_strides row.0 row.1) strided ≡ map (λ row. row.2) strided
strided_rows = refl

-- the bytes of an item, the places of such arrays, and whether they are C-contiguous
abbrev c_flags : List (ℕ × List ℕ × Bool)
c_flags =
    (4, 0 ∷ 4 ∷ 8 ∷ 12 ∷ 16 ∷ 20 ∷ [], true) ∷
    (4, 0 ∷ 8 ∷ 16 ∷ 4 ∷ 12 ∷ 20 ∷ [], false) ∷
    (4, 16 ∷ 8 ∷ 0 ∷ [], false) ∷
    (12, 0 ∷ 12 ∷ [], true) ∷
    []

c_flag_rows : map (λ row. is_c_contiguous row.0 row.1) c_flags ≡ map (λ row. row.2) c_flags
c_flag_rows = refl

-- a shape, the places of items of 4 bytes, and whether they are F-contiguous
abbrev f_flags : List (List ℕ × List ℕ × Bool)
f_flags =
    (2 ∷ 3 ∷ [], 0 ∷ 4 ∷ 8 ∷ 12 ∷ 16 ∷ 20 ∷ [], false) ∷
    (2 ∷ 3 ∷ [], 0 ∷ 8 ∷ 16 ∷ 4 ∷ 12 ∷ 20 ∷ [], true) ∷
    (3 ∷ [], 16 ∷ 8 ∷ 0 ∷ [], false) ∷
    (1 ∷ [], 12 ∷ [], true) ∷  -- one item is contiguous in both orders
    (2 ∷ 1 ∷ [], 0 ∷ 12 ∷ [], false) ∷
    (2 ∷ 0 ∷ [], [], true) ∷
    ([], 8 ∷ [], true) ∷
    []

f_flag_rows : map (λ row. is_f_contiguous 4 row.0 row.1) f_flags ≡ map (λ row. row.2) f_flags
f_flag_rows = refl

-- `numpy.zeros((2, 3), "<i4", order="F")`
f_addresses : f_multiples 4 (2 ∷ 3 ∷ []) ≡ 0 ∷ 8 ∷ 16 ∷ 4 ∷ 12 ∷ 20 ∷ []
f_addresses = refl

f_order : fortran_order (2 ∷ 3 ∷ []) (0 ∷ 8 ∷ 16 ∷ 4 ∷ 12 ∷ 20 ∷ []) ≡ 0 ∷ 4 ∷ 8 ∷ 12 ∷ 16 ∷ 20 ∷ []
f_order = refl

f_steps : f_strides 4 (2 ∷ 3 ∷ []) ≡ pos 4 ∷ pos 8 ∷ []
f_steps = refl

-- `numpy.zeros(5, "<i4")[::-2]`
backwards_first : first_address (16 ∷ 8 ∷ 0 ∷ []) ≡ 16
backwards_first = refl

-- `str(a.strides)`
texts : map strides_text ([] ∷ (pos 12 ∷ []) ∷ (negsuc 7 ∷ pos 4 ∷ []) ∷ []) ≡ codes "()" ∷ codes "(12,)" ∷ codes "(-8, 4)" ∷ []
unfolding digits
texts = refl

-- ---- axes that step over what the axes before them reach

-- `numpy.zeros((2, 3), "<i4").T`: the axis of 4 bytes, then that of 12
transposed_stacks : CanStack (axes (pos 4 ∷ pos 12 ∷ []) (3 ∷ 2 ∷ [])) 4
transposed_stacks = record {
  order = record { step = 4; len = 3 } ∷ record { step = 12; len = 2 } ∷ [];
  of_all = IsPermutation-refl (axes (pos 4 ∷ pos 12 ∷ []) (3 ∷ 2 ∷ []));
  clear = (λ long. omega arith, (λ long. omega arith, tt));
}

-- an axis of 11 bytes does not step over 3 items of 4
short_step : StepsClear 4 (record { step = 4; len = 3 } ∷ record { step = 11; len = 2 } ∷ []) → ⊥
short_step clear = omega (arith, clear.1.0 (omega arith))

reaches : map (λ len. reach_within len (negsuc 11 ∷ pos 4 ∷ []) (2 ∷ 3 ∷ [])) (4 ∷ 12 ∷ []) ≡ 8 ∷ 20 ∷ []
reaches = refl
