-- Assignments, with NumPy's results.
use Rattle.std.proofs.Common.{◌≡◌, [], ◌∷◌, refl}
use Rattle.arrays.proofs.Words.{assigned}

-- `numpy.arange(6, dtype="u1").reshape(2, 3).copy(order="F").tobytes(order="A")`
copy_in_fortran_order : assigned (0 ∷ 2 ∷ 4 ∷ 1 ∷ 3 ∷ 5 ∷ []) (0 ∷ 1 ∷ 2 ∷ 3 ∷ 4 ∷ 5 ∷ []) 1 (0 ∷ 1 ∷ 2 ∷ 3 ∷ 4 ∷ 5 ∷ []) (0 ∷ 0 ∷ 0 ∷ 0 ∷ 0 ∷ 0 ∷ []) ≡ 0 ∷ 3 ∷ 1 ∷ 4 ∷ 2 ∷ 5 ∷ []
copy_in_fortran_order = refl

-- `a = numpy.arange(6, dtype="u1"); a[1:] = a[:-1]`
shifted : assigned (1 ∷ 2 ∷ 3 ∷ 4 ∷ 5 ∷ []) (0 ∷ 1 ∷ 2 ∷ 3 ∷ 4 ∷ []) 1 (0 ∷ 1 ∷ 2 ∷ 3 ∷ 4 ∷ 5 ∷ []) (0 ∷ 1 ∷ 2 ∷ 3 ∷ 4 ∷ 5 ∷ []) ≡ 0 ∷ 0 ∷ 1 ∷ 2 ∷ 3 ∷ 4 ∷ []
shifted = refl

-- `a = numpy.arange(5, dtype="u1"); a[:] = a[::-1]`
turned : assigned (0 ∷ 1 ∷ 2 ∷ 3 ∷ 4 ∷ []) (4 ∷ 3 ∷ 2 ∷ 1 ∷ 0 ∷ []) 1 (0 ∷ 1 ∷ 2 ∷ 3 ∷ 4 ∷ []) (0 ∷ 1 ∷ 2 ∷ 3 ∷ 4 ∷ []) ≡ 4 ∷ 3 ∷ 2 ∷ 1 ∷ 0 ∷ []
turned = refl

-- `a = numpy.arange(4, dtype="u1").reshape(2, 2); a[:] = a.T`
transposed : assigned (0 ∷ 1 ∷ 2 ∷ 3 ∷ []) (0 ∷ 2 ∷ 1 ∷ 3 ∷ []) 1 (0 ∷ 1 ∷ 2 ∷ 3 ∷ []) (0 ∷ 1 ∷ 2 ∷ 3 ∷ []) ≡ 0 ∷ 2 ∷ 1 ∷ 3 ∷ []
transposed = refl
