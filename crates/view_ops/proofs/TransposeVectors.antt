-- Examples of the axes, shapes and strides of NumPy's transposes.
use Rattle.std.proofs.Common.{◌≡◌, ℕ, ℤ, pos, negsuc, Option, Some, None, List, [], ◌∷◌, map, Result, Ok, Err, refl}
use Rattle.view_ops.proofs.Words.{Refusal, BadAxis, axes_of, transposed_shape, transposed_index}

-- how many axes, those given, and the order of the axes
abbrev orders : List (ℕ × Option (List ℤ) × Result (List ℕ) Refusal)
orders =
    (3, None, Ok (2 ∷ 1 ∷ 0 ∷ [])) ∷  -- `numpy.zeros((2, 3, 4)).T`
    (3, Some (negsuc 0 ∷ pos 0 ∷ pos 1 ∷ []), Ok (2 ∷ 0 ∷ 1 ∷ [])) ∷  -- `.transpose(-1, 0, 1)`
    (2, Some (pos 0 ∷ []), Err BadAxis) ∷  -- `numpy.zeros((2, 3)).transpose(0)`
    (2, Some (pos 0 ∷ pos 2 ∷ []), Err BadAxis) ∷  -- `.transpose(0, 2)`
    (2, Some (negsuc 2 ∷ pos 0 ∷ []), Err BadAxis) ∷  -- `.transpose(-3, 0)`
    (2, Some (pos 1 ∷ negsuc 0 ∷ []), Err BadAxis) ∷  -- `.transpose(1, -1)`
    []

orders_hold : map (λ row. axes_of row.0 row.1) orders ≡ map (λ row. row.2) orders
unfolding axes_of
orders_hold = refl

-- `numpy.zeros((2, 3, 4)).transpose(-1, 0, 1).shape`
turned_shape : transposed_shape (2 ∷ 0 ∷ 1 ∷ []) (2 ∷ 3 ∷ 4 ∷ []) ≡ 4 ∷ 2 ∷ 3 ∷ []
turned_shape = refl

-- `a.transpose(2, 0, 1)[3, 1, 2]` is `a[1, 2, 3]`
turned_index : transposed_index (2 ∷ 0 ∷ 1 ∷ []) (3 ∷ 1 ∷ 2 ∷ []) ≡ 1 ∷ 2 ∷ 3 ∷ []
turned_index = refl
