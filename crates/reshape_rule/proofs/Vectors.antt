-- Examples of NumPy's `reshape`: the shapes, and whether the result is a view.
use Rattle.std.proofs.Common.{◌≡◌, ℕ, ℤ, pos, negsuc, Bool, true, false, List, [], ◌∷◌, map, Result, Ok, Err, replicate, refl}
use Rattle.reshape_rule.proofs.Words.{Refusal, TooManyAxes, TooLarge, BadReshape, shape_of, printed_strides, target_of, is_affine}

-- the number of items, the lengths that are given, and the shape
abbrev targets : List (ℕ × List ℤ × Result (List ℕ) Refusal)
targets =
    -- `numpy.arange(8)`
    (8, pos 2 ∷ pos 2 ∷ negsuc 0 ∷ [], Ok (2 ∷ 2 ∷ 2 ∷ [])) ∷
    (8, negsuc 0 ∷ [], Ok (8 ∷ [])) ∷
    (8, pos 2 ∷ negsuc 0 ∷ pos 4 ∷ [], Ok (2 ∷ 1 ∷ 4 ∷ [])) ∷
    (8, pos 1 ∷ pos 8 ∷ pos 1 ∷ [], Ok (1 ∷ 8 ∷ 1 ∷ [])) ∷
    -- `numpy.array(5)`
    (1, [], Ok []) ∷
    (1, pos 1 ∷ pos 1 ∷ [], Ok (1 ∷ 1 ∷ [])) ∷
    (1, negsuc 0 ∷ [], Ok (1 ∷ [])) ∷
    -- `numpy.zeros((0,))`
    (0, pos 0 ∷ pos 5 ∷ [], Ok (0 ∷ 5 ∷ [])) ∷
    (0, pos 3 ∷ negsuc 0 ∷ [], Ok (3 ∷ 0 ∷ [])) ∷
    (0, negsuc 0 ∷ [], Ok (0 ∷ [])) ∷
    -- refused by NumPy
    (0, pos 0 ∷ negsuc 0 ∷ [], Err BadReshape) ∷
    (8, pos 3 ∷ negsuc 0 ∷ [], Err BadReshape) ∷
    (8, pos 0 ∷ negsuc 0 ∷ [], Err BadReshape) ∷
    (8, pos 16 ∷ negsuc 0 ∷ [], Err BadReshape) ∷
    (8, pos 2 ∷ pos 3 ∷ [], Err BadReshape) ∷
    (8, negsuc 0 ∷ negsuc 0 ∷ [], Err BadReshape) ∷
    (8, [], Err BadReshape) ∷
    (8, pos 4 ∷ negsuc 1 ∷ [], Err BadReshape) ∷  -- a number below -1
    (5, pos 999999999999999999999999999999 ∷ negsuc 0 ∷ [], Err BadReshape) ∷
    -- a length above 2^24 in a shape without items, given directly and next to a -1
    (0, pos 0 ∷ pos 16777217 ∷ [], Err TooLarge) ∷
    (0, pos 16777217 ∷ negsuc 0 ∷ [], Err TooLarge) ∷
    (8, negsuc 0 ∷ negsuc 0 ∷ replicate 63 (pos 1), Err TooManyAxes) ∷  -- 65 axes, two of which are -1
    []

targets_hold : map (λ row. target_of row.0 row.1) targets ≡ map (λ row. row.2) targets
unfolding target_of shape_of
targets_hold = refl

-- the places of `numpy.zeros((2, 3, 4), "<i4")[:, :, :2]`, in bytes
abbrev shortened : List ℕ
shortened = 0 ∷ 4 ∷ 16 ∷ 20 ∷ 32 ∷ 36 ∷ 48 ∷ 52 ∷ 64 ∷ 68 ∷ 80 ∷ 84 ∷ []

-- the places, a shape, and whether it is a view
abbrev views : List (List ℕ × List ℕ × Bool)
views =
    (shortened, 6 ∷ 2 ∷ [], true) ∷
    (shortened, 3 ∷ 2 ∷ 2 ∷ [], true) ∷
    (shortened, 6 ∷ 1 ∷ 2 ∷ [], true) ∷
    (shortened, 2 ∷ 6 ∷ [], false) ∷
    (shortened, 12 ∷ [], false) ∷
    (0 ∷ 12 ∷ 4 ∷ 16 ∷ 8 ∷ 20 ∷ [], 6 ∷ [], false) ∷  -- `numpy.zeros((2, 3), "<i4").T.reshape(6)`
    (0 ∷ 12 ∷ [], 2 ∷ [], true) ∷  -- `numpy.zeros((2, 3), "<i4")[:, :1].reshape(2)`
    (0 ∷ 0 ∷ 0 ∷ 0 ∷ [], 2 ∷ 2 ∷ [], true) ∷  -- `numpy.broadcast_to(5, (4,)).reshape(2, 2)`
    -- `numpy.broadcast_to(numpy.zeros(3, "<i4"), (2, 3)).reshape(6)`
    (0 ∷ 4 ∷ 8 ∷ 0 ∷ 4 ∷ 8 ∷ [], 6 ∷ [], false) ∷
    (12 ∷ 8 ∷ 4 ∷ 0 ∷ [], 2 ∷ 2 ∷ [], true) ∷  -- `numpy.zeros(4, "<i4")[::-1].reshape(2, 2)`
    ([], 0 ∷ 5 ∷ [], true) ∷
    (20 ∷ [], 1 ∷ 1 ∷ [], true) ∷
    []

views_hold : map (λ row. is_affine row.0 row.1) views ≡ map (λ row. row.2) views
views_hold = refl

strides : map (λ shape. printed_strides shape shortened) ((6 ∷ 2 ∷ []) ∷ (3 ∷ 2 ∷ 2 ∷ []) ∷ [])
    ≡ (pos 16 ∷ pos 4 ∷ []) ∷ (pos 32 ∷ pos 16 ∷ pos 4 ∷ []) ∷ []
strides = refl
