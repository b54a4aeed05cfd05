-- Examples from NumPy's user guide on broadcasting, and of `broadcast_shapes` and `broadcast_to`.
use Rattle.std.proofs.Common.{◌≡◌, ℕ, Bool, true, false, List, [], ◌∷◌, map, Result, Ok, Err, refl}
use Rattle.broadcasting.proofs.Words.{Refusal, TooLarge, ShapesDoNotBroadcast, shape_of, View, view_through, common_of_two, common_shape, can_stretch, broadcast_index, stretched, stretched_into}

-- `numpy.broadcast_shapes`: the shapes, and their common shape
abbrev common : List (List (List ℕ) × Result (List ℕ) Refusal)
common =
    ((8 ∷ 1 ∷ 6 ∷ 1 ∷ []) ∷ (7 ∷ 1 ∷ 5 ∷ []) ∷ [], Ok (8 ∷ 7 ∷ 6 ∷ 5 ∷ [])) ∷
    ((256 ∷ 256 ∷ 3 ∷ []) ∷ (3 ∷ []) ∷ [], Ok (256 ∷ 256 ∷ 3 ∷ [])) ∷
    ([], Ok []) ∷
    ((4 ∷ []) ∷ [], Ok (4 ∷ [])) ∷
    ((3 ∷ 1 ∷ []) ∷ [] ∷ (1 ∷ 4 ∷ []) ∷ (2 ∷ 1 ∷ 1 ∷ []) ∷ [], Ok (2 ∷ 3 ∷ 4 ∷ [])) ∷
    ((0 ∷ []) ∷ (1 ∷ []) ∷ [], Ok (0 ∷ [])) ∷
    ((3 ∷ []) ∷ (4 ∷ []) ∷ [], Err ShapesDoNotBroadcast) ∷
    ((2 ∷ 1 ∷ []) ∷ (8 ∷ 4 ∷ 3 ∷ []) ∷ [], Err ShapesDoNotBroadcast) ∷
    ((0 ∷ []) ∷ (2 ∷ []) ∷ [], Err ShapesDoNotBroadcast) ∷
    ((2 ∷ []) ∷ (1 ∷ []) ∷ (3 ∷ []) ∷ [], Err ShapesDoNotBroadcast) ∷
    -- more than 2^24 items, and the same lengths with a shape that has an axis of length 0
    ((4097 ∷ 1 ∷ []) ∷ (4096 ∷ []) ∷ [], Err TooLarge) ∷
    ((4097 ∷ 1 ∷ []) ∷ (4096 ∷ []) ∷ (0 ∷ 1 ∷ 1 ∷ []) ∷ [], Ok (0 ∷ 4097 ∷ 4096 ∷ [])) ∷
    []

common_rows : map (λ row. common_shape row.0) common ≡ map (λ row. row.1) common
unfolding common_shape common_of_two shape_of
common_rows = refl

-- `numpy.broadcast_to(numpy.zeros(shape), to)`: the shape, the shape that it goes to, and whether it can
abbrev to_shapes : List (List ℕ × List ℕ × Bool)
to_shapes =
    (3 ∷ 1 ∷ [], 2 ∷ 3 ∷ 4 ∷ [], true) ∷
    (1 ∷ [], 0 ∷ [], true) ∷
    ([], 2 ∷ 2 ∷ [], true) ∷
    (3 ∷ [], 3 ∷ 1 ∷ [], false) ∷
    (3 ∷ [], 1 ∷ [], false) ∷
    (1 ∷ 3 ∷ [], 3 ∷ [], false) ∷
    (0 ∷ [], 2 ∷ 1 ∷ [], false) ∷
    []

to_shape_rows : map (λ row. can_stretch row.0 row.1) to_shapes ≡ map (λ row. row.2) to_shapes
to_shape_rows = refl

-- `numpy.broadcast_to(a, (2, 3, 4))[1, 2, 3]` is `a[2, 0]`, where a has the shape (3, 1)
column_index : broadcast_index (3 ∷ 1 ∷ []) (1 ∷ 2 ∷ 3 ∷ []) ≡ 2 ∷ 0 ∷ []
column_index = refl

-- `numpy.broadcast_to(a, (2, 2))[1, 1]` is `a[()]`, where a has no axes
single_index : broadcast_index [] (1 ∷ 1 ∷ []) ≡ []
single_index = refl

-- the offsets of `numpy.broadcast_to(a, (2, 3, 2))`, where a has the shape (3, 1) and items of 4 bytes
column_offsets : view_through (0 ∷ 4 ∷ 8 ∷ []) (3 ∷ 1 ∷ []) (2 ∷ 3 ∷ 2 ∷ []) (broadcast_index (3 ∷ 1 ∷ [])) ≡ 0 ∷ 0 ∷ 4 ∷ 4 ∷ 8 ∷ 8 ∷ 0 ∷ 0 ∷ 4 ∷ 4 ∷ 8 ∷ 8 ∷ []
column_offsets = refl

-- `numpy.broadcast_to(numpy.zeros((3, 1)), (2, 3, 4))`, and `(zeros((3,)), (3, 1))`
column_view : stretched (3 ∷ 1 ∷ []) (2 ∷ 3 ∷ 4 ∷ []) ≡ Ok (record { shape = 2 ∷ 3 ∷ 4 ∷ []; leads = broadcast_index (3 ∷ 1 ∷ []) })
unfolding stretched
column_view = refl

no_view : stretched (3 ∷ []) (3 ∷ 1 ∷ []) ≡ Err ShapesDoNotBroadcast
unfolding stretched
no_view = refl

abbrev view_of : List ℕ → (List ℕ → List ℕ) → Result View Refusal
view_of shape leads = Ok (record { shape = shape; leads = leads })

-- `a[...] = b`: the shapes of b and a, and what it shows of b
abbrev into : List (List ℕ × List ℕ × Result View Refusal)
into =
    (1 ∷ 1 ∷ 2 ∷ [], 2 ∷ [], view_of (2 ∷ []) (λ index. 0 ∷ 0 ∷ broadcast_index (2 ∷ []) index)) ∷
    ([], 2 ∷ 3 ∷ [], view_of (2 ∷ 3 ∷ []) (broadcast_index [])) ∷
    (1 ∷ 3 ∷ [], 2 ∷ 3 ∷ [], view_of (2 ∷ 3 ∷ []) (broadcast_index (1 ∷ 3 ∷ []))) ∷
    (1 ∷ 1 ∷ [], [], view_of [] (λ index. 0 ∷ 0 ∷ broadcast_index [] index)) ∷
    -- the first axis does not have length 1
    (2 ∷ 1 ∷ [], 2 ∷ [], Err ShapesDoNotBroadcast) ∷
    (2 ∷ 2 ∷ [], 2 ∷ [], Err ShapesDoNotBroadcast) ∷
    (1 ∷ 3 ∷ [], 2 ∷ [], Err ShapesDoNotBroadcast) ∷  -- the axis that remains does not stretch
    []

into_rows : map (λ row. stretched_into row.0 row.1) into ≡ map (λ row. row.2) into
unfolding stretched_into stretched
into_rows = refl

into_fewer_offsets : view_through (0 ∷ 4 ∷ []) (1 ∷ 1 ∷ 2 ∷ []) (2 ∷ []) (λ index. 0 ∷ 0 ∷ broadcast_index (2 ∷ []) index) ≡ 0 ∷ 4 ∷ []
into_fewer_offsets = refl
