-- Examples of NumPy's basic indexes: the shape of the result, and the item to which one of its indexes leads.
use Rattle.std.proofs.Common.{◌≡◌, ℕ, ◌^◌, pos, negsuc, Some, None, List, [], ◌∷◌, map, replicate, Result, Ok, Err, refl}
use Rattle.view_ops.proofs.Words.{Refusal, TooManyAxes, TooManyIndices, IndexOutOfRange, ZeroStep, ◌>>=◌, IndexItem, Integer, Slice, Ellipsis, stepped, slice_indices, shape_picked, picked_view, basic}
use Rattle.view_ops.specs.Words.{NewAxis}

abbrev seen : List ℕ → List (IndexItem ℕ) → List ℕ → Result (List ℕ × List ℕ) Refusal
seen shape items index = basic shape items >>= λ view. Ok (view.shape, view.leads index)

abbrev whole : IndexItem ℕ
whole = Slice None None None

-- a shape, an index list, an index of the result, and what is seen
abbrev lists : List (List ℕ × List (IndexItem ℕ) × List ℕ × Result (List ℕ × List ℕ) Refusal)
lists =
    (2 ∷ 3 ∷ [], Integer (pos 1) ∷ whole ∷ [], 2 ∷ [], Ok (3 ∷ [], 1 ∷ 2 ∷ [])) ∷  -- `a[1, :]`
    (2 ∷ 3 ∷ [], Integer (pos 1) ∷ [], 2 ∷ [], Ok (3 ∷ [], 1 ∷ 2 ∷ [])) ∷  -- `a[1]`
    -- `a[..., 0, None]`
    (2 ∷ 2 ∷ 2 ∷ [], Ellipsis ∷ Integer (pos 0) ∷ NewAxis ∷ [], 1 ∷ 0 ∷ 0 ∷ [], Ok (2 ∷ 2 ∷ 1 ∷ [], 1 ∷ 0 ∷ 0 ∷ [])) ∷
    -- `a[None, -1, ..., 1:]`
    (2 ∷ 3 ∷ 4 ∷ 5 ∷ [], NewAxis ∷ Integer (negsuc 0) ∷ Ellipsis ∷ Slice (Some (pos 1)) None None ∷ [], 0 ∷ 2 ∷ 3 ∷ 0 ∷ [], Ok (1 ∷ 3 ∷ 4 ∷ 4 ∷ [], 1 ∷ 2 ∷ 3 ∷ 1 ∷ [])) ∷
    -- `a[1, ..., 2]`, where `...` takes no axis
    (2 ∷ 3 ∷ [], Integer (pos 1) ∷ Ellipsis ∷ Integer (pos 2) ∷ [], [], Ok ([], 1 ∷ 2 ∷ [])) ∷
    (5 ∷ [], Slice (Some (pos 5)) None None ∷ [], 0 ∷ [], Ok (0 ∷ [], 0 ∷ [])) ∷  -- `a[5:]`
    (5 ∷ [], Slice None None (Some (negsuc 1)) ∷ [], 0 ∷ [], Ok (3 ∷ [], 4 ∷ [])) ∷  -- `a[::-2]`
    (5 ∷ [], Slice None None (Some (negsuc 1)) ∷ [], 2 ∷ [], Ok (3 ∷ [], 0 ∷ [])) ∷
    -- `a[-10 ** 29 - 1:10 ** 29:10 ** 29]`
    (5 ∷ [], Slice (Some (negsuc (10 ^ 29))) (Some (pos (10 ^ 29))) (Some (pos (10 ^ 29))) ∷ [], 0 ∷ [], Ok (1 ∷ [], 0 ∷ [])) ∷
    (3 ∷ [], Integer (negsuc 0) ∷ [], [], Ok ([], 2 ∷ [])) ∷  -- `a[-1]`
    ([], [], [], Ok ([], [])) ∷  -- `a[()]`
    ([], Ellipsis ∷ [], [], Ok ([], [])) ∷  -- `a[...]`
    []

lists_hold : map (λ row. seen row.0 row.1 row.2) lists ≡ map (λ row. row.3) lists
unfolding basic picked_view shape_picked slice_indices stepped
lists_hold = refl

-- a shape, an index list, and the refusal
abbrev refused : List (List ℕ × List (IndexItem ℕ) × Refusal)
refused =
    (5 ∷ [], Integer (pos 0) ∷ Integer (pos 0) ∷ [], TooManyIndices) ∷  -- `a[0, 0]`
    (5 ∷ [], Slice (Some (pos 0)) (Some (pos 3)) (Some (pos 0)) ∷ [], ZeroStep) ∷  -- `a[0:3:0]`
    (5 ∷ [], Integer (pos 5) ∷ [], IndexOutOfRange) ∷  -- `a[5]`
    (5 ∷ [], Integer (negsuc 5) ∷ [], IndexOutOfRange) ∷  -- `a[-6]`
    (5 ∷ 3 ∷ [], Ellipsis ∷ Integer (pos 3) ∷ [], IndexOutOfRange) ∷  -- `a[..., 3]`
    -- `a[9, ::0]`: the step is checked before the integer, and the number of axes first
    (3 ∷ 3 ∷ [], Integer (pos 9) ∷ Slice None None (Some (pos 0)) ∷ [], ZeroStep) ∷
    (3 ∷ [], Integer (pos 9) ∷ Slice None None (Some (pos 0)) ∷ [], TooManyIndices) ∷
    -- a new axis for an array of 64 axes; and two new axes with an integer out of range, which is refused first
    (replicate 64 1, NewAxis ∷ [], TooManyAxes) ∷
    (replicate 64 1, NewAxis ∷ NewAxis ∷ Integer (pos 1) ∷ [], IndexOutOfRange) ∷
    []

refused_lists : map (λ row. basic row.0 row.1) refused ≡ map (λ row. Err row.2) refused
unfolding basic picked_view shape_picked
refused_lists = refl
