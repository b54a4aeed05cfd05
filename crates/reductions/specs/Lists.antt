-- The axis of a reduction, and the lists of items that it reduces, one for each item of the result.
use Rattle.std.specs.Prelude.{ℕ, ◌<◌, ℤ, Bool, true, false, Option, Some, None, List, [], ◌∷◌, map, slice_index, slice_set}
use Rattle.reductions.specs.Words.{range_with_len, insert, remove, natural, count, indexes, rank, from_front, is_place}

-- the named axis, if there is one, counted from the front; a negative number counts from the end
abbrev pub named_axis : ℕ → Option ℤ → Option ℕ
named_axis rank None = None
named_axis rank (Some axis) = Some (natural (from_front rank axis))

-- whether the named axis, if any, is one of the `rank` axes
abbrev pub is_axis : ℕ → Option ℤ → Bool
is_axis rank None = true
is_axis rank (Some axis) = is_place rank axis

-- the axis, if any, is one of `rank` axes
abbrev pub IsAxisOf : ℕ → Option ℕ → Type 0
IsAxisOf rank None = Unit {0}
IsAxisOf rank (Some axis) = axis < rank

-- the shape of the result: the named axis is removed, or all axes if none is named. If axes are kept, each of these has
-- length 1 instead.
abbrev pub reduced_shape : List ℕ → Option ℕ → Bool → List ℕ
reduced_shape shape None false = []
reduced_shape shape None true = map (λ _. 1) shape
reduced_shape shape (Some axis) false = remove shape axis
reduced_shape shape (Some axis) true = slice_set shape axis 1

-- the number of items in each list
abbrev pub list_length : List ℕ → Option ℕ → ℕ
list_length shape None = count shape
list_length shape (Some axis) = slice_index shape axis

-- The lists of items to reduce, one for each item of the result, in C order. If no axis is named, there is one list of
-- all items. Otherwise there is a list for each index of the other axes: the items along the axis, from 0 on. `items`
-- are the array's items in C order, given by their byte offsets or by their places.
abbrev pub lists : List ℕ → Option ℕ → List ℕ → List (List ℕ)
lists shape None items = items ∷ []
lists shape (Some axis) items =
    map (λ index. map (λ k. slice_index items (rank shape (insert index axis k))) (range_with_len 0 (slice_index shape axis))) (indexes (remove shape axis))
