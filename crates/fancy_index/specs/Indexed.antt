-- What an index list with arrays selects from an array, as in NumPy's integer and boolean indexing.
use Rattle.std.specs.Prelude.{ℕ, ◌+◌, nat_le, List, [], ◌++◌, take, drop, length, Result, Ok, Err}
use Rattle.fancy_index.specs.Words.{list_all, Refusal, NotAnIndexType, TooManyIndices, MaskLengths, ZeroStep, IndexOutOfRange, IndexShapes, ◌>>=◌, check, IndexItem, shape_of, has_step, View, common_with}
use Rattle.fancy_index.specs.IndexArrays.{IndexArray, is_index, array_axes_taken, cover, are_within}
use Rattle.fancy_index.specs.Parts.{Part, parts, point_shapes, other_axes, points_place, leads}

-- if shapes do not broadcast, the refusal is the one for index arrays
abbrev pub as_index_shapes : Result (List ℕ) Refusal → Result (List ℕ) Refusal
as_index_shapes (Ok lengths) = Ok lengths
as_index_shapes (Err refusal) = Err IndexShapes

-- the common shape of the points, however many parts have points
abbrev pub points_shape : List Part → Result (List ℕ) Refusal
points_shape parts = as_index_shapes (common_with [] (point_shapes parts))

-- the shape of the result: the axes of the points, inserted among the other axes
abbrev pub all_axes : List ℕ → List Part → List ℕ
all_axes points parts = take (points_place parts) (other_axes parts) ++ points ++ drop (points_place parts) (other_axes parts)

-- the index of the array that an index of the result leads to. The `axes` numbers from the points' place on are the
-- numbers on the axes of the points.
abbrev pub leads_through : ℕ → List Part → List ℕ → List ℕ
leads_through axes parts index =
    let place = points_place parts in
    leads (take axes (drop place index)) parts (take place index ++ drop (place + axes) index)

-- the view that parts show, if the common shape of their points is `points`
abbrev pub view_of : List ℕ → List Part → View
view_of points parts = record { shape = all_axes points parts; leads = leads_through (length points) parts }

-- the view that parts show, or the first refusal
unfoldable pub parts_view : List Part → Result View Refusal
parts_view parts = do
  points ← points_shape parts
  shape ← shape_of (all_axes points parts)
  Ok (record { shape = shape; leads = leads_through (length points) parts })

-- the view that an index list with arrays selects, or the first refusal
unfoldable pub indexed : List ℕ → List (IndexItem IndexArray) → Result View Refusal
indexed shape items = do
  _ ← check (list_all is_index items) NotAnIndexType
  _ ← check (nat_le (array_axes_taken items) (length shape)) TooManyIndices
  _ ← check (cover shape items) MaskLengths
  _ ← check (list_all has_step items) ZeroStep
  _ ← check (are_within shape items) IndexOutOfRange
  parts_view (parts shape items)
