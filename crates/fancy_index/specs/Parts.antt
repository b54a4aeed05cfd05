-- The parts of an index list with arrays: what each item says about the axes that it takes.
use Rattle.std.specs.Prelude.{ℕ, ◌+◌, Bool, true, false, not, if◌then◌else◌, ℤ, pos, List, [], ◌∷◌, ◌++◌, map, length, slice_index, get_or}
use Rattle.fancy_index.specs.Words.{int_eq, list_any, flat_map, IndexItem, Integer, Ellipsis, Array, natural, indexes, rank, from_front, placed, Pick, At, Along, New, whole, picks_of, axis_of, broadcast_index}
use Rattle.fancy_index.specs.IndexArrays.{IndexArray, kind, array_axes_taken}
use Rattle.fancy_index.specs.declared.kinds.Kind.{Kind}
use Rattle.fancy_index.specs.declared.kinds.Kind.TheVariants.{Integers, Mask}

-- A part is one of three: an axis that is picked as in a basic index, or a new one; points on one or more axes, with a
-- shape of their own and the numbers of each point on these axes; or the trace of `...`, which separates the parts before
-- it from those after it.
pub data Part : Type 0 where
  Axis : Pick → Part
  Points : List ℕ → List (List ℕ) → Part
  Between : Part

-- the indexes at which a mask is true, in C order
abbrev pub true_indexes : List (List ℕ) → List ℤ → List (List ℕ)
true_indexes (index ∷ indexes) (number ∷ numbers) = if int_eq number (pos 0) then true_indexes indexes numbers else index ∷ true_indexes indexes numbers
true_indexes _ _ = []

-- the point on one axis that a number names
abbrev pub point_at : ℕ → ℤ → List ℕ
point_at n at = natural (from_front n at) ∷ []

abbrev pub points_along : List (List ℕ) → Part
points_along points = Points (length points ∷ []) points

abbrev pub points_of : Kind → List ℕ → List ℕ → List ℤ → List Part
points_of Integers (n ∷ axes) shape numbers = Points shape (map (point_at n) numbers) ∷ []
points_of Mask axes shape numbers = points_along (true_indexes (indexes shape) numbers) ∷ []
points_of _ axes shape numbers = []

abbrev pub wholes : List ℕ → List Part
wholes axes = map (λ n. Axis (whole n)) axes

-- the parts of an item on the axes that it takes. An integer is a single point.
abbrev pub parts_of : List ℕ → IndexItem IndexArray → List Part
parts_of axes Ellipsis = Between ∷ wholes axes
parts_of (n ∷ axes) (Integer at) = Points [] (point_at n at ∷ []) ∷ []
parts_of axes (Array array) = points_of (kind array) axes array.shape array.numbers
parts_of axes item = map Axis (picks_of axes item)

-- the parts of an index list
abbrev pub parts : List ℕ → List (IndexItem IndexArray) → List Part
parts shape items = flat_map (λ p. parts_of p.axes p.item) (placed array_axes_taken shape items)

-- ---- the axes of the result

abbrev pub shapes_of_part : Part → List (List ℕ)
shapes_of_part (Points shape points) = shape ∷ []
shapes_of_part _ = []

-- the shapes of the points of all parts, which are broadcast together
abbrev pub point_shapes : List Part → List (List ℕ)
point_shapes parts = flat_map shapes_of_part parts

abbrev pub axes_of_part : Part → List ℕ
axes_of_part (Axis pick) = axis_of pick
axes_of_part _ = []

-- the lengths of all axes of the result that are not axes of points
abbrev pub other_axes : List Part → List ℕ
other_axes parts = flat_map axes_of_part parts

abbrev pub are_points : Part → Bool
are_points (Points shape points) = true
are_points _ = false

-- whether all points, if any, come before the first part without points
abbrev pub go_on : List Part → Bool
go_on (Points shape points ∷ parts) = go_on parts
go_on parts = not (list_any are_points parts)

-- whether all points are adjacent
abbrev pub side_by_side : List Part → Bool
side_by_side [] = true
side_by_side (Points shape points ∷ parts) = go_on parts
side_by_side (part ∷ parts) = side_by_side parts

-- the number of other axes before the first points
abbrev pub axes_before : List Part → ℕ
axes_before [] = 0
axes_before (Points shape points ∷ parts) = 0
axes_before (part ∷ parts) = length (axes_of_part part) + axes_before parts

-- the number of other axes before those of the points: 0 if the points are not adjacent
abbrev pub points_place : List Part → ℕ
points_place parts = if side_by_side parts then axes_before parts else 0

-- ---- which index of the array an index of the result leads to

-- the index of the array, given the numbers of an index of the result on the axes of the points and on the other axes
abbrev pub leads : List ℕ → List Part → List ℕ → List ℕ
leads point (Points shape points ∷ parts) rest = get_or points (rank shape (broadcast_index shape point)) [] ++ leads point parts rest
leads point (Between ∷ parts) rest = leads point parts rest
leads point (Axis (At number) ∷ parts) rest = number ∷ leads point parts rest
leads point (Axis (Along numbers) ∷ parts) (k ∷ rest) = slice_index numbers k ∷ leads point parts rest
leads point (Axis New ∷ parts) (k ∷ rest) = leads point parts rest
leads _ _ _ = []
