-- Basic indexes, as in NumPy: integers, slices, `...` and new axes.
use Rattle.std.specs.Prelude.{ℕ, ◌-◌, nat_le, Bool, true, false, not, pos, unwrap_or, List, [], ◌∷◌, map, take, drop, length, count_by, slice_index, Result, Ok}
use Rattle.view_ops.specs.Words.{int_eq, list_all, flat_map, range_with_len, result_unwrap_or, Refusal, TooManyAxes, TooManyIndices, IndexOutOfRange, ZeroStep, ◌>>=◌, check, IndexItem, Integer, Slice, Ellipsis, NewAxis, max_axes, natural}
use Rattle.view_ops.specs.Slices.{from_front, is_place, slice_indices}
use Rattle.view_ops.specs.Views.{View}

-- ---- the axes that an item takes

abbrev pub takes_axis : {A : Type 0} → IndexItem A → Bool
takes_axis Ellipsis = false
takes_axis NewAxis = false
takes_axis _ = true

-- the number of axes that the items take, not counting those that `...` takes
abbrev pub axes_taken : {A : Type 0} → List (IndexItem A) → ℕ
axes_taken items = count_by takes_axis items

-- The number of axes that an item takes if `left` axes remain: `...` takes all but those of the items after it. `taken`
-- counts the axes of items, without those that `...` takes.
abbrev pub width : {A : Type 0} → (List (IndexItem A) → ℕ) → ℕ → IndexItem A → List (IndexItem A) → ℕ
width taken left Ellipsis later = left - taken later
width taken left item later = taken (item ∷ [])

-- an item and the lengths of the axes that it takes
pub record Placed (A : Type 0) : Type 0 where
  pub item : IndexItem A
  pub axes : List ℕ

-- The items of an index, each with the axes that it takes. The axes after the last item are taken as if by `...`.
abbrev pub placed : {A : Type 0} → (List (IndexItem A) → ℕ) → List ℕ → List (IndexItem A) → List (Placed A)
placed taken shape [] = record { item = Ellipsis; axes = shape } ∷ []
placed taken shape (item ∷ items) =
    let n = width taken (length shape) item items in
    record { item = item; axes = take n shape } ∷ placed taken (drop n shape) items

-- ---- what is refused

abbrev pub has_step : {A : Type 0} → IndexItem A → Bool
has_step (Slice start stop step) = not (int_eq (unwrap_or step (pos 1)) (pos 0))
has_step _ = true

abbrev pub is_on_axis : {A : Type 0} → List ℕ → IndexItem A → Bool
is_on_axis (n ∷ axes) (Integer at) = is_place n at
is_on_axis _ _ = true

-- ---- picks

-- what is picked of an axis: one number (the axis is dropped), or these numbers in this order; or else a new axis of
-- length 1
pub data Pick : Type 0 where
  At : ℕ → Pick
  Along : List ℕ → Pick
  New : Pick

abbrev pub whole : ℕ → Pick
whole n = Along (range_with_len 0 n)

-- what an item picks from the axes that it takes; the step of a slice is not 0 here
abbrev pub picks_of : {A : Type 0} → List ℕ → IndexItem A → List Pick
picks_of axes Ellipsis = map whole axes
picks_of axes NewAxis = New ∷ []
picks_of (n ∷ axes) (Integer at) = At (natural (from_front n at)) ∷ []
picks_of (n ∷ axes) (Slice start stop step) = Along (result_unwrap_or (slice_indices n start stop step) []) ∷ []
picks_of _ _ = []

abbrev pub picks : {A : Type 0} → List ℕ → List (IndexItem A) → List Pick
picks shape items = flat_map (λ p. picks_of p.axes p.item) (placed axes_taken shape items)

-- ---- the view

abbrev pub axis_of : Pick → List ℕ
axis_of (At number) = []
axis_of (Along numbers) = length numbers ∷ []
axis_of New = 1 ∷ []

abbrev pub picked_shape : List Pick → List ℕ
picked_shape picks = flat_map axis_of picks

-- the index of the old array to which an index of the result leads
abbrev pub picked_index : List Pick → List ℕ → List ℕ
picked_index (At number ∷ picks) index = number ∷ picked_index picks index
picked_index (Along numbers ∷ picks) (k ∷ index) = slice_index numbers k ∷ picked_index picks index
picked_index (New ∷ picks) (k ∷ index) = picked_index picks index
picked_index _ _ = []

-- the view that picks make, or the refusal if it has too many axes
unfoldable pub picked_view : List Pick → Result View Refusal
picked_view picks = do
  _ ← check (nat_le (length (picked_shape picks)) max_axes) TooManyAxes
  Ok (record { shape = picked_shape picks; leads = picked_index picks })

-- the view that a basic index makes, or the first refusal that applies
unfoldable pub basic : {A : Type 0} → List ℕ → List (IndexItem A) → Result View Refusal
basic shape items = do
  _ ← check (nat_le (axes_taken items) (length shape)) TooManyIndices
  _ ← check (list_all has_step items) ZeroStep
  _ ← check (list_all (λ p. is_on_axis p.axes p.item) (placed axes_taken shape items)) IndexOutOfRange
  picked_view (picks shape items)
