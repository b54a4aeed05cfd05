-- Broadcasting, as in NumPy: shapes are aligned at their last axes, and axes of length 1 are stretched.
use Rattle.std.specs.Prelude.{ℕ, ◌-◌, max, ◌==◌, Bool, true, ◌&&◌, ◌||◌, if◌then◌else◌, List, ◌∷◌, ◌++◌, length, take, drop, replicate}
use Rattle.std.proofs.Common.{false, [], Result, Ok}
use Rattle.broadcasting.specs.Words.{list_all, Refusal, ShapesDoNotBroadcast, ◌>>=◌, check, shape_of, View}

-- a shape padded to `rank` axes: the missing axes come first and have length 1
abbrev pub aligned : ℕ → List ℕ → List ℕ
aligned rank shape = replicate (rank - length shape) 1 ++ shape

-- ---- the common shape

-- whether two lengths of an axis are compatible: they are equal, or one of them is 1
abbrev pub go_together : ℕ → ℕ → Bool
go_together m n = (m == n) || (m == 1) || (n == 1)

-- the common length: the one that is not 1, if any
abbrev pub common_length : ℕ → ℕ → ℕ
common_length m n = if m == 1 then n else m

-- whether the lengths of two aligned shapes are compatible on each axis
abbrev pub all_go_together : List ℕ → List ℕ → Bool
all_go_together (m ∷ left) (n ∷ right) = go_together m n && all_go_together left right
all_go_together _ _ = true

abbrev pub common_lengths : List ℕ → List ℕ → List ℕ
common_lengths (m ∷ left) (n ∷ right) = common_length m n ∷ common_lengths left right
common_lengths _ _ = []

-- the common lengths of two shapes, or the refusal
unfoldable pub common_of_two : List ℕ → List ℕ → Result (List ℕ) Refusal
common_of_two left right = do
  let rank = max (length left) (length right)
  _ ← check (all_go_together (aligned rank left) (aligned rank right)) ShapesDoNotBroadcast
  Ok (common_lengths (aligned rank left) (aligned rank right))

-- the common lengths of `lengths` and further shapes, which are taken one after the other
abbrev pub common_with : List ℕ → List (List ℕ) → Result (List ℕ) Refusal
common_with lengths [] = Ok lengths
common_with lengths (shape ∷ shapes) = common_of_two lengths shape >>= (λ common. common_with common shapes)

-- the common shape of any number of shapes, or the refusal. The common shape of no shapes has no axes.
unfoldable pub common_shape : List (List ℕ) → Result (List ℕ) Refusal
common_shape shapes = do
  lengths ← common_with [] shapes
  shape_of lengths

-- ---- stretching to a shape

-- whether an axis of length m can be shown with length n
abbrev pub stretches : ℕ → ℕ → Bool
stretches m n = (m == n) || (m == 1)

abbrev pub all_stretch : List ℕ → List ℕ → Bool
all_stretch (m ∷ shape) (n ∷ target) = stretches m n && all_stretch shape target
all_stretch [] [] = true
all_stretch _ _ = false

abbrev pub can_stretch : List ℕ → List ℕ → Bool
can_stretch shape target = all_stretch (aligned (length target) shape) target

-- the index with 0 on each axis of length 1
abbrev pub within_axes : List ℕ → List ℕ → List ℕ
within_axes (n ∷ shape) (k ∷ index) = (if n == 1 then 0 else k) ∷ within_axes shape index
within_axes _ _ = []

-- the index of an array of this shape to which an index of the stretched array leads. The numbers of the new axes,
-- which come first, are dropped.
abbrev pub broadcast_index : List ℕ → List ℕ → List ℕ
broadcast_index shape index = within_axes shape (drop (length index - length shape) index)

-- the view of an array of the first shape that has the second shape, or the refusal
unfoldable pub stretched : List ℕ → List ℕ → Result View Refusal
stretched shape target = do
  _ ← check (can_stretch shape target) ShapesDoNotBroadcast
  Ok (record { shape = target; leads = broadcast_index shape })

-- ---- stretching into a target, as an assignment does

-- the number of axes beyond `rank`, which come first
abbrev pub axes_beyond : ℕ → List ℕ → ℕ
axes_beyond rank shape = length shape - rank

-- The view of an array of the first shape that has the second shape, or the refusal. Leading axes of length 1 beyond
-- those of the target are dropped.
unfoldable pub stretched_into : List ℕ → List ℕ → Result View Refusal
stretched_into shape target = do
  let more = axes_beyond (length target) shape
  _ ← check (list_all (λ n. n == 1) (take more shape)) ShapesDoNotBroadcast
  view ← stretched (drop more shape) target
  Ok (record { shape = target; leads = λ index. replicate more 0 ++ view.leads index })
