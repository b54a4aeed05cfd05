-- Parts as the code stores them: slices as runs, and points as ranks.
use Rattle.std.specs.Prelude.{◌≡◌, ◌<◌, ◌≤◌, Bool, true, Result, ℕ, List, [], ◌∷◌, ◌++◌, map, length, get_or}
use Rattle.fancy_index.specs.Words.{list_all, flat_map, Refusal, IndexOutOfRange, check, ◌>>=◌, View, IndexItem, Layout, rank, IsIndex, natural, address, max_axes, AxisPick, IsRunWithin, has_step, picked_index, pick_shown, first_of, can_stretch, broadcast_index, AtAxis, AlongAxis}
use Rattle.view_ops.specs.declared.picks.AxisPick.TheVariants.{New as NewAxis}
use Rattle.fancy_index.specs.declared.points.PointList.{PointList}
use Rattle.fancy_index.specs.declared.index_parts.IndexPart.{IndexPart}
use Rattle.fancy_index.specs.declared.index_parts.IndexPart.TheVariants.{Axis as AxisPart, Points as PointsPart, Between as BetweenPart}
use Rattle.fancy_index.specs.IndexArrays.{IndexArray, is_index, array_axes_taken, cover}
use Rattle.fancy_index.specs.Parts.{Part, Axis, Between, other_axes}
use Rattle.fancy_index.specs.Indexed.{parts_view}
use Rattle.fancy_index.specs.inside.PointLists.{tuple, ranks_of, are_named, shown_points, IsPointList}

-- an index list that has passed all checks but those of its numbers
pub record IsChecked (shape : List ℕ) (items : List (IndexItem IndexArray)) : Type 0 where
  pub index : list_all is_index items ≡ true
  pub enough : array_axes_taken items ≤ length shape
  pub covers : cover shape items ≡ true
  pub steps : list_all has_step items ≡ true

abbrev pub shown_part : IndexPart → Part
shown_part (AxisPart pick) = Axis (pick_shown pick)
shown_part (PointsPart p) = shown_points p
shown_part BetweenPart = Between

-- The parts take all axes of a shape, in order. Each number, run and point is within the axes that its part takes.
abbrev pub AreParts : List ℕ → List IndexPart → Type 0
AreParts shape (BetweenPart ∷ parts) = AreParts shape parts
AreParts shape (PointsPart p ∷ parts) = IsPointList p × (rest : List ℕ) × (shape ≡ p.axes.items ++ rest) × AreParts rest parts
AreParts shape (AxisPart NewAxis ∷ parts) = AreParts shape parts
AreParts [] [] = Unit {0}
AreParts (n ∷ shape) (AxisPart (AtAxis number) ∷ parts) = (number < n) × AreParts shape parts
AreParts (n ∷ shape) (AxisPart (AlongAxis run) ∷ parts) = IsRunWithin run n × AreParts shape parts
AreParts _ _ = ⊥

-- whether each number of an array of integers is within its axis
abbrev pub is_named : IndexPart → Bool
is_named (PointsPart p) = are_named p.ranks
is_named _ = true

abbrev pub all_named : List IndexPart → Bool
all_named parts = list_all is_named parts

-- Parts that take `axes` are appended to `old`. If `test`, the check of their numbers, holds, they show `parts`.
pub record AddsParts (old new : List IndexPart) (axes : List ℕ) (test : Bool) (parts : List Part) : Type 0 where
  pub added : List IndexPart
  pub after : new ≡ old ++ added
  pub are : AreParts axes added
  pub named : all_named added ≡ test
  pub show : test ≡ true → map shown_part added ≡ parts

-- what `parts_view` gives, or the refusal of a number that is out of range
abbrev pub view_if_named : List IndexPart → Result View Refusal
view_if_named parts = check (all_named parts) IndexOutOfRange >>= λ _. parts_view (map shown_part parts)

-- the points of a part, if it has any, can be stretched to the shape `points`
abbrev pub IsReady : List ℕ → IndexPart → Type 0
IsReady points (PointsPart p) = IsPointList p × (can_stretch p.lengths.items points ≡ true) × (length p.axes.items ≤ max_axes)
IsReady points _ = Unit {0}

-- the points have one for the index `at` of the common shape
pub record HasPointAt (at : List ℕ) (p : PointList) : Type 0 where
  pub list : IsPointList p
  pub few : length p.lengths.items ≤ length at
  pub within : IsIndex p.lengths.items (broadcast_index p.lengths.items at)
  pub axes : length p.axes.items ≤ max_axes

abbrev pub IsReadyAt : List ℕ → IndexPart → Type 0
IsReadyAt at (PointsPart p) = HasPointAt at p
IsReadyAt at _ = Unit {0}

-- the point at an index of the common shape
abbrev pub point_of : PointList → List ℕ → List ℕ
point_of p at = tuple p.axes.items (get_or (ranks_of p.ranks) (rank p.lengths.items (broadcast_index p.lengths.items at)) 0)

-- the numbers of that point on the axes of a part. A part without points gives the first number that it picks.
abbrev pub numbers_at : List ℕ → IndexPart → List ℕ
numbers_at at (AxisPart pick) = first_of pick
numbers_at at (PointsPart p) = point_of p at
numbers_at at BetweenPart = []

-- the index of the first item with the point at `at`, and the offset of that item
abbrev pub first_at : List IndexPart → List ℕ → List ℕ
first_at parts at = flat_map (numbers_at at) parts

abbrev pub first_offset : Layout → List IndexPart → List ℕ → ℕ
first_offset layout parts at = natural (address layout (first_at parts at))

abbrev pub LeadInto : Layout → List ℕ → List IndexPart → Type 0
LeadInto layout points parts = (at : List ℕ) → IsIndex points at → IsIndex layout.shape (first_at parts at)

-- the picks of a part if all points are 0
abbrev pub rest_of : IndexPart → List AxisPick
rest_of (AxisPart pick) = pick ∷ []
rest_of (PointsPart p) = map (λ _. AtAxis 0) p.axes.items
rest_of BetweenPart = []

abbrev pub rest_picks : List IndexPart → List AxisPick
rest_picks parts = flat_map rest_of parts

-- `rest` is the layout that these picks show
pub record IsRest (layout : Layout) (parts : List IndexPart) (rest : Layout) : Type 0 where
  pub shape : rest.shape ≡ other_axes (map shown_part parts)
  pub leads : (index : List ℕ) → IsIndex rest.shape index → IsIndex layout.shape (picked_index (map pick_shown (rest_picks parts)) index)
  pub same : (index : List ℕ) → IsIndex rest.shape index → address rest index ≡ address layout (picked_index (map pick_shown (rest_picks parts)) index)
