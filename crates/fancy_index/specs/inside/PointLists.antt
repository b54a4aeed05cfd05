-- Points as the code stores them: by their ranks along their axes.
use Rattle.std.specs.Prelude.{◌≡◌, ◌⊎◌, ◌<◌, ℕ, ◌+◌, ◌%◌, Bool, true, if◌then◌else◌, ℤ, pos, List, [], ◌∷◌, map, length, get_or, All}
use Rattle.fancy_index.specs.Words.{list_all, int_eq, count, indexes, is_place}
use Rattle.fancy_index.specs.declared.points.PointList.{PointList}
use Rattle.fancy_index.specs.declared.points.Ranks.{Ranks}
use Rattle.fancy_index.specs.declared.points.Ranks.TheVariants.{Held, Masked, Named}
use Rattle.fancy_index.specs.inside.Items.{numbers_in}
use Rattle.fancy_index.specs.inside.Words.{place_of}
use Rattle.fancy_index.specs.Parts.{Part, Points}

-- the rank of a number along an axis of n, which is not empty: its place, if the number is in range
abbrev pub rank_on : ℕ → ℤ → ℕ
rank_on n at = place_of n at % n

abbrev pub HavePlaces : ℕ → List ℤ → Type 0
HavePlaces n numbers = (0 < n) ⊎ (numbers ≡ [])

-- the ranks of the numbers that are not 0, if the rank of the first number is `rank`
abbrev pub true_ranks : ℕ → List ℤ → List ℕ
true_ranks rank [] = []
true_ranks rank (number ∷ numbers) = if int_eq number (pos 0) then true_ranks (rank + 1) numbers else rank ∷ true_ranks (rank + 1) numbers

-- the index with a rank
abbrev pub tuple : List ℕ → ℕ → List ℕ
tuple axes rank = get_or (indexes axes) rank []

-- the ranks of points, and whether each number is in range
abbrev pub ranks_of : Ranks → List ℕ
ranks_of (Named named) = map (rank_on named.n) (numbers_in named.array)
ranks_of (Masked mask) = true_ranks 0 (numbers_in mask.array)
ranks_of (Held ranks) = ranks.items

abbrev pub are_named : Ranks → Bool
are_named (Named named) = list_all (is_place named.n) (numbers_in named.array)
are_named _ = true

abbrev pub shown_points : PointList → Part
shown_points p = Points p.lengths.items (map (tuple p.axes.items) (ranks_of p.ranks))

-- There is a point for each item of the points' own shape, and each point is within the axes.
pub record IsPointList (p : PointList) : Type 0 where
  pub within : All (λ rank. rank < count p.axes.items) (ranks_of p.ranks)
  pub many : length (ranks_of p.ranks) ≡ count p.lengths.items

-- `p` has the axes `taken`. If `test`, the check of its numbers, holds, it is the one part of `parts`.
pub record IsPart (taken : List ℕ) (test : Bool) (p : PointList) (parts : List Part) : Type 0 where
  pub axes : p.axes.items ≡ taken
  pub list : IsPointList p
  pub named : are_named p.ranks ≡ test
  pub shows : test ≡ true → parts ≡ shown_points p ∷ []
