-- The indexes of a shape in C order, and their ranks. A shape is the list of its axis lengths.
use Rattle.std.specs.Prelude.{ℕ, ◌+◌, ◌*◌, ◌<◌, List, [], ◌∷◌, map}
use Rattle.shape_strides.specs.Words.{flat_map, range_with_len}

-- the number of items of an array of this shape: the product of the lengths
abbrev pub count : List ℕ → ℕ
count [] = 1
count (n ∷ shape) = n * count shape

-- the indexes of a shape in C order, in which the last axis changes fastest
abbrev pub indexes : List ℕ → List (List ℕ)
indexes [] = [] ∷ []
indexes (n ∷ shape) = flat_map (λ k. map (λ i. k ∷ i) (indexes shape)) (range_with_len 0 n)

-- An index has one number for each axis, from 0 to less than the length of the axis.
abbrev pub IsIndex : List ℕ → List ℕ → Type 0
IsIndex [] [] = Unit {0}
IsIndex (n ∷ shape) (k ∷ index) = (k < n) × IsIndex shape index
IsIndex _ _ = ⊥

-- the rank of an index: its position in C order, counted from 0
abbrev pub rank : List ℕ → List ℕ → ℕ
rank (n ∷ shape) (k ∷ index) = k * count shape + rank shape index
rank _ _ = 0
