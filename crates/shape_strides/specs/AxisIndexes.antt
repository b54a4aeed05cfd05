-- Indexes that are 0 along most axes.
use Rattle.std.proofs.Common.{ℕ, List, zero, suc, [], ◌∷◌}

-- the index that begins with the numbers of the second list and continues with zeros
abbrev pub zero_filled : List ℕ → List ℕ → List ℕ
zero_filled [] front = []
zero_filled (n ∷ shape) [] = 0 ∷ zero_filled shape []
zero_filled (n ∷ shape) (k ∷ front) = k ∷ zero_filled shape front

-- the index that is 1 along an axis and 0 along the others
abbrev pub unit : List ℕ → ℕ → List ℕ
unit [] axis = []
unit (n ∷ shape) zero = 1 ∷ zero_filled shape []
unit (n ∷ shape) (suc axis) = 0 ∷ unit shape axis
