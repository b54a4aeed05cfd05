-- Laws about the lists of items that are reduced.
use Rattle.std.specs.Prelude.{◌<◌, ℕ, List, [], ◌∷◌, length}
use Rattle.std.proofs.Common.{zero, suc, get_or, arith}
use Rattle.reductions.specs.Words.{insert, remove, IsIndex}

-- An index of the other axes, with a number of the axis inserted, is an index of the array.
pub IsIndex-insert : (shape index : List ℕ) (a k : ℕ) → a < length shape → IsIndex (remove shape a) index → k < get_or shape a 0 → IsIndex shape (insert index a k)
IsIndex-insert [] index a k low in' below = absurd (omega (arith, low))
IsIndex-insert (n ∷ shape) index zero k low in' below = (below, in')
IsIndex-insert (n ∷ shape) [] (suc a) k low in' below = absurd in'
IsIndex-insert (n ∷ shape) (i ∷ index) (suc a) k low in' below = (in'.0, IsIndex-insert shape index a k (omega (arith, low)) in'.1 below)
