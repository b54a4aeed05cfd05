-- The results on all pairs of items of two operands.
use Rattle.std.specs.Prelude.{◌≡◌, ◌≤◌, ◌*◌, ℕ, List, [], ◌∷◌, length}
use Rattle.elementwise.specs.Words.{concat, EachWithin, RunPair, LeafValue, item_size, items, count, offsets, size, max_bytes, Owned, ScalarDescr, value_in}
use Rattle.elementwise.specs.Results.{pairwise}
use Rattle.elementwise.specs.inside.PairPasses.{pair_from}
use Rattle.elementwise.specs.inside.Added.{AreAdded}
use Rattle.elementwise.specs.inside.Made.{IsMade}
use Rattle.elementwise.specs.inside.Works.{left_of, right_of, target_of, gives, CanPair}
use Rattle.elementwise.specs.declared.pairing.Pairing.{Pairing}
use Rattle.elementwise.specs.declared.loops.row_pairs.Operands.{Operands}

-- the number of pairs of items
abbrev pub pairs_of : Operands → ℕ
pairs_of o = count o.left.layout.now.shape

-- the runs of a row have equally many items, which lie within the blocks
pub record IsRow (o : Operands) (row : RunPair) : Type 0 where
  pub even : row.first.count ≡ row.second.count
  pub first : EachWithin (length o.left.block.now) row.first.offset row.first.step (item_size o.left.descr.now) row.first.count
  pub second : EachWithin (length o.right.block.now) row.second.offset row.second.step (item_size o.right.descr.now) row.second.count

-- the bytes that `f` makes of each pair, concatenated
abbrev pub made_of_all : (List ℕ → List ℕ → List ℕ) → Operands → List ℕ
made_of_all f o =
    let make = pair_from f (item_size o.left.descr.now) (item_size o.right.descr.now) o.left.block.now o.right.block.now in
    concat (pairwise make (offsets o.left.layout.now) (offsets o.right.layout.now))

-- the results of `f` for all pairs, of `width` bytes each, are appended to a block
abbrev pub AreAllMade : (List ℕ → List ℕ → List ℕ) → ℕ → Operands → List ℕ × ℕ → List ℕ × ℕ → Type 0
AreAllMade f width o = AreAdded (pairs_of o * width) (made_of_all f o)

-- the items that a pairing makes of each pair
abbrev pub all_made : Pairing → Operands → List (List LeafValue)
all_made p o = pairwise (λ x y. gives p (value_in x) (value_in y) ∷ []) (items o.left) (items o.right)

-- the operands have the scalars of a pairing, and its results fit in a block
pub record AreMatched (p : Pairing) (o : Operands) : Type 0 where
  pub can : CanPair p
  pub left : o.left.descr.now ≡ ScalarDescr (left_of p)
  pub right : o.right.descr.now ≡ ScalarDescr (right_of p)
  pub few : pairs_of o * size (target_of p) ≤ max_bytes

-- an array of these results
abbrev pub IsPaired : Pairing → Operands → Owned → Type 0
IsPaired p o = IsMade (ScalarDescr (target_of p)) o.left.layout.now.shape (all_made p o)
