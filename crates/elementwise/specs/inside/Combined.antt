-- The results of a pairing on the items of two arrays, or on parts of them.
use Rattle.std.specs.Prelude.{◌≡◌, ◌≤◌, true, List, ◌∷◌, [], map}
use Rattle.elementwise.specs.Words.{Descr, LeafValue, Comparison, size, item_from, Items, Run, offsets, run_offsets, Owned, ScalarDescr, BoolScalar, value_in}
use Rattle.elementwise.specs.Casts.{can_cast, cast_item}
use Rattle.elementwise.specs.Results.{compared_item, pairwise, items_stretched}
use Rattle.elementwise.specs.declared.loops.row_pairs.Broadcast.{Broadcast}
use Rattle.elementwise.specs.declared.pairing.Pairing.{Pairing}
use Rattle.elementwise.specs.inside.Made.{IsMade}
use Rattle.elementwise.specs.inside.Works.{left_of, right_of, target_of, gives, CanPair}

-- the result of a pairing on two items, which are cast to its scalars first
abbrev pub given : Pairing → Descr → Descr → List LeafValue → List LeafValue → List LeafValue
given p from other x y = gives p (value_in (cast_item from (ScalarDescr (left_of p)) x)) (value_in (cast_item other (ScalarDescr (right_of p)) y)) ∷ []

-- the items along a run
abbrev pub run_items : Items → Run → List (List LeafValue)
run_items i run = map (item_from i.descr.now i.block.now) (run_offsets run)

-- the results on the items along two runs
abbrev pub all_given : Pairing → Broadcast → Run → Run → List (List LeafValue)
all_given p b run other = pairwise (given p b.left.descr.now b.right.descr.now) (run_items b.left run) (run_items b.right other)

-- the items can be cast to the scalars of a pairing, which have at most 8 bytes, as the results do
pub record AreCastable (p : Pairing) (b : Broadcast) : Type 0 where
  pub can : CanPair p
  pub small : (size (left_of p) ≤ 8) × (size (right_of p) ≤ 8) × (size (target_of p) ≤ 8)
  pub left : can_cast b.left.descr.now (ScalarDescr (left_of p)) ≡ true
  pub right : can_cast b.right.descr.now (ScalarDescr (right_of p)) ≡ true

-- an array of the results on all items, which are stretched to the common shape
abbrev pub IsCombined : Pairing → Broadcast → Owned → Type 0
IsCombined p b = IsMade (ScalarDescr (target_of p)) b.shape.now (pairwise (given p b.left.descr.now b.right.descr.now) (items_stretched b.left b.shape.now) (items_stretched b.right b.shape.now))

-- the bools that a comparison gives on the items of two arrays
abbrev pub AreCompared : Comparison → Broadcast → Owned → Type 0
AreCompared comparison b = IsMade (ScalarDescr BoolScalar) b.shape.now (pairwise (compared_item comparison) (items_stretched b.left b.shape.now) (items_stretched b.right b.shape.now))

-- the bools that a comparison gives on the items of an array and one value
abbrev pub AreComparedWith : Comparison → Items → LeafValue → Owned → Type 0
AreComparedWith comparison i value = IsMade (ScalarDescr BoolScalar) i.layout.now.shape (map (λ offset. compared_item comparison (item_from i.descr.now i.block.now offset) (value ∷ [])) (offsets i.layout.now))
