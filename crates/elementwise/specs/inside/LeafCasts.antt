-- Items that are cast leaf by leaf.
use Rattle.std.specs.Prelude.{◌≡◌, ℕ, ◌+◌, ◌<◌, ◌≤◌, List, length, map}
use Rattle.elementwise.specs.Words.{Descr, Leaf, LeafValue, Scalar, Bytes, size, decode, encode, item_size, leaves_of, leaf_at, item_from, item_at, with_items, row_offsets, place, Run, ScalarDescr, RecordDescr}
use Rattle.elementwise.specs.Casts.{cast_value, cast_item}

-- the bytes of a value of one scalar, cast to another
abbrev pub leaf_cast : Scalar → Scalar → List ℕ → List ℕ
leaf_cast from to bytes = encode to (cast_value to (decode from bytes))

-- the bytes of a leaf of the item at an offset, cast to a scalar
abbrev pub leaf_from : Leaf → Scalar → List ℕ → ℕ → List ℕ
leaf_from leaf to other offset = leaf_cast leaf.scalar to (item_at (offset + leaf.at) (size leaf.scalar) other)

-- the leaf that is cast to the `k`-th leaf: always the same, if it is cast from a scalar
abbrev pub source : Descr → ℕ → Leaf
source (ScalarDescr scalar) k = record { scalar = scalar; at = 0 }
source (RecordDescr structure) k = leaf_at (RecordDescr structure) k

-- there is such a leaf
abbrev pub HasSource : Descr → ℕ → Type 0
HasSource (ScalarDescr scalar) k = Unit {0}
HasSource (RecordDescr structure) k = k < length (leaves_of (RecordDescr structure))

-- the `k`-th leaf of all items in `bytes` is cast from the items at `offsets` in `other`
pub record IsLeafCast (from to : Descr) (other offsets bytes : List ℕ) (k : ℕ) : Type 0 where
  pub written : map (λ o. item_at o (size (leaf_at to k).scalar) bytes) (row_offsets (leaf_at to k).at (item_size to) (length offsets)) ≡ map (leaf_from (source from k) (leaf_at to k).scalar other) offsets

-- the rows, after the `k`-th leaf of each is cast from the items at `offsets`
abbrev pub with_leaf : Descr → Descr → List ℕ → List ℕ → ℕ → List ℕ → List ℕ
with_leaf from to other offsets k rows =
    with_items (row_offsets (leaf_at to k).at (item_size to) (length offsets)) (map (leaf_from (source from k) (leaf_at to k).scalar other) offsets) rows

-- the items at `offsets`, cast
abbrev pub cast_items : Descr → Descr → List ℕ → List ℕ → List (List LeafValue)
cast_items from to other offsets = map (λ offset. cast_item from to (item_from from other offset)) offsets

-- a cast of byte strings to ones that are not longer, which keeps the first bytes of each item
pub record IsCut (from to : Descr) : Type 0 where
  pub width : ℕ
  pub target : ℕ
  pub from_is : from ≡ ScalarDescr (Bytes width)
  pub to_is : to ≡ ScalarDescr (Bytes target)
  pub shorter : target ≤ width

-- `n` items of a run, from the item `first` on
abbrev pub run_part : Run → ℕ → ℕ → Run
run_part run first n = record { offset = place run.offset run.step first; count = n; step = run.step }
