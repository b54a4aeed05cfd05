-- Moves of items, by index: the k-th item is copied from one place to another.
use Rattle.std.specs.Prelude.{◌≡◌, ℕ, ◌+◌, ◌-◌, ◌<◌, ◌≤◌, ◌⊎◌, pos, neg_ℤ, ◌+ℤ◌, ◌*ℤ◌, List, [], ◌∷◌, length, slice_index}
use Rattle.overlap_copy.specs.Words.{BeginsWithin, IsNested, flat_map, Each, EachWithin, item_at, place, Run, RunPair, run_offsets, max_items, LieWithin, distance}

-- the items of a run, of `width` bytes, lie within `len` bytes
abbrev pub RunLies : ℕ → ℕ → Run → Type 0
RunLies len width run = EachWithin len run.offset run.step width run.count

-- there are as many items in the run `to` as in the run `from`, and they lie within `block` and within `other`
pub record RunsLie (to from : Run) (width : ℕ) (other block : List ℕ) : Type 0 where
  pub count : to.count ≡ from.count
  pub to_in : RunLies (length block) width to
  pub from_in : RunLies (length other) width from

-- the offsets of the first runs of the pairs, and of the second runs
abbrev pub firsts : List RunPair → List ℕ
firsts pairs = flat_map (λ (pair : RunPair). run_offsets pair.first) pairs

abbrev pub seconds : List RunPair → List ℕ
seconds pairs = flat_map (λ (pair : RunPair). run_offsets pair.second) pairs

-- byte `j` lies outside of the n items
abbrev pub IsOutside : ℕ → (ℕ → ℕ) → ℕ → ℕ → Type 0
IsOutside n to width j = (k : ℕ) → k < n → (j < to k) ⊎ (to k + width ≤ j)

-- each of the n items is copied to its place, and all other bytes are unchanged
pub record IsAssigned (n : ℕ) (to from : ℕ → ℕ) (width : ℕ) (other old new : List ℕ) : Type 0 where
  pub len : length new ≡ length old
  pub items : (k : ℕ) → k < n → item_at (to k) width new ≡ item_at (from k) width other
  pub rest : (j : ℕ) → IsOutside n to width j → slice_index new j ≡ slice_index old j

-- a run of at least two items, all of which lie within the first `len` bytes
pub record IsLine (len item : ℕ) (run : Run) : Type 0 where
  pub two : 2 ≤ run.count
  pub few : run.count ≤ max_items
  pub lies : LieWithin (run.count ∷ []) (run.step ∷ []) run.offset len item

-- the offset of the k-th item of a run
abbrev pub place_in : Run → ℕ → ℕ
place_in run k = place run.offset run.step k

-- the items of the run do not overlap
pub record AreSpaced (width : ℕ) (run : Run) : Type 0 where
  pub apart : (j k : ℕ) → j < k → k < run.count → width ≤ distance (place_in run j) (place_in run k)

-- `back` is the run in reverse: it has the items from the last to the first
pub record IsTurned (run back : Run) : Type 0 where
  pub offset : pos back.offset ≡ pos run.offset +ℤ run.step *ℤ pos (run.count - 1)
  pub step : back.step ≡ neg_ℤ run.step
  pub count : back.count ≡ run.count

-- Two runs have the same step and the same number of items, which is at least two, and lie within a block. The items of
-- the first run do not overlap.
pub record AreAlike (to from : Run) (width : ℕ) (block : List ℕ) : Type 0 where
  pub lie : RunsLie to from width block block
  pub two : 2 ≤ to.count
  pub step : from.step ≡ to.step
  pub spaced : AreSpaced width to

-- the items of a run can be moved to another run with the same step, in one block
pub record CanMoveRun (to from : Run) (width : ℕ) (block : List ℕ) : Type 0 where
  pub lie : RunsLie to from width block block
  pub some : 1 ≤ to.count
  pub few : to.count ≤ max_items
  pub step : from.step ≡ to.step
  pub to_limit : BeginsWithin to
  pub from_limit : BeginsWithin from
  pub nested : IsNested (run_offsets to) width

-- the item at offset `at` shares no byte with the items at the offsets `from`
abbrev pub LiesApart : ℕ → ℕ → List ℕ → Type 0
LiesApart width at from = Each (λ offset. width ≤ distance offset at) from

-- no item at the offsets `to` shares a byte with an item at the offsets `from`
abbrev pub LieApart : ℕ → List ℕ → List ℕ → Type 0
LieApart width to from = Each (λ at. LiesApart width at from) to
