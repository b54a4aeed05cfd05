-- Items of a run that are kept, at the end of a block with room for more, and then written over.
use Rattle.std.specs.Prelude.{◌≡◌, ◌+◌, ◌*◌, ◌++◌, ◌≤◌, ℕ, List}
use Rattle.overlap_copy.specs.Copies.{ArePaired, Assigns}
use Rattle.overlap_copy.specs.Words.{BeginsWithin, RunPair, joined_at, run_offsets}

-- the items of the first run can be kept, and those of the second run, in `other`, written over them
pub record CanOverwrite (pair : RunPair) (width : ℕ) (other block : List ℕ) (kept : List ℕ × ℕ) : Type 0 where
  pub begins : BeginsWithin pair.first
  pub other_begins : BeginsWithin pair.second
  pub paired : ArePaired (run_offsets pair.first) (run_offsets pair.second) width other block
  pub room : pair.first.count * width ≤ kept.1

-- they are: the block, and what is kept, before and after
pub record Overwrites (pair : RunPair) (width : ℕ) (other : List ℕ) (old new : List ℕ × (List ℕ × ℕ)) : Type 0 where
  pub there : Assigns (run_offsets pair.first) (run_offsets pair.second) width other old.0 new.0
  pub old_items : new.1.0 ≡ old.1.0 ++ joined_at (run_offsets pair.first) width old.0
  pub left : pair.first.count * width + new.1.1 ≡ old.1.1
