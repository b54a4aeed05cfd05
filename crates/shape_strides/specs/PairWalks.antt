-- The state of a walk over two layouts.
use Rattle.std.specs.Prelude.{◌≡◌, ℕ, ◌≤◌, ℤ, pos, ◌+ℤ◌, ◌≤ℤ◌, List, [], ◌∷◌, length, Option, Some, None}
use Rattle.shape_strides.specs.Words.{Each, numbers_from}
use Rattle.shape_strides.specs.declared.runs.Run.{Run}
use Rattle.shape_strides.specs.declared.run_pairs.RunPair.{RunPair}
use Rattle.shape_strides.specs.Limits.{max_bytes, max_items}
use Rattle.shape_strides.specs.RunPairs.{all_offsets}

-- The address `z` is within the limit of a buffer.
abbrev pub IsInBytes : ℤ → Type 0
IsInBytes z = (pos 0 ≤ℤ z) × ((z +ℤ pos 1) ≤ℤ pos max_bytes)

-- A run with 1 to max_items items, which all begin within that limit.
pub record IsWhole (run : Run) : Type 0 where
  pub some : 1 ≤ run.count
  pub few : run.count ≤ max_items
  pub lies : Each IsInBytes (numbers_from (pos run.offset) run.step run.count)

abbrev pub AreWhole : List Run → Type 0
AreWhole [] = Unit {0}
AreWhole (run ∷ runs) = IsWhole run × AreWhole runs

-- Two walks have the same number of items left, which is at most `most`.
pub record AreEven (most : ℕ) (xs ys : List Run) : Type 0 where
  pub whole : AreWhole xs
  pub whole' : AreWhole ys
  pub same : length (all_offsets xs) ≡ length (all_offsets ys)
  pub few : length (all_offsets xs) ≤ most

-- If there is a current pair of runs, the two walks that begin with its runs have the same number of items left.
abbrev pub IsAtPair : Option RunPair → List Run → List Run → Type 0
IsAtPair None xs ys = Unit {0}
IsAtPair (Some pair) xs ys = AreEven (length (all_offsets (pair.first ∷ xs))) (pair.first ∷ xs) (pair.second ∷ ys)
