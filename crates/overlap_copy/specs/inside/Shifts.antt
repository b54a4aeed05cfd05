-- Items that are all moved by the same number of bytes.
use Rattle.std.specs.Prelude.{ℕ, ◌+◌, ◌-◌, ◌<◌, ◌≤◌, List, length, map, slice_index, All}
use Rattle.overlap_copy.specs.Words.{Run, max_bytes, max_items, IsNested, distance}

-- the offset that the item at `offset` comes from, if the item at `to` comes from `from`
abbrev pub source : ℕ → ℕ → ℕ → ℕ
source to from offset = offset + from - to

abbrev pub sources : ℕ → ℕ → List ℕ → List ℕ
sources to from offsets = map (source to from) offsets

abbrev pub source_run : ℕ → ℕ → Run → Run
source_run to from run = record { offset = source to from run.offset; count = run.count; step = run.step }

-- The items at these offsets can be copied from their sources one by one: none is overwritten before it is read.
pub record MayCome (len width to from : ℕ) (offsets : List ℕ) : Type 0 where
  pub few : length offsets ≤ max_items
  pub targets : All (λ offset. offset + width ≤ len) offsets
  pub low : All (λ offset. to ≤ offset + from) offsets
  pub sources_are : All (λ offset. source to from offset + width ≤ len) offsets
  pub begin : All (λ offset. source to from offset + 1 ≤ max_bytes) offsets
  pub nested : IsNested offsets width
  pub unread : (j k : ℕ) → j < k → k < length offsets → width ≤ distance (source to from (slice_index offsets k)) (slice_index offsets j)
