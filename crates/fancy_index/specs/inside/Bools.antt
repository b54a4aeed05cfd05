-- Bools, read from bytes.
use Rattle.std.specs.Prelude.{ℕ, ◌≡◌, ◌+◌, ◌/◌, ◌%◌, ◌^◌, ◌<◌, ◌≤◌, ℤ, pos, List, [], ◌∷◌, ◌++◌, map, length, get_or, take, drop, count_by, not, All}
use Rattle.fancy_index.specs.Words.{digits_l, int_eq, truth, LieWithin, max_items, max_bytes, run_offsets}
use Rattle.fancy_index.specs.declared.bools.Bools.{Bools}
use Rattle.fancy_index.specs.inside.PointLists.{true_ranks}

-- the bool in the byte at an offset: 0 or 1
abbrev pub bool_at : List ℕ → ℕ → ℤ
bool_at bytes offset = pos (truth (get_or bytes offset 0))

-- the bools of a run, as numbers
abbrev pub bools_in : Bools → List ℤ
bools_in bools = map (bool_at bools.bytes.now) (run_offsets bools.run)

-- the ranks of the true bools, without the first `from` bools
abbrev pub ranks_from : Bools → ℕ → List ℕ
ranks_from bools from = true_ranks (bools.rank + from) (drop from (bools_in bools))

-- how many numbers are not 0
abbrev pub true_count : List ℤ → ℕ
true_count numbers = count_by (λ number. not (int_eq number (pos 0))) numbers

-- the bools from `from` up to, but not including, `end` all have this number
abbrev pub AreAll : Bools → ℕ → ℕ → ℕ → Type 0
AreAll bools from end number = (k : ℕ) → from ≤ k → k < end → get_or (bools_in bools) k (pos 0) ≡ pos number

-- the `n` lowest bits of a number, the lowest first
abbrev pub bits : ℕ → ℕ → List ℤ
bits n number = map (λ bit. pos bit) (digits_l 2 n number)

-- the `n` bools from `from` on are the lowest bits of a number
abbrev pub AreBits : Bools → ℕ → ℕ → ℕ → Type 0
AreBits bools from n number = (k : ℕ) → k < n → get_or (bools_in bools) (from + k) (pos 0) ≡ pos (number / 2 ^ k % 2)

-- the bools lie within their bytes, and their ranks are within the limit
pub record LieInBytes (bools : Bools) : Type 0 where
  pub few : bools.rank + bools.run.count ≤ max_items
  pub limit : LieWithin (bools.run.count ∷ []) (bools.run.step ∷ []) bools.run.offset max_bytes 1
  pub inside : All (λ offset. offset < length bools.bytes.now) (run_offsets bools.run)

-- at most 512 bools, from `from` up to, but not including, `to`
pub record IsBlock (bools : Bools) (from to : ℕ) : Type 0 where
  pub lie : LieInBytes bools
  pub order : from ≤ to
  pub end : to ≤ bools.run.count
  pub few : to ≤ from + 512

-- the first `many` numbers in `found` are the ranks of the true ones among these bools
pub record AreNoted (bools : Bools) (from end : ℕ) (found : List ℕ) (many : ℕ) : Type 0 where
  pub few : many ≤ 512
  pub ranks : take many found ++ ranks_from bools end ≡ ranks_from bools from
