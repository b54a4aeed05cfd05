-- Numbers in adjacent items.
use Rattle.std.specs.Prelude.{◌≡◌, ◌+◌, ℕ, ℤ, List, All, length, map, take, drop}
use Rattle.raw_block.specs.Words.{flat_map, refill, first_chunks, little_number, twos_complement}
use Rattle.raw_block.specs.Bytes.{put}

-- the number that n bytes encode, lowest byte first, in two's complement
abbrev pub signed_number : ℕ → List ℕ → ℤ
signed_number n item = twos_complement n (little_number n item)

-- the numbers that items of n bytes encode
abbrev pub signed_numbers : ℕ → List (List ℕ) → List ℤ
signed_numbers n items = map (signed_number n) items

-- the n adjacent items of `width` bytes, starting at `at`
abbrev pub adjacent_items : ℕ → ℕ → ℕ → List ℕ → List (List ℕ)
adjacent_items width at n bytes = first_chunks width n (drop at bytes)

-- the numbers that these items encode
abbrev pub adjacent_numbers : ℕ → ℕ → ℕ → List ℕ → List ℤ
adjacent_numbers width at n bytes = signed_numbers width (adjacent_items width at n bytes)

-- there are n items, each of `width` bytes
abbrev pub AreArrays : ℕ → ℕ → List (List ℕ) → Type 0
AreArrays width n items = (length items ≡ n) × All (λ item. length item ≡ width) items

-- `bytes` after the adjacent items are written over the bytes starting at `at`, cut to the length of `bytes`
abbrev pub with_run : ℕ → List (List ℕ) → List ℕ → List ℕ
with_run at items bytes = refill (length bytes) bytes (put at (flat_map (λ item. item) items) bytes)

-- all bytes are unchanged but the n bytes starting at `at`
pub record SameBeside (at n : ℕ) (before after : List ℕ) : Type 0 where
  pub len : length after ≡ length before
  pub front : take at after ≡ take at before
  pub back : drop (at + n) after ≡ drop (at + n) before
