-- The bytes that items take up, and maps of bytes: lists of marks for the bytes from some `start` on.
use Rattle.std.specs.Prelude.{ℕ, ◌+◌, ◌-◌, ◌≤◌, ◌<◌, Bool, ◌&&◌, false, List, nat_le, nat_lt, slice_index_or, IsTrue}
use Rattle.overlap_copy.specs.Words.{list_any}

-- some item contains the byte
unfoldable pub holds_byte : List ℕ → ℕ → ℕ → Bool
holds_byte offsets item byte = list_any (λ p. nat_le p byte && nat_lt byte (p + item)) offsets

-- The byte is marked in a map that begins with the mark of byte `start`. Bytes outside the map are not marked.
abbrev pub is_marked : List Bool → ℕ → ℕ → Bool
is_marked marks start byte = nat_le start byte && slice_index_or marks (byte - start) false

-- the last byte of the item at `offset` is marked
abbrev pub is_end_marked : List Bool → ℕ → ℕ → ℕ → Bool
is_end_marked marks start item offset = is_marked marks start (offset + item - 1)

-- one of the `width` marks that end with the mark at `i` is set
pub record IsMarkedUpTo (marks : List Bool) (width i : ℕ) : Type 0 where
  pub at : ℕ
  pub up_to : at ≤ i
  pub near : i < at + width
  pub marked : IsTrue (slice_index_or marks at false)
