-- Concatenated items.
use Rattle.std.proofs.Common.{ℕ}
use Rattle.std.specs.Prelude.{List}
use Rattle.arrays.specs.Words.{flat_map, item_at}

-- the bytes of the items of `width` bytes at these offsets, concatenated
abbrev pub joined_at : List ℕ → ℕ → List ℕ → List ℕ
joined_at offsets width block = flat_map (λ offset. item_at offset width block) offsets
