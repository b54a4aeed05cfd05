-- Assignment: all items are read, and then written to other places.
use Rattle.std.proofs.Common.{ℕ}
use Rattle.std.specs.Prelude.{List, ◌∷◌, map}
use Rattle.arrays.specs.Words.{put, item_at}

-- the items of `width` bytes that a block has at the offsets
abbrev pub items_at : List ℕ → ℕ → List ℕ → List (List ℕ)
items_at offsets width block = map (λ offset. item_at offset width block) offsets

-- `block` after the items are written to the offsets `to`, one after the other
abbrev pub with_items : List ℕ → List (List ℕ) → List ℕ → List ℕ
with_items (offset ∷ to) (item ∷ items) block = with_items to items (put offset item block)
with_items _ _ block = block

-- `block` after the items of `width` bytes at the offsets `from` of `other` are written to the offsets `to`
abbrev pub assigned : List ℕ → List ℕ → ℕ → List ℕ → List ℕ → List ℕ
assigned to from width other block = with_items to (items_at from width other) block
