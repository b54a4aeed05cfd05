-- Consecutive items in bytes.
use Rattle.std.specs.Prelude.{ℕ, zero, suc, List, [], ◌∷◌, map, take, drop}
use Rattle.elem_descr.specs.declared.descr.Descr.{Descr}
use Rattle.elem_descr.specs.Items.{item_size, decode_item}
use Rattle.elem_descr.specs.Values.{LeafValue}

-- the first `n` blocks of `size` elements each
abbrev pub blocks : {A : Type 0} → ℕ → ℕ → List A → List (List A)
blocks size zero xs = []
blocks size (suc n) xs = take size xs ∷ blocks size n (drop size xs)

-- the `n` consecutive items at the front of `bytes`
abbrev pub items_in : Descr → ℕ → List ℕ → List (List LeafValue)
items_in descr n bytes = map (decode_item descr) (blocks (item_size descr) n bytes)

-- the item whose bytes begin at `offset`
abbrev pub item_from : Descr → List ℕ → ℕ → List LeafValue
item_from descr bytes offset = decode_item descr (take (item_size descr) (drop offset bytes))
