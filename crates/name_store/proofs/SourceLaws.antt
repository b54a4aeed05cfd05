-- The bytes of the items that are written, and their values.
use Rattle.std.proofs.Common.{◌≡◌, ◌+◌, ◌≤◌, ℕ, zero, suc, List, [], ◌∷◌, length, take, drop, map, replicate, refl, sym, ap, ◌∙◌, arith, length-take, length-drop}
use Rattle.name_store.proofs.Words.{AllByRecursion, Descr, item_from, size, decode, item_size, decode_item, AreAlike, LeafValue, put, items_at, with_items, put_each}

-- writing one item at each offset
pub put_each-items : (os item block : List ℕ) → put_each os item block ≡ with_items os (replicate (length os) item) block
put_each-items [] item block = refl
put_each-items (o ∷ os) item block = put_each-items os item (put o item block)

pub map-replicated : (f : List ℕ → List LeafValue) (n : ℕ) (item : List ℕ) → map f (replicate n item) ≡ replicate n (f item)
map-replicated f zero item = refl
map-replicated f (suc n) item = ap (λ rest. f item ∷ rest) (map-replicated f n item)

-- items that lie within a block have `width` bytes
pub items-whole : (os : List ℕ) (width : ℕ) (block : List ℕ) → AllByRecursion (λ o. o + width ≤ length block) os → AllByRecursion (λ part. length part ≡ width) (items_at os width block)
items-whole [] width block within = tt
items-whole (o ∷ os) width block within = (omega (arith, length-take width (drop o block), length-drop o block, within.0), items-whole os width block within.1)

-- bytes have the same values for element types that are alike
pub alike-items : (a b : Descr) (width : ℕ) (block os : List ℕ) → AreAlike a b → item_size b ≡ width → map (decode_item b) (items_at os width block) ≡ map (item_from a block) os
alike-items a b width block [] alike sized = refl
alike-items a b width block (o ∷ os) alike sized = λ i. one i ∷ alike-items a b width block os alike sized i
  where
    one : decode_item b (take width (drop o block)) ≡ item_from a block o
    one =
        ap (λ n. decode_item b (take n (drop o block))) (sym sized ∙ sym alike.size)
        ∙ ap (map (λ leaf. decode leaf.scalar (take (size leaf.scalar) (drop leaf.at (take (item_size a) (drop o block)))))) (sym alike.leaves)
