-- Items and their bytes.
use Rattle.std.proofs.Common.{◌≡◌, ℕ, List, map, sym, ap, ◌∙◌}
use Rattle.arrays.proofs.Words.{map-map, item_at, Descr, item_size, decode_item, item_from}

-- items with equal bytes have equal values
pub items-from_bytes : (descr : Descr) (block other to from : List ℕ) → map (λ o. item_at o (item_size descr) block) to ≡ map (λ o. item_at o (item_size descr) other) from → map (item_from descr block) to ≡ map (item_from descr other) from
items-from_bytes descr block other to from same =
    sym (map-map (decode_item descr) (λ o. item_at o (item_size descr) block) to)
    ∙ ap (map (decode_item descr)) same
    ∙ map-map (decode_item descr) (λ o. item_at o (item_size descr) other) from
