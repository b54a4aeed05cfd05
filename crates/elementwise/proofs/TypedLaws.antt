-- Operands that are cast, and the results on them.
use Rattle.std.proofs.Common.{◌≡◌, ◌+◌, ◌<◌, ◌≤◌, ℕ, true, List, [], ◌∷◌, map, length, get_or, All, refl, sym, ap, ◌∙◌, arith, slice_index}
use Rattle.elementwise.proofs.Words.{length-map, get_or-map, map-map, All-head, All-rest, Descr, LeafValue, item_size, item_from, offsets, Layout, count, indexes, rank, rank-lt, same_on_indexes, length-offsets, can_stretch, broadcast_index, IsIndex-broadcast, cast_item, stretched_items}

-- items that a cast leaves unchanged
pub kept : (from to : Descr) (block os : List ℕ) → All (λ offset. offset + item_size from ≤ length block) os →
    ((offset : ℕ) → offset + item_size from ≤ length block → cast_item from to (item_from from block offset) ≡ item_from to block offset) → map (λ offset. cast_item from to (item_from from block offset)) os ≡ map (item_from to block) os
kept from to block [] inside same = refl
kept from to block (o ∷ os) inside same =
    let Ends = λ (offset : ℕ). offset + item_size from ≤ length block in
    λ i. same o (All-head Ends o os inside) i ∷ kept from to block os (All-rest Ends o os (o ∷ os) refl inside) same i

-- casting items and then stretching them is the same as stretching and then casting them
pub stretched-cast : (cast : List LeafValue → List LeafValue) (d d' : Descr) (b b' : List ℕ) (l l' : Layout) (shape : List ℕ) → l'.shape ≡ l.shape → can_stretch l.shape shape ≡ true →
    map (item_from d' b') (offsets l') ≡ map cast (map (item_from d b) (offsets l)) → stretched_items d' b' l' shape ≡ map cast (stretched_items d b l shape)
stretched-cast cast d d' b b' l l' shape same can cast-is =
    let read = item_from d b in
    let read' = item_from d' b' in
    let pick = λ (index : List ℕ). slice_index (offsets l) (rank l.shape (broadcast_index l.shape index)) in
    let pick' = λ (index : List ℕ). slice_index (offsets l') (rank l'.shape (broadcast_index l'.shape index)) in
    map-map read' pick' (indexes shape)
    ∙ same_on_indexes shape (λ index. read' (pick' index)) (λ index. cast (read (pick index))) (λ index in'.
    let r = rank l.shape (broadcast_index l.shape index) in
    let low : r < count l.shape = rank-lt l.shape (broadcast_index l.shape index) (IsIndex-broadcast l.shape shape index can in') in
    let here : r < length (offsets l) = omega (arith, low, length-offsets l) in
    let there : r < length (offsets l') = omega (arith, low, length-offsets l', ap count same) in
    let read-here : r < length (map read (offsets l)) = omega (arith, here, length-map (offsets l) read) in
    (λ i. read' (get_or (offsets l') (rank (same i) (broadcast_index (same i) index)) 0))
    ∙ sym (get_or-map read' (offsets l') r 0 [] there)
    ∙ ap (λ xs. get_or xs r []) cast-is
    ∙ get_or-map cast (map read (offsets l)) r [] [] read-here
    ∙ ap cast (get_or-map read (offsets l) r 0 [] here))
    ∙ sym (map-map cast (λ index. read (pick index)) (indexes shape))
    ∙ ap (map cast) (sym (map-map read pick (indexes shape)))
