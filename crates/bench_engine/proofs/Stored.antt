-- Items that are stored in C order or in Fortran order, and their places.
use Rattle.std.proofs.Common.{◌≡◌, ◌+◌, ◌*◌, ◌<◌, ℕ, zero, suc, List, [], ◌∷◌, length, map, take, drop, reverse, get_or, refl, sym, ap, ◌∙◌, arith}
use Rattle.bench_engine.proofs.Words.{drop-drop, range_with_len, mul-div_cancel_left, length-map, get_or-map, same_lists, reverse-reverse, length-map-range_with_len, get_or-map-range_with_len, Descr, item_size, decode_item, blocks, items_in, item_from, LeafValue, MemoryOrder, C, Fortran, count, indexes, rank, IsIndex, length-indexes, get_or-indexes, index_at, rank-lt, count-reverse, IsIndex-from_reverse, multiples, f_multiples, offsets_in, places_of, ordered, places_in}
use Rattle.bench_engine.specs.NewArrayLaws.{divided}

-- ---- places

divided-each : (item : ℕ) (f : List ℕ → ℕ) (is : List (List ℕ)) → 0 < item → places_of item (map (λ i. item * f i) is) ≡ map f is
divided-each item f [] some = refl
divided-each item f (i ∷ is) some = λ j. mul-div_cancel_left (f i) some j ∷ divided-each item f is some j

pub places-stored : (order : MemoryOrder) (item : ℕ) (shape : List ℕ) → 0 < item → places_of item (offsets_in order item shape) ≡ places_in order shape
places-stored C item shape some = divided item (range_with_len 0 (count shape)) some
places-stored Fortran item shape some = divided-each item (λ index. rank (reverse shape) (reverse index)) (indexes shape) some

-- ---- items

-- adjacent items, from the one at `a` on
blocks-from : (size a n : ℕ) (bytes : List ℕ) → map (λ offset. take size (drop offset bytes)) (map (λ k. size * k) (range_with_len a n)) ≡ blocks size n (drop (size * a) bytes)
blocks-from size a zero bytes = refl
blocks-from size a (suc n) bytes = λ i. take size (drop (size * a) bytes) ∷ (blocks-from size (a + 1) n bytes ∙ ap (blocks size n) (ap (λ m. drop m bytes) (more size a) ∙ sym (drop-drop size (size * a) bytes))) i
  where
    more : (size a : ℕ) → size * (a + 1) ≡ size * a + size
    more size a = omega arith

pub items-from : (descr : Descr) (n : ℕ) (bytes : List ℕ) → map (item_from descr bytes) (multiples (item_size descr) n) ≡ items_in descr n bytes
items-from descr n bytes = sym (twice (multiples (item_size descr) n)) ∙ ap (map (decode_item descr)) (blocks-from (item_size descr) 0 n bytes ∙ ap (λ m. blocks (item_size descr) n (drop m bytes)) (none (item_size descr)))
  where
    twice : (list : List ℕ) → map (decode_item descr) (map (λ offset. take (item_size descr) (drop offset bytes)) list) ≡ map (item_from descr bytes) list
    twice [] = refl
    twice (offset ∷ list) = ap (λ items. item_from descr bytes offset ∷ items) (twice list)

    none : (size : ℕ) → size * 0 ≡ 0
    none size = omega arith

-- the item at an index, if the items are stored in Fortran order
at-index : (descr : Descr) (shape index block : List ℕ) (items : List (List LeafValue)) → map (item_from descr block) (f_multiples (item_size descr) shape) ≡ items → IsIndex (reverse shape) index →
    get_or items (rank shape (reverse index)) [] ≡ item_from descr block (item_size descr * rank (reverse shape) index)
at-index descr shape index block items is in' =
    let j = reverse index in
    let in-shape : IsIndex shape j = IsIndex-from_reverse shape index in' in
    let place = λ (i : List ℕ). item_size descr * rank (reverse shape) (reverse i) in
    let low : rank shape j < length (indexes shape) = omega (arith, length-indexes shape, rank-lt shape j in-shape) in
    let low' : rank shape j < length (map place (indexes shape)) = omega (arith, length-map (indexes shape) place, low) in
    ap (λ list. get_or list (rank shape j) []) (sym is)
    ∙ get_or-map (item_from descr block) (map place (indexes shape)) (rank shape j) 0 [] low'
    ∙ ap (item_from descr block) (get_or-map place (indexes shape) (rank shape j) [] 0 low ∙ ap place (get_or-indexes shape j [] in-shape) ∙ ap (λ i. item_size descr * rank (reverse shape) i) (reverse-reverse index))

stored-fortran : (descr : Descr) (shape block : List ℕ) (items : List (List LeafValue)) → map (item_from descr block) (f_multiples (item_size descr) shape) ≡ items → ordered Fortran shape items ≡ items_in descr (count shape) block
stored-fortran descr shape block items is = same_lists left right (long ∙ sym long') each ∙ items-from descr (count shape) block
  where
    item : List ℕ → List LeafValue
    item index = get_or items (rank shape (reverse index)) []

    left : List (List LeafValue)
    left = map item (indexes (reverse shape))

    right : List (List LeafValue)
    right = map (item_from descr block) (multiples (item_size descr) (count shape))

    long : length left ≡ count shape
    long = length-map (indexes (reverse shape)) item ∙ length-indexes (reverse shape) ∙ count-reverse shape

    long' : length right ≡ count shape
    long' = length-map (multiples (item_size descr) (count shape)) (item_from descr block) ∙ length-map-range_with_len (λ k. item_size descr * k) 0 (count shape)

    each : (k : ℕ) (d : List LeafValue) → k < length left → get_or left k d ≡ get_or right k d
    each k d low =
        let few : k < count (reverse shape) = omega (arith, low, long, count-reverse shape) in
        let found = index_at (reverse shape) k few in
        let inside : k < length (indexes (reverse shape)) = omega (arith, length-indexes (reverse shape), few) in
        let inside' : k < length (multiples (item_size descr) (count shape)) = omega (arith, low, long, length-map-range_with_len (λ k. item_size descr * k) 0 (count shape)) in
        let here : get_or (indexes (reverse shape)) k [] ≡ found.0 = ap (λ r. get_or (indexes (reverse shape)) r []) (sym found.2) ∙ get_or-indexes (reverse shape) found.0 [] found.1 in
        get_or-map item (indexes (reverse shape)) k [] d inside ∙ ap item here ∙ at-index descr shape found.0 block items is found.1 ∙ ap (λ n. item_from descr block (item_size descr * n)) found.2
        ∙ sym (get_or-map (item_from descr block) (multiples (item_size descr) (count shape)) k 0 d inside' ∙ ap (item_from descr block) (get_or-map-range_with_len (λ k. item_size descr * k) 0 (count shape) k k 0 (omega (arith, low, long)) (omega arith)))

pub stored-is : (order : MemoryOrder) (descr : Descr) (shape block : List ℕ) (items : List (List LeafValue)) → map (item_from descr block) (offsets_in order (item_size descr) shape) ≡ items → ordered order shape items ≡ items_in descr (count shape) block
stored-is C descr shape block items is = sym is ∙ items-from descr (count shape) block
stored-is Fortran descr shape block items is = stored-fortran descr shape block items is
