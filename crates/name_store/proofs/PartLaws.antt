-- Parts of an item: where their bytes are, and how they are read and written.
use Rattle.std.proofs.Common.{◌≡◌, ◌+◌, ◌-◌, ◌<◌, ◌≤◌, ℕ, List, [], ◌∷◌, ◌++◌, length, take, drop, map, refl, sym, ap, ◌∙◌, append_assoc, arith, length-take, length-append}
use Rattle.name_store.proofs.Words.{take-append_seam, take-take, drop-drop, map-append, length-map, take-append-le, drop-append-le, take-append-drop, drop-take, take_at, drop_at, Descr, Leaf, item_from, size, decode, item_size, leaves_of, leaves_in, fields, field_at, moved_leaf, AreInOrder, decode_item, LeafValue, AreInOrder-within, leaf_value, put, IsPathOf, descr_at, start_at, first_at, span_at, part_at, with_part, IsElementType}
use Rattle.name_store.proofs.FieldSplits.{Split, split-whole, split-within, records_deep, type-some, type-in_order, type-leaves, type-shallow, fields-deep, field-deep, field-legal, field-split}

-- ---- the bytes of a part

-- bytes within the first `len`
take-within : (at width len : ℕ) (xs : List ℕ) → at + width ≤ len → take width (drop at (take len xs)) ≡ take width (drop at xs)
take-within at width len xs fits =
    sym (drop-take at width (take len xs))
    ∙ ap (drop at) (take-take (at + width) len xs fits)
    ∙ drop-take at width xs

-- the bytes before the item that is put
taken-before : (at width to : ℕ) (item xs : List ℕ) → at + width ≤ to → to ≤ length xs → take width (drop at (put to item xs)) ≡ take width (drop at xs)
taken-before at width to item xs before within =
    sym (take-within at width to (put to item xs) before)
    ∙ ap (λ front. take width (drop at front)) (ap (take to) (append_assoc (take to xs) item (drop (to + length item) xs)) ∙ take_at (take to xs) (item ++ drop (to + length item) xs) to (omega (arith, length-take to xs)))
    ∙ take-within at width to xs before

-- the bytes after it
dropped-after : (at to : ℕ) (item xs : List ℕ) → to + length item ≤ at → to ≤ length xs → drop at (put to item xs) ≡ drop at xs
dropped-after at to item xs after within =
    ap (λ n. drop n (put to item xs)) more
    ∙ sym (drop-drop rest (to + length item) (put to item xs))
    ∙ ap (drop rest) (drop_at (take to xs ++ item) (drop (to + length item) xs) (to + length item) front)
    ∙ drop-drop rest (to + length item) xs
    ∙ ap (λ n. drop n xs) (sym more)
  where
    rest : ℕ
    rest = at - (to + length item)

    more : at ≡ (to + length item) + rest
    more = omega (arith, after)

    front : length (take to xs ++ item) ≡ to + length item
    front = omega (arith, within, length-append (take to xs) item, length-take to xs)

-- the bytes of the item itself
taken-there : (to : ℕ) (item xs : List ℕ) → to ≤ length xs → take (length item) (drop to (put to item xs)) ≡ item
taken-there to item xs within =
    ap (λ bytes. take (length item) (drop to bytes)) (append_assoc (take to xs) item (drop (to + length item) xs))
    ∙ ap (take (length item)) (drop_at (take to xs) (item ++ drop (to + length item) xs) to (omega (arith, length-take to xs)))
    ∙ take-append_seam item (drop (to + length item) xs)

-- an item that is put within the first `len` bytes
pub put-front : (at len : ℕ) (item xs : List ℕ) → at + length item ≤ len → len ≤ length xs → put at item xs ≡ put at item (take len xs) ++ drop len xs
put-front at len item xs fits within =
    ap (put at item) (sym (take-append-drop len xs))
    ∙ (λ i. (take-append-le at (take len xs) (drop len xs) (omega (arith, front)) i ++ item) ++ drop-append-le (at + length item) (take len xs) (drop len xs) (omega (arith, front)) i)
    ∙ sym (append_assoc (take at (take len xs) ++ item) (drop (at + length item) (take len xs)) (drop len xs))
  where
    front : length (take len xs) ≡ len
    front = omega (arith, within, length-take len xs)

-- ---- the values of leaves

-- the values of leaves that are moved
values-moved : (start width from : ℕ) (bytes part : List ℕ) (leaves : List Leaf) → AreInOrder from leaves width → take width (drop start bytes) ≡ part → map (leaf_value bytes) (map (moved_leaf start) leaves) ≡ map (leaf_value part) leaves
values-moved start width from bytes part [] order is = refl
values-moved start width from bytes part (leaf ∷ leaves) order is =
    λ i. decode leaf.scalar (there i) ∷ values-moved start width (leaf.at + size leaf.scalar) bytes part leaves order.2 is i
  where
    there : take (size leaf.scalar) (drop (start + leaf.at) bytes) ≡ take (size leaf.scalar) (drop leaf.at part)
    there =
        ap (take (size leaf.scalar)) (sym (drop-drop leaf.at start bytes))
        ∙ sym (take-within leaf.at (size leaf.scalar) width (drop start bytes) (AreInOrder-within (leaf.at + size leaf.scalar) leaves width order.2))
        ∙ ap (λ bytes. take (size leaf.scalar) (drop leaf.at bytes)) is

-- the values of leaves before the item that is put
same-before : (to from : ℕ) (item xs : List ℕ) (leaves : List Leaf) → AreInOrder from leaves to → to ≤ length xs → map (leaf_value (put to item xs)) leaves ≡ map (leaf_value xs) leaves
same-before to from item xs [] order within = refl
same-before to from item xs (leaf ∷ leaves) order within =
    λ i. decode leaf.scalar (taken-before leaf.at (size leaf.scalar) to item xs (AreInOrder-within (leaf.at + size leaf.scalar) leaves to order.2) within i)
    ∷ same-before to (leaf.at + size leaf.scalar) item xs leaves order.2 within i

-- the values of leaves after it
same-after : (to from bytes : ℕ) (item xs : List ℕ) (leaves : List Leaf) → AreInOrder from leaves bytes → to + length item ≤ from → to ≤ length xs → map (leaf_value (put to item xs)) leaves ≡ map (leaf_value xs) leaves
same-after to from bytes item xs [] order after within = refl
same-after to from bytes item xs (leaf ∷ leaves) order after within =
    λ i. decode leaf.scalar (take (size leaf.scalar) (dropped-after leaf.at to item xs (omega (arith, after, order.0)) within i))
    ∷ same-after to (leaf.at + size leaf.scalar) bytes item xs leaves order.2 (omega (arith, after, order.0)) within i

-- ---- some values among others

module _ (f : Leaf → LeafValue) (front middle back : List Leaf) (first count : ℕ) (before : length front ≡ first) (here : length middle ≡ count) where
  three : map f (front ++ (middle ++ back)) ≡ map f front ++ (map f middle ++ map f back)
  three = map-append f front (middle ++ back) ∙ ap (λ rest. map f front ++ rest) (map-append f middle back)

  taken-front : take first (map f (front ++ (middle ++ back))) ≡ map f front
  taken-front = ap (take first) three ∙ take_at (map f front) (map f middle ++ map f back) first (length-map front f ∙ before)

  taken-middle : take count (drop first (map f (front ++ (middle ++ back)))) ≡ map f middle
  taken-middle =
      ap (λ all. take count (drop first all)) three
      ∙ ap (take count) (drop_at (map f front) (map f middle ++ map f back) first (length-map front f ∙ before))
      ∙ take_at (map f middle) (map f back) count (length-map middle f ∙ here)

  dropped-back : drop (first + count) (map f (front ++ (middle ++ back))) ≡ map f back
  dropped-back =
      ap (drop (first + count)) (three ∙ sym (append_assoc (map f front) (map f middle) (map f back)))
      ∙ drop_at (map f front ++ map f middle) (map f back) (first + count) (omega (arith, length-append (map f front) (map f middle), length-map front f, length-map middle f, before, here))

-- ---- paths

pub path-split : (descr : Descr) (path : List ℕ) → IsElementType descr → IsPathOf descr path → Split (leaves_of descr) 0 (start_at descr path) (descr_at descr path) (item_size descr) (first_at descr path)
path-split descr [] legal is = split-whole descr
path-split descr (k ∷ path) legal is =
    let whole = (field_at descr k).descr in
    split-within (leaves_of descr) 0 (field_at descr k).at whole (item_size descr) (leaves_in (take k (fields descr))) (start_at whole path) (first_at whole path) (descr_at whole path)
    (field-split descr k is.0 legal) (path-split whole path (field-legal descr k is.0 legal) is.1)

pub path-legal : (descr : Descr) (path : List ℕ) → IsElementType descr → IsPathOf descr path → IsElementType (descr_at descr path)
path-legal descr [] legal is = legal
path-legal descr (k ∷ path) legal is = path-legal (field_at descr k).descr path (field-legal descr k is.0 legal) is.1

path-deep : (descr : Descr) (path : List ℕ) → IsPathOf descr path → length path + records_deep (descr_at descr path) ≤ records_deep descr
path-deep descr [] is = omega arith
path-deep descr (k ∷ path) is = omega (arith, field-deep descr k is.0, path-deep (field_at descr k).descr path is.1)

module _ (descr : Descr) (legal : IsElementType descr) (path : List ℕ) (there : IsPathOf descr path) where
  abbrev own : Descr
  own = descr_at descr path

  abbrev start : ℕ
  start = start_at descr path

  abbrev split : Split (leaves_of descr) 0 start own (item_size descr) (first_at descr path)
  split = path-split descr path legal there

  pub part-within : start + item_size own ≤ item_size descr
  part-within = AreInOrder-within (start + item_size own) split.back (item_size descr) split.after

  pub part-some : 1 ≤ item_size own
  part-some = type-some own (path-legal descr path legal there)

  pub part-leaves : 1 ≤ length (leaves_of own)
  part-leaves = type-leaves own (path-legal descr path legal there)

  -- the leaves of a part are among those of the item
  pub span-within : first_at descr path + length (leaves_of own) ≤ length (leaves_of descr)
  span-within =
      omega (arith, ap length split.all, split.counted, length-append split.front (map (moved_leaf start) (leaves_of own) ++ split.back), length-append (map (moved_leaf start) (leaves_of own)) split.back, length-map (leaves_of own) (moved_leaf start))

  -- a path to a record is short enough to append a field
  pub part-deeper : (k : ℕ) → k < length (fields own) → length path < 4
  part-deeper k low = omega (arith, path-deep descr path there, type-shallow descr legal, fields-deep own k low)

  -- the values of a part are those read where it begins
  pub part-read : (block : List ℕ) (at : ℕ) → part_at (span_at descr path) (item_from descr block at) ≡ item_from own block (at + start)
  part-read block at =
      ap (λ leaves. take (length (leaves_of own)) (drop (first_at descr path) (map (leaf_value bytes) leaves))) split.all
      ∙ taken-middle (leaf_value bytes) split.front (map (moved_leaf start) (leaves_of own)) split.back (first_at descr path) (length (leaves_of own)) split.counted (length-map (leaves_of own) (moved_leaf start))
      ∙ values-moved start (item_size own) 0 bytes (take (item_size own) (drop (at + start) block)) (leaves_of own) (type-in_order own (path-legal descr path legal there)) same
    where
      bytes : List ℕ
      bytes = take (item_size descr) (drop at block)

      same : take (item_size own) (drop start bytes) ≡ take (item_size own) (drop (at + start) block)
      same =
          take-within start (item_size own) (item_size descr) (drop at block) part-within
          ∙ ap (take (item_size own)) (drop-drop start at block)

  -- the values of an item after the bytes of a part are put
  pub part-put : (part bytes : List ℕ) → length part ≡ item_size own → length bytes ≡ item_size descr →
      decode_item descr (put start part bytes) ≡ with_part (span_at descr path) (decode_item own part) (decode_item descr bytes)
  part-put part bytes whole long =
      ap (map (leaf_value new)) split.all
      ∙ three (leaf_value new) split.front middle split.back (first_at descr path) (length (leaves_of own)) split.counted (length-map (leaves_of own) (moved_leaf start))
      ∙ (λ i. before i ++ (here i ++ after i))
      ∙ sym (append_assoc front (decode_item own part) back)
    where
      inside : start ≤ length bytes
      inside = omega (arith, long, part-within)

      new : List ℕ
      new = put start part bytes

      middle : List Leaf
      middle = map (moved_leaf start) (leaves_of own)

      front : List LeafValue
      front = take (first_at descr path) (decode_item descr bytes)

      back : List LeafValue
      back = drop (first_at descr path + length (leaves_of own)) (decode_item descr bytes)

      before : map (leaf_value new) split.front ≡ front
      before =
          same-before start 0 part bytes split.front split.before inside
          ∙ sym (ap (λ leaves. take (first_at descr path) (map (leaf_value bytes) leaves)) split.all
          ∙ taken-front (leaf_value bytes) split.front middle split.back (first_at descr path) (length (leaves_of own)) split.counted (length-map (leaves_of own) (moved_leaf start)))

      here : map (leaf_value new) middle ≡ decode_item own part
      here =
          values-moved start (item_size own) 0 new part (leaves_of own) (type-in_order own (path-legal descr path legal there)) (ap (λ n. take n (drop start new)) (sym whole) ∙ taken-there start part bytes inside)

      after : map (leaf_value new) split.back ≡ back
      after =
          same-after start (start + item_size own) (item_size descr) part bytes split.back split.after (omega (arith, whole)) inside
          ∙ sym (ap (λ leaves. drop (first_at descr path + length (leaves_of own)) (map (leaf_value bytes) leaves)) split.all
          ∙ dropped-back (leaf_value bytes) split.front middle split.back (first_at descr path) (length (leaves_of own)) split.counted (length-map (leaves_of own) (moved_leaf start)))
