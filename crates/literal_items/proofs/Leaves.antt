-- The leaves of an item, each with its value.
use Rattle.std.proofs.Common.{◌≡◌, ◌+◌, ◌-◌, ◌≤◌, ℕ, suc, List, [], ◌∷◌, ◌++◌, length, take, drop, map, replicate, refl, sym, ap, ◌∙◌, arith, append_assoc, length-append}
use Rattle.std.proofs.Math.Seq.{take-append-add, drop-append-add}
use Rattle.literal_items.proofs.Words.{AllZip, length-replicate, take_at, drop_at, take-replicate, drop-replicate, Leaf, Scalar, LeafValue, size, encode, decode, AreInOrder, encode_from, AreInOrder-within, put, put_leaves}

-- the bytes of a value have the size of the scalar, and read back as the value
pub record ReadsBack (scalar : Scalar) (value : LeafValue) : Type 0 where
  pub whole : length (encode scalar value) ≡ size scalar
  pub same : decode scalar (encode scalar value) ≡ value

abbrev pub AreSound : List Leaf → List LeafValue → Type 0
AreSound = AllZip (λ leaf value. ReadsBack leaf.scalar value)

pub AreSound-append : (leaves : List Leaf) (values : List LeafValue) (later : List Leaf) (others : List LeafValue) → AreSound leaves values → AreSound later others → AreSound (leaves ++ later) (values ++ others)
AreSound-append [] [] later others here there = there
AreSound-append [] (value ∷ values) later others here there = absurd here
AreSound-append (leaf ∷ leaves) [] later others here there = absurd here
AreSound-append (leaf ∷ leaves) (value ∷ values) later others here there = (here.0, AreSound-append leaves values later others here.1 there)

-- leaves after other leaves
pub put_leaves-append : (item : List ℕ) (leaves : List Leaf) (values : List LeafValue) (later : List Leaf) (others : List LeafValue) → AreSound leaves values → put_leaves item (leaves ++ later) (values ++ others) ≡ put_leaves (put_leaves item leaves values) later others
put_leaves-append item [] [] later others sound = refl
put_leaves-append item [] (value ∷ values) later others sound = absurd sound
put_leaves-append item (leaf ∷ leaves) [] later others sound = absurd sound
put_leaves-append item (leaf ∷ leaves) (value ∷ values) later others sound =
    put_leaves-append (put leaf.at (size leaf.scalar) (encode leaf.scalar value) item) leaves values later others sound.1

-- ---- bytes put over zeros

put_past : (front bytes item : List ℕ) (at k width : ℕ) → at ≡ length front + k → put at width item (front ++ bytes) ≡ front ++ put k width item bytes
put_past front bytes item at k width is =
    ap (λ n. put n width item (front ++ bytes)) is
    ∙ (λ i. take-append-add front bytes k i ++ (item ++ drop width (drop-append-add front bytes k i)))
    ∙ append_assoc front (take k bytes) (item ++ drop width (drop k bytes))

put_zeros : (n at width : ℕ) (item : List ℕ) → at ≤ n → put at width item (replicate n 0) ≡ (replicate at 0 ++ item) ++ replicate (n - at - width) 0
put_zeros n at width item within =
    (λ i. take-replicate at n 0 within i ++ (item ++ (ap (drop width) (drop-replicate at n 0) ∙ drop-replicate width (n - at) 0) i))
    ∙ sym (append_assoc (replicate at 0) item (replicate (n - at - width) 0))

-- the bytes up to the end of the next leaf
abbrev upto : List ℕ → ℕ → Leaf → LeafValue → List ℕ
upto front from leaf value = front ++ (replicate (leaf.at - from) 0 ++ encode leaf.scalar value)

length-upto : (front : List ℕ) (from : ℕ) (leaf : Leaf) (value : LeafValue) → length front ≡ from → from ≤ leaf.at → ReadsBack leaf.scalar value → length (upto front from leaf value) ≡ leaf.at + size leaf.scalar
length-upto front from leaf value is after sound =
    let zeros : List ℕ = replicate (leaf.at - from) 0 in
    let gap : length zeros ≡ leaf.at - from = length-replicate (leaf.at - from) 0 in
    let whole = sound.whole in
    length-append front (zeros ++ encode leaf.scalar value) ∙ ap (λ n. length front + n) (length-append zeros (encode leaf.scalar value)) ∙ omega arith

put_next : (front : List ℕ) (from bytes : ℕ) (leaf : Leaf) (value : LeafValue) → length front ≡ from → from ≤ leaf.at → leaf.at + size leaf.scalar ≤ bytes → put leaf.at (size leaf.scalar) (encode leaf.scalar value) (front ++ replicate (bytes - from) 0) ≡ upto front from leaf value ++ replicate (bytes - (leaf.at + size leaf.scalar)) 0
put_next front from bytes leaf value is after within =
    let at : leaf.at ≡ length front + (leaf.at - from) = omega arith in
    let left : bytes - from - (leaf.at - from) - size leaf.scalar ≡ bytes - (leaf.at + size leaf.scalar) = omega arith in
    put_past front (replicate (bytes - from) 0) (encode leaf.scalar value) leaf.at (leaf.at - from) (size leaf.scalar) at
    ∙ ap (λ back. front ++ back) (put_zeros (bytes - from) (leaf.at - from) (size leaf.scalar) (encode leaf.scalar value) (omega arith))
    ∙ ap (λ n. front ++ ((replicate (leaf.at - from) 0 ++ encode leaf.scalar value) ++ replicate n 0)) left
    ∙ sym (append_assoc front (replicate (leaf.at - from) 0 ++ encode leaf.scalar value) (replicate (bytes - (leaf.at + size leaf.scalar)) 0))

put_over_zeros : (front : List ℕ) (from bytes : ℕ) (leaves : List Leaf) (values : List LeafValue) → length front ≡ from → AreInOrder from leaves bytes → AreSound leaves values → put_leaves (front ++ replicate (bytes - from) 0) leaves values ≡ front ++ encode_from from leaves values bytes
put_over_zeros front from bytes [] [] is order sound = refl
put_over_zeros front from bytes [] (value ∷ values) is order sound = absurd sound
put_over_zeros front from bytes (leaf ∷ leaves) [] is order sound = absurd sound
put_over_zeros front from bytes (leaf ∷ leaves) (value ∷ values) is order sound =
    let next = leaf.at + size leaf.scalar in
    let within = AreInOrder-within next leaves bytes order.2 in
    ap (λ item. put_leaves item leaves values) (put_next front from bytes leaf value is order.0 within)
    ∙ put_over_zeros (upto front from leaf value) next bytes leaves values (length-upto front from leaf value is order.0 sound.0) order.2 sound.1
    ∙ append_assoc front (replicate (leaf.at - from) 0 ++ encode leaf.scalar value) (encode_from next leaves values bytes)

-- leaves put over zeros are the bytes of an item
pub put_encoded : (bytes : ℕ) (leaves : List Leaf) (values : List LeafValue) → AreInOrder 0 leaves bytes → AreSound leaves values → put_leaves (replicate bytes 0) leaves values ≡ encode_from 0 leaves values bytes
put_encoded bytes leaves values order sound =
    let all : bytes ≡ bytes - 0 = omega arith in
    ap (λ n. put_leaves (replicate n 0) leaves values) all ∙ put_over_zeros [] 0 bytes leaves values refl order sound

-- ---- the bytes read back as the values

abbrev meant : List Leaf → List ℕ → List LeafValue
meant leaves item = map (λ (leaf : Leaf). decode leaf.scalar (take (size leaf.scalar) (drop leaf.at item))) leaves

decode_each : (front : List ℕ) (from bytes : ℕ) (leaves : List Leaf) (values : List LeafValue) → length front ≡ from → AreInOrder from leaves bytes → AreSound leaves values → meant leaves (front ++ encode_from from leaves values bytes) ≡ values
decode_each front from bytes [] [] is order sound = refl
decode_each front from bytes [] (value ∷ values) is order sound = absurd sound
decode_each front from bytes (leaf ∷ leaves) [] is order sound = absurd sound
decode_each front from bytes (leaf ∷ leaves) (value ∷ values) is order sound =
    let next = leaf.at + size leaf.scalar in
    let zeros : List ℕ = replicate (leaf.at - from) 0 in
    let item = encode leaf.scalar value in
    let back = encode_from next leaves values bytes in
    let after = order.0 in
    let gap : length zeros ≡ leaf.at - from = length-replicate (leaf.at - from) 0 in
    let before : length (front ++ zeros) ≡ leaf.at = length-append front zeros ∙ omega arith in
    let split : front ++ ((zeros ++ item) ++ back) ≡ (front ++ zeros) ++ (item ++ back) = ap (λ bs. front ++ bs) (append_assoc zeros item back) ∙ sym (append_assoc front zeros (item ++ back)) in
    let joined : front ++ ((zeros ++ item) ++ back) ≡ (front ++ (zeros ++ item)) ++ back = sym (append_assoc front (zeros ++ item) back) in
    let here : take (size leaf.scalar) (drop leaf.at (front ++ ((zeros ++ item) ++ back))) ≡ item =
    ap (λ bs. take (size leaf.scalar) (drop leaf.at bs)) split
    ∙ ap (take (size leaf.scalar)) (drop_at (front ++ zeros) (item ++ back) leaf.at before)
    ∙ take_at item back (size leaf.scalar) sound.0.whole in
    let there =
    ap (meant leaves) joined
    ∙ decode_each (upto front from leaf value) next bytes leaves values (length-upto front from leaf value is order.0 sound.0) order.2 sound.1 in
    λ i. (ap (decode leaf.scalar) here ∙ sound.0.same) i ∷ there i

pub put_read : (bytes : ℕ) (leaves : List Leaf) (values : List LeafValue) (item : List ℕ) → AreInOrder 0 leaves bytes → AreSound leaves values → item ≡ encode_from 0 leaves values bytes → map (λ (leaf : Leaf). decode leaf.scalar (take (size leaf.scalar) (drop leaf.at item))) leaves ≡ values
put_read bytes leaves values item order sound is = ap (meant leaves) is ∙ decode_each [] 0 bytes leaves values refl order sound
