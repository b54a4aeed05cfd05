-- Items that are written to disjoint places leave the same bytes in any order.
--     with_items-reordered         items and their places
--     assigns-reordered            places, and the places that the items are copied from
--     filled-reordered             one item at all places
use Rattle.std.specs.Prelude.{◌≡◌, ◌≢◌, ◌+◌, ◌-◌, ◌<◌, ◌≤◌, ◌⊎◌, ℕ, List, [], ◌∷◌, map, length, All}
use Rattle.std.proofs.Common.{inl, inr, zero, suc, get_or, replicate, refl, sym, ap, subst, ◌∙◌, arith}
use Rattle.overlap_copy.specs.Copies.{ArePaired, Assigns}
use Rattle.overlap_copy.specs.Words.{zip, swap, Each, IsPermutation, cases_lt, cases_eq, ext_get_or, get_or_default, length-map, get_or-map, length-replicate, length-swap, swapped_from_swap, All-head, All-tail, All-from_recursion, Contains-get_or, IsPermutation-map, IsPermutation-sym, IsPermutation-keeps, All-permutation, Contains-permutation, get_or-zip, length-zip, put, item_at, length-put, get_or-put_before, get_or-put_after, item_at-put_same, length-item_at, byte_of, IsNested, distance, items_at, with_items, assigned}

-- ---- items, each with its place

abbrev Placed : Type 0
Placed = ℕ × List ℕ

abbrev put_all : List Placed → List ℕ → List ℕ
put_all [] block = block
put_all (p ∷ ps) block = put_all ps (put p.0 p.1 block)

placed : (to : List ℕ) (items : List (List ℕ)) (block : List ℕ) → with_items to items block ≡ put_all (zip to items) block
placed (at ∷ to) (item ∷ items) block = placed to items (put at item block)
placed _ _ block = refl

abbrev LiesIn : ℕ → ℕ → Placed → Type 0
LiesIn len width p = (p.0 + width ≤ len) × (length p.1 ≡ width)

abbrev nowhere : Placed
nowhere = (0, [])

abbrev IsOff : ℕ → ℕ → Placed → Type 0
IsOff width j p = (j < p.0) ⊎ (p.0 + width ≤ j)

abbrev IsAt : ℕ → ℕ → Placed → Type 0
IsAt width j p = (p.0 ≤ j) × (j < p.0 + width)

off_or_at : (width j : ℕ) (p : Placed) → IsOff width j p ⊎ IsAt width j p
off_or_at width j p = elim (cases_lt j p.0) [
  | inl before ↦ inl (inl before)
  | inr low ↦ elim (cases_lt j (p.0 + width)) [ inl high ↦ inr (low, high) | inr after ↦ inl (inr after) ]
]

-- `byte` is the byte at `j` of one of the items
record IsOf (width : ℕ) (ps : List Placed) (j byte : ℕ) : Type 0 where
  k : ℕ
  below : k < length ps
  at : IsAt width j (get_or ps k nowhere)
  is : byte ≡ get_or (get_or ps k nowhere).1 (j - (get_or ps k nowhere).0) 0

abbrev IsOfNone : ℕ → List Placed → ℕ → Type 0
IsOfNone width ps j = (k : ℕ) → k < length ps → IsOff width j (get_or ps k nowhere)

put_inside : (at : ℕ) (item block : List ℕ) (j : ℕ) → at + length item ≤ length block → at ≤ j → j < at + length item → get_or (put at item block) j 0 ≡ get_or item (j - at) 0
put_inside at item block j inside low high =
    let back : at + (j - at) ≡ j = omega arith in
    ap (λ i. get_or (put at item block) i 0) (sym back) ∙ sym (byte_of at (length item) (j - at) (put at item block) (omega arith)) ∙ ap (λ l. get_or l (j - at) 0) (item_at-put_same at item block inside)

length-put_all : (width : ℕ) (ps : List Placed) (block : List ℕ) → All (LiesIn (length block) width) ps → length (put_all ps block) ≡ length block
length-put_all width [] block lie = refl
length-put_all width (p ∷ ps) block lie =
    let here = All-head (LiesIn (length block) width) p ps lie in
    let same = length-put p.0 p.1 block (omega (arith, here.0, here.1)) in
    length-put_all width ps (put p.0 p.1 block) (subst (λ n. All (LiesIn n width) ps) (sym same) (All-tail (LiesIn (length block) width) p ps lie)) ∙ same

left : (width : ℕ) (ps : List Placed) (block : List ℕ) (j : ℕ) → All (LiesIn (length block) width) ps →
    IsOf width ps j (get_or (put_all ps block) j 0) ⊎ (IsOfNone width ps j × (get_or (put_all ps block) j 0 ≡ get_or block j 0))
left width [] block j lie = inr (λ k below. absurd (omega arith), refl)
left width (p ∷ ps) block j lie =
    let here = All-head (LiesIn (length block) width) p ps lie in
    let inside : p.0 + length p.1 ≤ length block = omega (arith, here.0, here.1) in
    let next = put p.0 p.1 block in
    elim (left width ps next j (subst (λ n. All (LiesIn n width) ps) (sym (length-put p.0 p.1 block inside)) (All-tail (LiesIn (length block) width) p ps lie))) [
      | inl h ↦ inl (record { k = suc h.k; below = omega (arith, h.below); at = h.at; is = h.is })
      | inr none ↦ elim (off_or_at width j p) [
        | inl off ↦ inr (
          others off none.0,
          none.1 ∙ elim off [
            | inl before ↦ get_or-put_before p.0 p.1 block inside j before
            | inr after ↦ get_or-put_after p.0 p.1 block inside j (omega (arith, after, here.1))
          ],
        )
        | inr at ↦ inl (record { k = 0; below = omega arith; at = at; is = none.1 ∙ put_inside p.0 p.1 block j inside at.0 (omega (arith, at.1, here.1)) })
      ]
    ]
  where
    others : IsOff width j p → IsOfNone width ps j → IsOfNone width (p ∷ ps) j
    others off none zero below = off
    others off none (suc k) below = none k (omega (arith, below))

-- ---- in another order

found : (ps qs : List Placed) → IsPermutation ps qs → (k : ℕ) → k < length ps → (m : ℕ) × (m < length qs) × (get_or qs m nowhere ≡ get_or ps k nowhere)
found ps qs same k below =
    let p = get_or ps k nowhere in
    let there = Contains-permutation ps qs p same (Contains-get_or ps k nowhere below) in
    (there.0, there.1, get_or_default qs there.0 nowhere p there.1 ∙ there.2)

abbrev LieApart : ℕ → List Placed → Type 0
LieApart width ps = (j k : ℕ) → j < k → k < length ps → width ≤ distance (get_or ps j nowhere).0 (get_or ps k nowhere).0

-- a byte belongs to at most one item
one : (width : ℕ) (ps : List Placed) (k m j : ℕ) → LieApart width ps → k < length ps → m < length ps → IsAt width j (get_or ps k nowhere) → IsAt width j (get_or ps m nowhere) → k ≡ m
one width ps k m j apart in_k in_m at_k at_m = elim (cases_eq k m) [
  | inl same ↦ same
  | inr other ↦ elim (cases_lt k m) [
    | inl before ↦ let far = apart k m before in_m in absurd (omega (arith, far, at_k.0, at_k.1, at_m.0, at_m.1))
    | inr above ↦ let far = apart m k (omega (arith, above, other)) in_k in absurd (omega (arith, far, at_k.0, at_k.1, at_m.0, at_m.1))
  ]
]

same_byte : (width : ℕ) (ps qs : List Placed) (j b c : ℕ) → LieApart width ps → IsPermutation ps qs → IsOf width ps j b → IsOf width qs j c → c ≡ b
same_byte width ps qs j b c apart same of_b of_c =
    let there = found qs ps (IsPermutation-sym ps qs same) of_c.k of_c.below in
    let at = subst (IsAt width j) (sym there.2) of_c.at in
    let is = one width ps of_b.k there.0 j apart of_b.below there.1 of_b.at at in
    of_c.is ∙ (λ i. get_or (sym there.2 i).1 (j - (sym there.2 i).0) 0) ∙ ap (λ m. get_or (get_or ps m nowhere).1 (j - (get_or ps m nowhere).0) 0) (sym is) ∙ sym of_b.is

none_of : {X : Type 0} (width : ℕ) (ps qs : List Placed) (j b : ℕ) → IsPermutation ps qs → IsOf width ps j b → IsOfNone width qs j → X
none_of width ps qs j b same of none =
    let there = found ps qs same of.k of.below in
    elim (subst (IsOff width j) there.2 (none there.0 there.1)) [ inl before ↦ absurd (omega (arith, before, of.at.0)) | inr after ↦ absurd (omega (arith, after, of.at.1)) ]

put-reordered : (width : ℕ) (ps qs : List Placed) (block : List ℕ) → All (LiesIn (length block) width) ps → LieApart width ps → IsPermutation ps qs → put_all qs block ≡ put_all ps block
put-reordered width ps qs block lie apart same =
    let lie' = All-permutation (LiesIn (length block) width) ps qs same lie in
    ext_get_or 0 (put_all qs block) (put_all ps block) (length-put_all width qs block lie' ∙ sym (length-put_all width ps block lie)) (λ j _. elim (left width ps block j lie) [
      | inl of ↦ elim (left width qs block j lie') [
        | inl of' ↦ same_byte width ps qs j (get_or (put_all ps block) j 0) (get_or (put_all qs block) j 0) apart same of of'
        | inr none ↦ none_of width ps qs j (get_or (put_all ps block) j 0) same of none.0
      ]
      | inr none ↦ elim (left width qs block j lie') [
        | inl of' ↦ none_of width qs ps j (get_or (put_all qs block) j 0) (IsPermutation-sym ps qs same) of' none.0
        | inr none' ↦ none'.1 ∙ sym none.1
      ]
    ])

zip-apart : (width : ℕ) (to : List ℕ) (items : List (List ℕ)) → length items ≡ length to → IsNested to width → LieApart width (zip to items)
zip-apart width to items long nested j k before below =
    let many : k < length to = omega (arith, below, length-zip to items, long) in
    let first = ap (λ p. p.0) (get_or-zip to items j nowhere (omega (arith, before, many)) (omega (arith, before, many, long))) in
    let second = ap (λ p. p.0) (get_or-zip to items k nowhere many (omega (arith, many, long))) in
    let far = nested.apart j k before many in
    omega (arith, far, first, second)

pub with_items-reordered : (width : ℕ) (to : List ℕ) (items : List (List ℕ)) (to' : List ℕ) (items' : List (List ℕ)) (block : List ℕ) → length items ≡ length to → IsNested to width →
    All (λ p. (p.0 + width ≤ length block) × (length p.1 ≡ width)) (zip to items) → IsPermutation (zip to items) (zip to' items') → with_items to' items' block ≡ with_items to items block
with_items-reordered width to items to' items' block long nested lie same =
    placed to' items' block ∙ put-reordered width (zip to items) (zip to' items') block lie (zip-apart width to items long nested) same ∙ sym (placed to items block)

-- ---- items copied from other places

zip-items : (to from : List ℕ) (width : ℕ) (other : List ℕ) → zip to (items_at from width other) ≡ map (λ (p : ℕ × ℕ). (p.0, item_at p.1 width other)) (zip to from)
zip-items (at ∷ to) (offset ∷ from) width other = ap (λ l. (at, item_at offset width other) ∷ l) (zip-items to from width other)
zip-items _ _ width other = refl

zip-lie : (len width : ℕ) (to from : List ℕ) (other : List ℕ) → All (λ o. o + width ≤ len) to → All (λ o. o + width ≤ length other) from → Each (LiesIn len width) (zip to (items_at from width other))
zip-lie len width (at ∷ to) (offset ∷ from) other in_to in_from = (
  (All-head (λ o. o + width ≤ len) at to in_to, length-item_at offset width other (All-head (λ o. o + width ≤ length other) offset from in_from)),
  zip-lie len width to from other (All-tail (λ o. o + width ≤ len) at to in_to) (All-tail (λ o. o + width ≤ length other) offset from in_from),
)
zip-lie len width _ _ other in_to in_from = tt

assigned-reordered : (width : ℕ) (to from to' from' other block : List ℕ) → IsNested to width → ArePaired to from width other block →
    IsPermutation (zip to from) (zip to' from') → assigned to' from' width other block ≡ assigned to from width other block
assigned-reordered width to from to' from' other block nested paired same =
    let item : ℕ × ℕ → Placed = λ p. (p.0, item_at p.1 width other) in
    let moved : IsPermutation (zip to (items_at from width other)) (zip to' (items_at from' width other)) =
    subst (λ l. IsPermutation l (zip to' (items_at from' width other))) (sym (zip-items to from width other))
    (subst (IsPermutation (map item (zip to from))) (sym (zip-items to' from' width other)) (IsPermutation-map item (zip to from) (zip to' from') same)) in
    with_items-reordered width to (items_at from width other) to' (items_at from' width other) block (length-map from _ ∙ paired.count) nested
    (All-from_recursion (LiesIn (length block) width) (zip to (items_at from width other)) (zip-lie (length block) width to from other paired.to_in paired.from_in)) moved

pub assigns-reordered : {to from to' from' other old new : List ℕ} {width : ℕ} → IsPermutation (zip to from) (zip to' from') → IsNested to width → ArePaired to from width other old → Assigns to' from' width other old new → Assigns to from width other old new
assigns-reordered {to} {from} {to'} {from'} {other} {old} {new} {width} same nested paired assigns =
    record { written = assigns.written ∙ assigned-reordered width to from to' from' other old nested paired same; len = assigns.len }

-- ---- one item at all places

zip-same : (os : List ℕ) (item : List ℕ) → zip os (replicate (length os) item) ≡ map (λ o. (o, item)) os
zip-same [] item = refl
zip-same (o ∷ os) item = ap (λ l. (o, item) ∷ l) (zip-same os item)

pub filled-reordered : (os os' item block : List ℕ) → IsNested os (length item) → All (λ o. o + length item ≤ length block) os → IsPermutation os os' →
    with_items os' (replicate (length os') item) block ≡ with_items os (replicate (length os) item) block
filled-reordered os os' item block nested lie same =
    let with : ℕ → Placed = λ o. (o, item) in
    with_items-reordered (length item) os (replicate (length os) item) os' (replicate (length os') item) block (length-replicate (length os) item) nested
    (subst (All (LiesIn (length block) (length item))) (sym (zip-same os item)) (All-map_with os lie))
    (subst (λ l. IsPermutation l (zip os' (replicate (length os') item))) (sym (zip-same os item)) (subst (IsPermutation (map with os)) (sym (zip-same os' item)) (IsPermutation-map with os os' same)))
  where
    All-map_with : (os : List ℕ) → All (λ o. o + length item ≤ length block) os → All (LiesIn (length block) (length item)) (map (λ o. (o, item)) os)
    All-map_with os lie = λ k d below.
        let with : ℕ → Placed = λ o. (o, item) in
        let low : k < length os = omega (arith, below, length-map os with) in
        subst (LiesIn (length block) (length item)) (sym (get_or-map with os k 0 d low)) (lie k 0 low, refl)

-- ---- disjoint places in another order

either_way : (width : ℕ) (l : List ℕ) → IsNested l width → (j k : ℕ) → j ≢ k → j < length l → k < length l → width ≤ distance (get_or l j 0) (get_or l k 0)
either_way width l nested j k other in_j in_k = elim (cases_lt j k) [
  | inl before ↦ nested.apart j k before in_k
  | inr above ↦ let far = nested.apart k j (omega (arith, above, other)) in_j in omega (arith, far)
]

swapped-nested : (width : ℕ) (l : List ℕ) (i j : ℕ) → i < length l → j < length l → IsNested l width → IsNested (swap l i j) width
swapped-nested width l i j in_i in_j nested = record {
  apart = λ a b before below.
      let many = length-swap l i j in
      let places = swapped_from_swap l (swap l i j) i j 0 in_i in_j refl in
      let in_a : a < length l = omega (arith, before, below, many) in
      let in_b : b < length l = omega (arith, below, many) in
      let far = either_way width l nested in
      elim (cases_eq a i) [
        | inl at_i ↦
            let first = ap (λ m. get_or (swap l i j) m 0) at_i ∙ places.0 in
            elim (cases_eq b j) [
              | inl at_j ↦ let second = ap (λ m. get_or (swap l i j) m 0) at_j ∙ places.1 in let clear = far j i (λ e. omega (arith, e, before, at_i, at_j)) in_j in_i in omega (arith, clear, first, second)
              | inr off_j ↦ let second = places.2 b (λ e. omega (arith, e, before, at_i)) off_j in let clear = far j b (λ e. off_j (sym e)) in_j in_b in omega (arith, clear, first, second)
            ]
        | inr off_i ↦ elim (cases_eq a j) [
          | inl at_j ↦
              let first = ap (λ m. get_or (swap l i j) m 0) at_j ∙ places.1 in
              elim (cases_eq b i) [
                | inl at_i ↦ let second = ap (λ m. get_or (swap l i j) m 0) at_i ∙ places.0 in let clear = far i j (λ e. omega (arith, e, before, at_i, at_j)) in_i in_j in omega (arith, clear, first, second)
                | inr other ↦ let second = places.2 b other (λ e. omega (arith, e, before, at_j)) in let clear = far i b (λ e. other (sym e)) in_i in_b in omega (arith, clear, first, second)
              ]
          | inr off_j ↦
              let first = places.2 a off_i off_j in
              elim (cases_eq b i) [
                | inl at_i ↦ let second = ap (λ m. get_or (swap l i j) m 0) at_i ∙ places.0 in let clear = far a j off_j in_a in_j in omega (arith, clear, first, second)
                | inr other ↦ elim (cases_eq b j) [
                  | inl at_j ↦ let second = ap (λ m. get_or (swap l i j) m 0) at_j ∙ places.1 in let clear = far a i off_i in_a in_i in omega (arith, clear, first, second)
                  | inr other' ↦ let second = places.2 b other other' in let clear = far a b (λ e. omega (arith, e, before)) in_a in_b in omega (arith, clear, first, second)
                ]
              ]
        ]
      ];
}

pub nested-reordered : (width : ℕ) (to to' : List ℕ) → IsPermutation to to' → IsNested to width → IsNested to' width
nested-reordered width to to' same nested =
    IsPermutation-keeps to (λ l. IsNested l width) nested (λ l i j in_i in_j are. swapped-nested width l i j in_i in_j are) to' same
