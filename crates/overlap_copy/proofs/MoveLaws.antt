-- Moves of items: the result of an assignment, by index, and that every safe order of moves gives it.
use Rattle.std.proofs.Common.{◌≡◌, ◌+◌, ◌-◌, ◌<◌, ◌≤◌, ◌⊎◌, inl, inr, ℕ, zero, suc, ℤ, List, [], ◌∷◌, length, get_or, All, refl, sym, ap, subst, ◌∙◌, arith}
use Rattle.overlap_copy.proofs.Words.{cases_lt, ext_get_or, All-rest, All-head, byte_of, put, item_at, place, EachWithin, copied_within, length-item_at, length-put, get_or-put_before, get_or-put_after, item_at-put_same, item_at-put_apart, place_within, fewer, IsNested, distance, assigned, IsOutside, IsAssigned}

-- ---- the bytes of items

-- items with the same bytes are equal
pub same_item : (xs ys : List ℕ) (at width : ℕ) → at + width ≤ length ys → length xs ≡ length ys → ((i : ℕ) → i < width → get_or xs (at + i) 0 ≡ get_or ys (at + i) 0) → item_at at width xs ≡ item_at at width ys
same_item xs ys at width within same bytes =
    let counted = length-item_at at width xs (omega (arith, same, within)) in
    ext_get_or 0 (item_at at width xs) (item_at at width ys) (counted ∙ sym (length-item_at at width ys within)) (λ i below.
    let inside : i < width = omega (arith, below, counted) in
    byte_of at width i xs inside ∙ bytes i inside ∙ sym (byte_of at width i ys inside))

-- a byte of one item lies outside of an item that is at least `width` away
pub beside : (p q width i : ℕ) → width ≤ distance p q → i < width → (p + i < q) ⊎ (q + width ≤ p + i)
beside p q width i apart inside = elim (cases_lt p q) [
  | inl lower ↦ inl (omega (arith, lower, apart, inside))
  | inr upper ↦ inr (omega (arith, upper, apart, inside))
]

-- one of n items contains byte `j`
pub record IsHeld (n : ℕ) (to : ℕ → ℕ) (width j : ℕ) : Type 0 where
  pub k : ℕ
  pub below : k < n
  pub low : to k ≤ j
  pub high : j < to k + width

last_of : (k n : ℕ) → k < suc n → n ≤ k → k ≡ n
last_of k n below above = omega arith

held_or_outside : (n : ℕ) (to : ℕ → ℕ) (width j : ℕ) → IsHeld n to width j ⊎ IsOutside n to width j
held_or_outside zero to width j = inr (λ k below. absurd (omega arith))
held_or_outside (suc n) to width j =
    elim (held_or_outside n to width j) [
      | inl h ↦ inl (record { k = h.k; below = omega (arith, h.below); low = h.low; high = h.high })
      | inr outside ↦
          let others : (j < to n) ⊎ (to n + width ≤ j) → IsOutside (suc n) to width j = λ here k below. elim (cases_lt k n) [
            | inl before ↦ outside k before
            | inr last ↦ subst (λ i. (j < to i) ⊎ (to i + width ≤ j)) (sym (last_of k n below last)) here
          ] in
          elim (cases_lt j (to n)) [
            | inl before ↦ inr (others (inl before))
            | inr low ↦ elim (cases_lt j (to n + width)) [
              | inl high ↦ inl (record { k = n; below = omega arith; low = low; high = high })
              | inr after ↦ inr (others (inr after))
            ]
          ]
    ]

-- ---- the result of an assignment

-- the result is unique
pub same_assigned : (n : ℕ) (to from : ℕ → ℕ) (width : ℕ) (other old new new' : List ℕ) → IsAssigned n to from width other old new → IsAssigned n to from width other old new' → new ≡ new'
same_assigned n to from width other old new new' a b =
    ext_get_or 0 new new' (a.len ∙ sym b.len) (λ j _. elim (held_or_outside n to width j) [
      | inl h ↦
          let at = to h.k in
          let i = j - at in
          let inside : i < width = omega (arith, h.low, h.high) in
          let back : at + i ≡ j = omega (arith, h.low) in
          ap (λ p. get_or new p 0) (sym back) ∙ sym (byte_of at width i new inside) ∙ ap (λ l. get_or l i 0) (a.items h.k h.below ∙ sym (b.items h.k h.below)) ∙ byte_of at width i new' inside ∙ ap (λ p. get_or new' p 0) back
      | inr outside ↦ a.rest j outside ∙ sym (b.rest j outside)
    ])

-- moves can be made in another order, if reordering twice restores the first order
pub reordered : (n : ℕ) (turn : ℕ → ℕ) (to from to' from' : ℕ → ℕ) (width : ℕ) (other old new : List ℕ) → ((k : ℕ) → k < n → (turn k < n) × (turn (turn k) ≡ k)) → ((k : ℕ) → k < n → (to k ≡ to' (turn k)) × (from k ≡ from' (turn k))) → IsAssigned n to' from' width other old new → IsAssigned n to from width other old new
reordered n turn to from to' from' width other old new turns same a = record {
  len = a.len;
  items = λ k below. ap (λ p. item_at p width new) (same k below).0 ∙ a.items (turn k) (turns k below).0 ∙ ap (λ p. item_at p width other) (sym (same k below).1);
  rest = λ j outside. a.rest j (λ k below.
      let there = (turns k below).0 in
      let is : to (turn k) ≡ to' k = (same (turn k) there).0 ∙ ap to' (turns k below).1 in
      subst (λ p. (j < p) ⊎ (p + width ≤ j)) is (outside (turn k) there));
}

pub retold : (n : ℕ) (to from to' from' : ℕ → ℕ) (width : ℕ) (other old new : List ℕ) → ((k : ℕ) → k < n → (to k ≡ to' k) × (from k ≡ from' k)) → IsAssigned n to' from' width other old new → IsAssigned n to from width other old new
retold n to from to' from' width other old new same a = reordered n (λ k. k) to from to' from' width other old new (λ k below. (below, refl)) same a

-- ---- one more move

pub put_next : (m : ℕ) (to from : ℕ → ℕ) (width : ℕ) (other old now item : List ℕ) → IsAssigned m to from width other old now → ((k : ℕ) → k < suc m → to k + width ≤ length old) → ((k : ℕ) → k < m → width ≤ distance (to k) (to m)) → length item ≡ width → item ≡ item_at (from m) width other → IsAssigned (suc m) to from width other old (put (to m) item now)
put_next m to from width other old now item so_far within apart long is =
    let new = put (to m) item now in
    let last = within m (omega arith) in
    let inside : to m + length item ≤ length now = omega (arith, so_far.len, long, last) in
    record {
      len = length-put (to m) item now inside ∙ so_far.len;
      items = λ k below. elim (cases_lt k m) [
        | inl before ↦
            let clear = apart k before in
            let there = within k below in
            let sides : to k + width ≤ to m ⊎ to m + length item ≤ to k = elim (cases_lt (to k) (to m)) [
              | inl lower ↦ inl (omega (arith, lower, clear))
              | inr upper ↦ inr (omega (arith, upper, clear, long))
            ] in
            item_at-put_apart (to m) item now (to k) width inside (omega (arith, so_far.len, there)) sides ∙ so_far.items k before
        | inr above ↦
            let here = last_of k m below above in
            ap (λ i. item_at (to i) width new) here ∙ ap (λ w. item_at (to m) w new) (sym long) ∙ item_at-put_same (to m) item now inside ∙ is ∙ ap (λ i. item_at (from i) width other) (sym here)
      ];
      rest = λ j outside.
          elim (outside m (omega arith)) [
            | inl before ↦ get_or-put_before (to m) item now inside j before
            | inr after ↦ get_or-put_after (to m) item now inside j (omega (arith, after, long))
          ]
          ∙ so_far.rest j (λ k below. outside k (omega (arith, below)));
    }

-- an item that no earlier move overlaps is unchanged
pub unmet : (m : ℕ) (to from : ℕ → ℕ) (width : ℕ) (other old now : List ℕ) (at : ℕ) → IsAssigned m to from width other old now → at + width ≤ length old → ((k : ℕ) → k < m → width ≤ distance (to k) at) → item_at at width now ≡ item_at at width old
unmet m to from width other old now at so_far within apart =
    same_item now old at width within so_far.len (λ i inside. so_far.rest (at + i) (λ k before. let clear = apart k before in beside at (to k) width i (omega (arith, clear)) inside))

-- ---- moves within bytes, one after the other, none of which overlaps what a later one reads

module _ (dst : ℕ) (dst_step : ℤ) (src : ℕ) (src_step : ℤ) (width : ℕ) (old : List ℕ) where
  -- the targets do not overlap, and none overlaps an item that is read later
  pub record IsSafe (n : ℕ) : Type 0 where
    pub apart : (j k : ℕ) → j < k → k < n → width ≤ distance (place dst dst_step j) (place dst dst_step k)
    pub unread : (j k : ℕ) → j < k → k < n → width ≤ distance (place dst dst_step j) (place src src_step k)

  pub passed : (n : ℕ) → EachWithin (length old) dst dst_step width n → EachWithin (length old) src src_step width n → IsSafe n → IsAssigned n (place dst dst_step) (place src src_step) width old old (copied_within dst dst_step src src_step width n old)
  passed zero to_in from_in safe = record { len = refl; items = λ k below. absurd (omega arith); rest = λ j outside. refl }
  passed (suc n) to_in from_in safe =
      let fewer_safe : IsSafe n = record { apart = λ j k before below. safe.apart j k before (omega (arith, below)); unread = λ j k before below. safe.unread j k before (omega (arith, below)) } in
      let now = copied_within dst dst_step src src_step width n old in
      let so_far = passed n (fewer (length old) dst dst_step width n to_in) (fewer (length old) src src_step width n from_in) fewer_safe in
      let read = place_within (length old) src src_step width (suc n) n from_in (omega arith) in
      put_next n (place dst dst_step) (place src src_step) width old old now (item_at (place src src_step n) width now) so_far (λ k below. place_within (length old) dst dst_step width (suc n) k to_in below) (λ k below. safe.apart k n below (omega arith)) (length-item_at (place src src_step n) width now (omega (arith, so_far.len, read))) (unmet n (place dst dst_step) (place src src_step) width old old now (place src src_step n) so_far read (λ k below. safe.unread k n below (omega arith)))

-- ---- the result of an assignment, by positions in lists

pub assigned_is : (width : ℕ) (other to from block : List ℕ) → length to ≡ length from → All (λ o. o + width ≤ length block) to → All (λ o. o + width ≤ length other) from → IsNested to width → IsAssigned (length to) (λ k. get_or to k 0) (λ k. get_or from k 0) width other block (assigned to from width other block)
assigned_is width other [] [] block even in_block in_other nested = record { len = refl; items = λ k below. absurd (omega arith); rest = λ j outside. refl }
assigned_is width other (at ∷ to) (offset ∷ from) block even in_block in_other nested =
    let item = item_at offset width other in
    let here = All-head (λ o. o + width ≤ length block) at to in_block in
    let long = length-item_at offset width other (All-head (λ o. o + width ≤ length other) offset from in_other) in
    let inside : at + length item ≤ length block = omega (arith, long, here) in
    let next = put at item block in
    let same = length-put at item block inside in
    let left : All (λ o. o + width ≤ length next) to = subst (λ n. All (λ o. o + width ≤ n) to) (sym same) (All-rest (λ o. o + width ≤ length block) at to (at ∷ to) refl in_block) in
    let nested_left : IsNested to width = record { apart = λ j k before below. nested.apart (suc j) (suc k) (omega (arith, before)) (omega (arith, below)) } in
    let later = assigned_is width other to from next (omega (arith, even)) left (All-rest (λ o. o + width ≤ length other) offset from (offset ∷ from) refl in_other) nested_left in
    let new = assigned to from width other next in
    let kept = unmet (length to) (λ k. get_or to k 0) (λ k. get_or from k 0) width other next new at later (omega (arith, same, here)) (λ k below. let clear = nested.apart 0 (suc k) (omega arith) (omega (arith, below)) in omega (arith, clear)) in
    let first = kept ∙ ap (λ w. item_at at w next) (sym long) ∙ item_at-put_same at item block inside in
    record { len = later.len ∙ same; items = each first later.items; rest = λ j outside. later.rest j (λ k below. outside (suc k) (omega (arith, below))) ∙ elim (outside 0 (omega arith)) [ inl before ↦ get_or-put_before at item block inside j before | inr after ↦ get_or-put_after at item block inside j (omega (arith, after, long)) ] }
  where
    each : item_at at width (assigned to from width other (put at (item_at offset width other) block)) ≡ item_at offset width other → ((k : ℕ) → k < length to → item_at (get_or to k 0) width (assigned to from width other (put at (item_at offset width other) block)) ≡ item_at (get_or from k 0) width other) → (k : ℕ) → k < suc (length to) → item_at (get_or (at ∷ to) k 0) width (assigned to from width other (put at (item_at offset width other) block)) ≡ item_at (get_or (offset ∷ from) k 0) width other
    each first rest zero below = first
    each first rest (suc k) below = rest k (omega (arith, below))
assigned_is width other _ _ block even in_block in_other nested = absurd (omega (arith, even))
