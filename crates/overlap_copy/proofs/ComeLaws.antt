-- Items of a layout that are all moved by the same number of bytes, in the order of their addresses.
use Rattle.std.proofs.Common.{◌≡◌, ◌+◌, ◌-◌, ◌<◌, ◌≤◌, ◌⊎◌, inl, inr, ℕ, ℤ, pos, ◌+ℤ◌, List, length, get_or, All, Contains, Bool, true, false, nat_lt, sym, ap, subst, ◌∙◌, arith}
use Rattle.overlap_copy.proofs.Words.{cases_lt, ints, length-map, get_or-map, get_or_default, item_at, Layout, max_bytes, max_items, rank, IsIndex, count, offsets, Fits, IsNested, distance, IsRising, IsFalling, IsInOrder, false≢true, lt-ltb, ltb-true, index_at, length-offsets, pos-offset, offsets_within, entry-first, assigned, IsAssigned, source, sources, MayCome}
use Rattle.shape_strides.specs.Layouts.{dot}
use Rattle.overlap_copy.proofs.MoveLaws.{same_assigned, assigned_is}

-- ---- the same moves in another order

-- each move is one of the others, and each target of the others is one of these targets
same-moves : (n m : ℕ) (to from to' from' : ℕ → ℕ) (width : ℕ) (other old new : List ℕ) → ((k : ℕ) → k < n → (j : ℕ) × (j < m) × (to k ≡ to' j) × (from k ≡ from' j)) → ((j : ℕ) → j < m → (k : ℕ) × (k < n) × (to k ≡ to' j)) → IsAssigned m to' from' width other old new → IsAssigned n to from width other old new
same-moves n m to from to' from' width other old new there back a = record {
  len = a.len;
  items = λ k below.
      let found = there k below in
      ap (λ p. item_at p width new) found.2 ∙ a.items found.0 found.1 ∙ ap (λ p. item_at p width other) (sym found.3);
  rest = λ j outside. a.rest j (λ i below.
      let found = back i below in
      subst (λ p. (j < p) ⊎ (p + width ≤ j)) found.2 (outside found.0 found.1));
}

-- ---- the first offset of a layout

pub offset-within : (l : Layout) → l.offset ≤ max_bytes
offset-within l = elim (cases_lt 0 (count l.shape)) [
  | inl some ↦ omega (arith, entry-first l some, offsets_within l max_bytes 1 l.within_limit 0 0 (omega (arith, some, length-offsets l)))
  | inr above ↦ omega (arith, (l.zero_if_empty (omega (arith, above))).0)
]

-- ---- items in the order of their addresses do not overlap

nested-rising : (order : List ℕ) (width : ℕ) → IsRising width order → IsNested order width
nested-rising order width rising = record { apart = λ j k before below. let above = rising.apart j k before below in omega (arith, above) }

nested-falling : (order : List ℕ) (width : ℕ) → IsFalling width order → IsNested order width
nested-falling order width falling = record { apart = λ j k before below. let under = falling.apart j k before below in omega (arith, under) }

pub nested-in_order : (order : List ℕ) (width : ℕ) (down : Bool) → IsInOrder down width order → IsNested order width
nested-in_order order width false rising = nested-rising order width rising
nested-in_order order width true falling = nested-falling order width falling

-- ---- layouts of the same shape and strides

far : (p q o o' : ℕ) (z z' : ℤ) → pos o ≡ pos p +ℤ z → pos o' ≡ pos q +ℤ z' → z' ≡ z → o' + p ≡ o + q
far p q o o' z z' is is' same = omega (arith, ints, is, is', same)

module _ (dst src : Layout) (shape : src.shape ≡ dst.shape) (strides : src.strides ≡ dst.strides) where
  even : length (offsets src) ≡ length (offsets dst)
  even = length-offsets src ∙ ap count shape ∙ sym (length-offsets dst)

  as-far : (k : ℕ) → k < length (offsets dst) → get_or (offsets src) k 0 + dst.offset ≡ get_or (offsets dst) k 0 + src.offset
  as-far k below =
      let found = index_at dst.shape k (omega (arith, below, length-offsets dst)) in
      let in' : IsIndex src.shape found.0 = subst (λ s. IsIndex s found.0) (sym shape) found.1 in
      let rank' : rank src.shape found.0 ≡ k = ap (λ s. rank s found.0) shape ∙ found.2 in
      let is : pos (get_or (offsets dst) k 0) ≡ pos dst.offset +ℤ dot dst.strides found.0 = ap (λ r. pos (get_or (offsets dst) r 0)) (sym found.2) ∙ pos-offset dst found.0 0 found.1 in
      let is' : pos (get_or (offsets src) k 0) ≡ pos src.offset +ℤ dot src.strides found.0 = ap (λ r. pos (get_or (offsets src) r 0)) (sym rank') ∙ pos-offset src found.0 0 in' in
      far dst.offset src.offset (get_or (offsets dst) k 0) (get_or (offsets src) k 0) (dot dst.strides found.0) (dot src.strides found.0) is is' (ap (λ s. dot s found.0) strides)

  -- an offset of the first layout, and the offset of the second at the same index
  source-of : (o : ℕ) → Contains (offsets dst) o → (k : ℕ) × (k < length (offsets dst)) × (get_or (offsets dst) k 0 ≡ o) × (get_or (offsets src) k 0 + dst.offset ≡ o + src.offset)
  source-of o has =
      let is : get_or (offsets dst) has.0 0 ≡ o = get_or_default (offsets dst) has.0 0 o has.1 ∙ has.2 in
      (has.0, has.1, is, as-far has.0 has.1 ∙ ap (λ x. x + src.offset) is)

  back-of : (a b p q : ℕ) → a + p ≡ b + q → a ≡ b + q - p
  back-of a b p q is = omega (arith, is)

  -- the assignment gives the same if it is made in the order of another list of the same offsets
  pub assigned-order : (order : List ℕ) (width : ℕ) (old : List ℕ) → All (Contains order) (offsets dst) → All (Contains (offsets dst)) order → Fits dst (length old) width → Fits src (length old) width → IsNested (offsets dst) width → IsNested order width →
      assigned order (sources dst.offset src.offset order) width old old ≡ assigned (offsets dst) (offsets src) width old old
  assigned-order order width old all only fits fits' nested nested' =
      let to = offsets dst in
      let from = offsets src in
      let n = length to in
      let m = length order in
      let come = sources dst.offset src.offset order in
      let move = source dst.offset src.offset in
      let long : length come ≡ m = length-map order move in
      let order_in : All (λ o. o + width ≤ length old) order = λ k d below.
      let found = source-of (get_or order k d) (only k d below) in
      let ends = offsets_within dst (length old) width fits found.0 0 found.1 in
      subst (λ o. o + width ≤ length old) found.2 ends in
      let come_in : All (λ o. o + width ≤ length old) come = λ k d below.
      let low : k < m = omega (arith, below, long) in
      let found = source-of (get_or order k 0) (only k 0 low) in
      let ends = offsets_within src (length old) width fits' found.0 0 (omega (arith, found.1, even)) in
      subst (λ o. o + width ≤ length old) (back-of (get_or from found.0 0) (get_or order k 0) dst.offset src.offset found.3 ∙ sym (get_or-map move order k 0 d low)) ends in
      same_assigned n (λ k. get_or to k 0) (λ k. get_or from k 0) width old old (assigned order come width old old) (assigned to from width old old)
      (same-moves n m (λ k. get_or to k 0) (λ k. get_or from k 0) (λ k. get_or order k 0) (λ k. get_or come k 0) width old old (assigned order come width old old) (λ k below.
      let has = all k 0 below in
      let is : get_or order has.0 0 ≡ get_or to k 0 = get_or_default order has.0 0 (get_or to k 0) has.1 ∙ has.2 in (
        has.0,
        has.1,
        sym is,
        back-of (get_or from k 0) (get_or to k 0) dst.offset src.offset (as-far k below) ∙ ap move (sym is) ∙ sym (get_or-map move order has.0 0 0 has.1),
      )) (λ j below.
      let found = source-of (get_or order j 0) (only j 0 below) in
      (found.0, found.1, found.2)) (assigned_is width old order come old (sym long) order_in come_in nested'))
      (assigned_is width old to from old (sym even) (offsets_within dst (length old) width fits) (λ k d below. offsets_within src (length old) width fits' k d below) nested)

  -- ---- items that can be copied one after the other

  come-from : (order : List ℕ) (len width : ℕ) → length order ≤ max_items → All (Contains (offsets dst)) order → Fits dst len width → Fits src len width → IsNested order width → ((j k : ℕ) → j < k → k < length order → width ≤ distance (source dst.offset src.offset (get_or order k 0)) (get_or order j 0)) → MayCome len width dst.offset src.offset order
  come-from order len width few only fits fits' nested unread =
      let from = offsets src in
      record {
        few = few;
        targets = λ k d below.
            let found = source-of (get_or order k d) (only k d below) in
            subst (λ o. o + width ≤ len) found.2 (offsets_within dst len width fits found.0 0 found.1);
        low = λ k d below.
            let found = source-of (get_or order k d) (only k d below) in
            omega (arith, found.3);
        sources_are = λ k d below.
            let found = source-of (get_or order k d) (only k d below) in
            subst (λ o. o + width ≤ len) (back-of (get_or from found.0 0) (get_or order k d) dst.offset src.offset found.3) (offsets_within src len width fits' found.0 0 (omega (arith, found.1, even)));
        begin = λ k d below.
            let found = source-of (get_or order k d) (only k d below) in
            subst (λ o. o + 1 ≤ max_bytes) (back-of (get_or from found.0 0) (get_or order k d) dst.offset src.offset found.3) (offsets_within src max_bytes 1 src.within_limit found.0 0 (omega (arith, found.1, even)));
        nested = nested;
        unread = unread;
      }

  come-rising : (order : List ℕ) (len width : ℕ) → length order ≤ max_items → All (Contains (offsets dst)) order → Fits dst len width → Fits src len width → dst.offset ≤ src.offset → IsRising width order → MayCome len width dst.offset src.offset order
  come-rising order len width few only fits fits' ahead rising =
      come-from order len width few only fits fits' (nested-rising order width rising) (λ j k before below. let above = rising.apart j k before below in omega (arith, above, ahead))

  come-falling : (order : List ℕ) (len width : ℕ) → length order ≤ max_items → All (Contains (offsets dst)) order → Fits dst len width → Fits src len width → src.offset < dst.offset → IsFalling width order → MayCome len width dst.offset src.offset order
  come-falling order len width few only fits fits' behind falling =
      come-from order len width few only fits fits' (nested-falling order width falling) (λ j k before below. let under = falling.apart j k before below in omega (arith, under, behind))

  -- in falling order if the items move up, and in rising order otherwise
  pub come-in_order : (order : List ℕ) (len width : ℕ) (down : Bool) → down ≡ nat_lt src.offset dst.offset → IsInOrder down width order → length order ≤ max_items → All (Contains (offsets dst)) order → Fits dst len width → Fits src len width
      → MayCome len width dst.offset src.offset order
  come-in_order order len width false is rising few only fits fits' = come-rising order len width few only fits fits' ahead rising
    where
      ahead : dst.offset ≤ src.offset
      ahead = elim (cases_lt src.offset dst.offset) [ inl below ↦ absurd (false≢true (is ∙ lt-ltb src.offset dst.offset below)) | inr above ↦ above ]
  come-in_order order len width true is falling few only fits fits' = come-falling order len width few only fits fits' (ltb-true src.offset dst.offset (sym is)) falling
