-- Lists along an axis, and the items at which they begin.
use Rattle.std.proofs.Common.{◌≡◌, ◌+◌, ◌*◌, ◌<◌, ◌≤◌, ℕ, zero, suc, ℤ, pos, ◌+ℤ◌, ◌*ℤ◌, Some, List, [], ◌∷◌, map, replicate, length, get_or, All, refl, sym, ap, subst, ◌∙◌, arith, mul_comm, mul_assoc, mul-zero, mul-le-mul_right, ◌≤ℤ◌}
use Rattle.reductions.proofs.Words.{insert, remove, range_with_len, ints, length-map, get_or-map, same_lists, All-head, All-tail, All-cons, All-from_get_or, length-map-range_with_len, get_or-map-range_with_len, *ℤ_comm, zero-*ℤ, IsShape, position, EachWithin, StridedAxis, Layout, dot, natural, address_at, LieWithin, count, indexes, rank, IsIndex, length-indexes, length-index, rank-lt, get_or-indexes, index_at, address, offsets, length-offsets, pos-offset, max_items, max_bytes, run_along, run_offsets, AreStarts, IsIndex-insert, lists, lines}

-- ---- removing a number, and inserting one

pub length-remove : {X : Type 0} (xs : List X) (a : ℕ) → a < length xs → suc (length (remove xs a)) ≡ length xs
length-remove [] a low = absurd (omega (arith, low))
length-remove (x ∷ xs) zero low = refl
length-remove (x ∷ xs) (suc a) low = ap suc (length-remove xs a (omega (arith, low)))

pub map-remove : {X Y : Type 0} (f : X → Y) (xs : List X) (a : ℕ) → remove (map f xs) a ≡ map f (remove xs a)
map-remove f [] zero = refl
map-remove f [] (suc a) = refl
map-remove f (x ∷ xs) zero = refl
map-remove f (x ∷ xs) (suc a) = ap (λ l. f x ∷ l) (map-remove f xs a)

pub ones : (shape : List ℕ) → replicate {A = ℕ} (length shape) 1 ≡ map (λ _. 1) shape
ones [] = refl
ones (n ∷ shape) = ap (λ l. 1 ∷ l) (ones shape)

turned : (m g c : ℕ) → m * (g * c) ≡ g * (m * c)
turned m g c = sym (mul_assoc m g c) ∙ ap (λ x. x * c) (mul_comm m g) ∙ mul_assoc g m c

pub count-remove : (shape : List ℕ) (a : ℕ) → a < length shape → count shape ≡ get_or shape a 0 * count (remove shape a)
count-remove [] a low = absurd (omega (arith, low))
count-remove (n ∷ shape) zero low = refl
count-remove (n ∷ shape) (suc a) low = ap (λ c. n * c) (count-remove shape a (omega (arith, low))) ∙ turned n (get_or shape a 0) (count (remove shape a))

All-remove : {X : Type 0} (p : X → Type 0) (xs : List X) (a : ℕ) → All p xs → All p (remove xs a)
All-remove p [] zero all = all
All-remove p [] (suc a) all = all
All-remove p (x ∷ xs) zero all = All-tail p x xs all
All-remove p (x ∷ xs) (suc a) all = All-cons p x (remove xs a) (All-head p x xs all) (All-remove p xs a (All-tail p x xs all))

-- ---- indexes and addresses

swapped : (x y z : ℤ) → x +ℤ (y +ℤ z) ≡ y +ℤ (x +ℤ z)
swapped x y z = omega (arith, ints)

pub dot-insert : (strides : List ℤ) (index : List ℕ) (a k : ℕ) → a < length strides → suc (length index) ≡ length strides → dot strides (insert index a k) ≡ get_or strides a (pos 0) *ℤ pos k +ℤ dot (remove strides a) index
dot-insert [] index a k low long = absurd (omega (arith, low))
dot-insert (s ∷ strides) index zero k low long = refl
dot-insert (s ∷ strides) [] (suc a) k low long = absurd (omega (arith, low, long))
dot-insert (s ∷ strides) (i ∷ index) (suc a) k low long =
    ap (λ z. s *ℤ pos i +ℤ z) (dot-insert strides index a k (omega (arith, low)) (omega (arith, long)))
    ∙ swapped (s *ℤ pos i) (get_or strides a (pos 0) *ℤ pos k) (dot (remove strides a) index)

-- ---- a layout without an axis

module _ (l : Layout) (a : ℕ) (low : a < length l.shape) where
  abbrev stride : ℤ
  stride = get_or l.strides a (pos 0)

  low' : a < length l.strides
  low' = omega (arith, low, l.one_stride_an_axis)

  even : (index : List ℕ) → IsIndex (remove l.shape a) index → suc (length index) ≡ length l.strides
  even index in' = omega (arith, length-index (remove l.shape a) index in', length-remove l.shape a low, l.one_stride_an_axis)

  -- The item with index `k` on the axis is `k` strides after the one with index 0.
  pub address-insert : (index : List ℕ) (k : ℕ) → IsIndex (remove l.shape a) index → address l (insert index a k) ≡ address_at (remove l.strides a) l.offset index +ℤ stride *ℤ pos k
  address-insert index k in' = ap (λ z. pos l.offset +ℤ z) (dot-insert l.strides index a k low' (even index in')) ∙ behind (pos l.offset) (stride *ℤ pos k) (dot (remove l.strides a) index)
    where
      behind : (x y z : ℤ) → x +ℤ (y +ℤ z) ≡ (x +ℤ z) +ℤ y
      behind x y z = omega (arith, ints)

  first : (index : List ℕ) → IsIndex (remove l.shape a) index → address l (insert index a 0) ≡ address_at (remove l.strides a) l.offset index
  first index in' = address-insert index 0 in' ∙ same (address_at (remove l.strides a) l.offset index) (stride *ℤ pos 0) (*ℤ_comm stride (pos 0) ∙ zero-*ℤ stride)
    where
      same : (x y : ℤ) → y ≡ pos 0 → x +ℤ y ≡ x
      same x y none = omega (arith, ints, none)

  pub lies-without : 0 < get_or l.shape a 0 → LieWithin (remove l.shape a) (remove l.strides a) l.offset max_bytes 1
  lies-without some = record {
    from_zero = λ index in'. subst (λ z. pos 0 ≤ℤ z) (first index in') (l.within_limit.from_zero (insert index a 0) (IsIndex-insert l.shape index a 0 low in' some));
    within = λ index in'. subst (λ z. (z +ℤ pos 1) ≤ℤ pos max_bytes) (first index in') (l.within_limit.within (insert index a 0) (IsIndex-insert l.shape index a 0 low in' some));
  }

  pub empty-without : count (remove l.shape a) ≡ 0 → (l.offset ≡ 0) × (remove l.strides a ≡ map (λ _. pos 0) (remove l.shape a))
  empty-without none =
      let zero' : count l.shape ≡ 0 = count-remove l.shape a low ∙ ap (λ c. get_or l.shape a 0 * c) none ∙ mul-zero (get_or l.shape a 0) in
      let both = l.zero_if_empty zero' in
      (both.0, ap (λ strides. remove strides a) both.1 ∙ map-remove (λ _. pos 0) l.shape a)

-- ---- a shape without an axis

pub IsShape-remove : (shape : List ℕ) (a : ℕ) → a < length shape → 1 ≤ get_or shape a 0 → IsShape shape → IsShape (remove shape a)
IsShape-remove shape a low some is =
    let part : 1 * count (remove shape a) ≤ get_or shape a 0 * count (remove shape a) = mul-le-mul_right (count (remove shape a)) some in
    record {
      axes = omega (arith, is.axes, length-remove shape a low);
      lengths = All-remove (λ n. n ≤ max_items) shape a is.lengths;
      items = omega (arith, part, is.items, count-remove shape a low);
    }

pub layout_without : (l : Layout) (a : ℕ) (shape : List ℕ) (strides : List ℤ) → a < length l.shape → 0 < get_or l.shape a 0 → shape ≡ remove l.shape a → strides ≡ remove l.strides a →
    (length strides ≡ length shape) × (LieWithin shape strides l.offset max_bytes 1) × (count shape ≡ 0 → (l.offset ≡ 0) × (strides ≡ map (λ _. pos 0) shape))
layout_without l a shape strides low some same same' =
    let lies = lies-without l a low some in
    let long : suc (length (remove l.strides a)) ≡ length l.strides = length-remove l.strides a (omega (arith, low, l.one_stride_an_axis)) in
    let long' : suc (length (remove l.shape a)) ≡ length l.shape = length-remove l.shape a low in (
      omega (arith, ap length same, ap length same', long, long', l.one_stride_an_axis),
      subst (λ s. LieWithin s strides l.offset max_bytes 1) (sym same) (subst (λ t. LieWithin (remove l.shape a) t l.offset max_bytes 1) (sym same') lies),
      λ none. let both = empty-without l a low (ap count (sym same) ∙ none) in (both.0, same' ∙ both.1 ∙ ap (map (λ _. pos 0)) (sym same)),
    )

-- ---- the lists along an axis

module _ (l : Layout) (a : ℕ) (starts : Layout) (low : a < length l.shape) (are : AreStarts l a starts) where
  abbrev n : ℕ
  n = get_or l.shape a 0

  abbrev pub axis_at : StridedAxis
  axis_at = record { len = get_or l.shape a 0; stride = get_or l.strides a (pos 0) }

  -- the offset at which the list of an index begins
  begin : (index : List ℕ) → IsIndex (remove l.shape a) index → pos (get_or (offsets starts) (rank (remove l.shape a) index) 0) ≡ address_at (remove l.strides a) l.offset index
  begin index in' =
      ap (λ shape. pos (get_or (offsets starts) (rank shape index) 0)) (sym are.shape)
      ∙ pos-offset starts index 0 (subst (λ shape. IsIndex shape index) (sym are.shape) in')
      ∙ (λ i. address_at (are.strides i) (are.offset i) index)

  -- the offsets of its items
  lies : (index : List ℕ) (k : ℕ) → IsIndex (remove l.shape a) index → k < n → pos (get_or (offsets l) (rank l.shape (insert index a k)) 0) ≡ pos (get_or (offsets starts) (rank (remove l.shape a) index) 0) +ℤ axis_at.stride *ℤ pos k
  lies index k in' below =
      pos-offset l (insert index a k) 0 (IsIndex-insert l.shape index a k low in' below)
      ∙ address-insert l a low index k in'
      ∙ ap (λ z. z +ℤ axis_at.stride *ℤ pos k) (sym (begin index in'))

  list_of : List ℕ → List ℕ
  list_of index = map (λ k. get_or (offsets l) (rank l.shape (insert index a k)) 0) (range_with_len 0 n)

  same_list : (index : List ℕ) → IsIndex (remove l.shape a) index → list_of index ≡ run_offsets (run_along axis_at (get_or (offsets starts) (rank (remove l.shape a) index) 0))
  unfolding list_of
  same_list index in' =
      let o = get_or (offsets starts) (rank (remove l.shape a) index) 0 in
      let at = λ (k : ℕ). get_or (offsets l) (rank l.shape (insert index a k)) 0 in
      let z = λ (k : ℕ). pos o +ℤ axis_at.stride *ℤ pos k in
      let numbers = map z (range_with_len 0 n) in
      let long : length numbers ≡ n = length-map-range_with_len z 0 n in
      same_lists (map at (range_with_len 0 n)) (map natural numbers) (length-map-range_with_len at 0 n ∙ sym (length-map numbers natural ∙ long)) (λ k d below.
      let inside : k < n = omega (arith, below, length-map-range_with_len at 0 n) in
      get_or-map-range_with_len at 0 n k k d inside (omega arith)
      ∙ ap natural (lies index k in' inside)
      ∙ sym (get_or-map natural numbers k (pos 0) d (omega (arith, inside, long)) ∙ ap natural (get_or-map-range_with_len z 0 n k k (pos 0) inside (omega arith))))

  pub lists_are : lists l.shape (Some a) (offsets l) ≡ lines axis_at (offsets starts)
  unfolding list_of
  lists_are =
      let others = remove l.shape a in
      let line = λ (o : ℕ). run_offsets (run_along axis_at o) in
      let long : length (map list_of (indexes others)) ≡ count others = length-map (indexes others) list_of ∙ length-indexes others in
      let long' : length (offsets starts) ≡ count others = length-offsets starts ∙ ap count are.shape in
      same_lists (map list_of (indexes others)) (map line (offsets starts)) (long ∙ sym (length-map (offsets starts) line ∙ long')) (λ r d below.
      let inside : r < count others = omega (arith, below, long) in
      let found = index_at others r inside in
      let here : get_or (indexes others) r [] ≡ found.0 = ap (λ k. get_or (indexes others) k []) (sym found.2) ∙ get_or-indexes others found.0 [] found.1 in
      get_or-map list_of (indexes others) r [] d (omega (arith, inside, length-indexes others))
      ∙ ap list_of here
      ∙ same_list found.0 found.1
      ∙ ap (λ k. line (get_or (offsets starts) k 0)) found.2
      ∙ sym (get_or-map line (offsets starts) r 0 d (omega (arith, inside, long'))))

  -- each of their items lies within the bytes
  pub within_lines : (len width : ℕ) → All (λ offset. offset + width ≤ len) (offsets l) → All (λ offset. EachWithin len offset axis_at.stride width axis_at.len) (offsets starts)
  within_lines len width inside = All-from_get_or (λ offset. EachWithin len offset axis_at.stride width axis_at.len) (offsets starts) 0 (λ r below.
      let others = remove l.shape a in
      let small : r < count others = omega (arith, below, length-offsets starts, ap count are.shape) in
      let found = index_at others r small in
      subst (λ k. EachWithin len (get_or (offsets starts) k 0) axis_at.stride width n) found.2 (record {
        each = λ k low'.
            let o = get_or (offsets starts) (rank others found.0) 0 in
            let at = get_or (offsets l) (rank l.shape (insert found.0 a k)) 0 in
            let ends : at + width ≤ len = inside (rank l.shape (insert found.0 a k)) 0 (omega (arith, length-offsets l, rank-lt l.shape (insert found.0 a k) (IsIndex-insert l.shape found.0 a k low found.1 low'))) in
            let is : position o axis_at.stride k ≡ pos at = ap (λ z. pos o +ℤ z) (*ℤ_comm (pos k) axis_at.stride) ∙ sym (lies found.0 k found.1 low') in (
              subst (λ z. pos 0 ≤ℤ z) (sym is) (omega (arith, ints)),
              subst (λ z. (z +ℤ pos width) ≤ℤ pos len) (sym is) (omega (arith, ints, ends)),
            );
      }))

  -- the first item of each list lies within the bytes
  pub starts_within : (len width : ℕ) → 0 < n → All (λ offset. offset + width ≤ len) (offsets l) → All (λ offset. offset + width ≤ len) (offsets starts)
  starts_within len width some inside = λ r d below.
      let within = (within_lines len width inside r d below).each 0 some in
      let none = zero-*ℤ axis_at.stride in
      let high = within.1 in
      omega (arith, ints)
