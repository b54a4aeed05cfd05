-- Sums of strides over the first axes, and the next index.
use Rattle.std.proofs.Common.{◌≡◌, ℕ, zero, suc, ◌+◌, ◌<◌, ◌≤◌, ℤ, pos, ◌+ℤ◌, ◌*ℤ◌, ◌≤ℤ◌, List, [], ◌∷◌, ◌++◌, length, get_or, take, drop, refl, sym, ◌∙◌, ap, arith, add-one, add-mul, length-take, length-take-le}
use Rattle.shape_strides.proofs.Words.{ints, take_more, +ℤ_assoc, +ℤ_idl, +ℤ_idr, Layout, zero_filled, dot-nil, dot-zeros, rank-zeros, length-index, count, rank, IsIndex, max_bytes, dot, address}

pub length-padded : (shape front : List ℕ) → length (zero_filled shape front) ≡ length shape
length-padded [] front = refl
length-padded (n ∷ shape) [] = ap suc (length-padded shape [])
length-padded (n ∷ shape) (k ∷ front) = ap suc (length-padded shape front)

pub dot-padded : (strides : List ℤ) (shape front : List ℕ) → length front ≤ length shape → dot strides (zero_filled shape front) ≡ dot strides front
dot-padded [] shape front short = refl
dot-padded (s ∷ strides) shape [] short = dot-zeros (s ∷ strides) shape
dot-padded (s ∷ strides) [] (k ∷ front) short = absurd (omega arith)
dot-padded (s ∷ strides) (n ∷ shape) (k ∷ front) short = ap (λ z. s *ℤ pos k +ℤ z) (dot-padded strides shape front (omega arith))

-- One more number adds that number times its stride.
pub dot-push : (strides : List ℤ) (front : List ℕ) (x j : ℕ) → length front ≡ j → j < length strides → dot strides (front ++ x ∷ []) ≡ dot strides front +ℤ (get_or strides j (pos 0) *ℤ pos x)
dot-push (s ∷ strides) [] x zero same below = rw (dot-nil strides, +ℤ_idl (s *ℤ pos x)) (+ℤ_idr (s *ℤ pos x))
dot-push (s ∷ strides) (k ∷ front) x (suc j) same below =
    ap (λ z. s *ℤ pos k +ℤ z) (dot-push strides front x j (omega arith) (omega arith)) ∙ sym (+ℤ_assoc (s *ℤ pos k) (dot strides front) (get_or strides j (pos 0) *ℤ pos x))
dot-push _ _ x _ same below = absurd (omega arith)

-- If the shape has an index, the index of zeros is one.
pub IsIndex-zeros : (shape index : List ℕ) → IsIndex shape index → IsIndex shape (zero_filled shape [])
IsIndex-zeros [] [] in' = tt
IsIndex-zeros (n ∷ shape) (k ∷ index) in' = (omega (arith, in'.0), IsIndex-zeros shape index in'.1)
IsIndex-zeros _ _ in' = absurd in'

-- An index with its numbers from j on replaced by zeros is an index.
pub IsIndex-padded_take : (shape index : List ℕ) (j : ℕ) → IsIndex shape index → IsIndex shape (zero_filled shape (take j index))
IsIndex-padded_take [] [] j in' = tt
IsIndex-padded_take (n ∷ shape) (k ∷ index) zero in' = (omega (arith, in'.0), IsIndex-zeros shape index in'.1)
IsIndex-padded_take (n ∷ shape) (k ∷ index) (suc j) in' = (in'.0, IsIndex-padded_take shape index j in'.1)
IsIndex-padded_take _ _ j in' = absurd in'

-- So is an index with one more number before the zeros.
pub IsIndex-padded_push : (shape index : List ℕ) (j x : ℕ) → IsIndex shape index → j < length shape → x < get_or shape j 0 → IsIndex shape (zero_filled shape (take j index ++ x ∷ []))
IsIndex-padded_push (n ∷ shape) (k ∷ index) zero x in' below fits = (fits, IsIndex-zeros shape index in'.1)
IsIndex-padded_push (n ∷ shape) (k ∷ index) (suc j) x in' below fits = (in'.0, IsIndex-padded_push shape index j x in'.1 (omega arith) fits)
IsIndex-padded_push _ _ j x in' below fits = absurd (omega arith)

-- the rank of the next index, if the axes after j are at their last numbers
pub rank-stepped : (shape index : List ℕ) (j : ℕ) → IsIndex shape index → j < length shape → rank (drop (suc j) shape) (drop (suc j) index) + 1 ≡ count (drop (suc j) shape) → rank shape (zero_filled shape (take j index ++ (get_or index j 0 + 1) ∷ [])) ≡ rank shape index + 1
rank-stepped (n ∷ shape) (k ∷ index) zero in' below last = omega (arith, rank-zeros shape, add-mul k 1 (count shape), last)
rank-stepped (n ∷ shape) (k ∷ index) (suc j) in' below last = omega (arith, rank-stepped shape index j in'.1 (omega arith) last)
rank-stepped _ _ j in' below last = absurd (omega arith)

-- one more axis at its last number
pub last-more : (shape index : List ℕ) (j : ℕ) → IsIndex shape index → j < length shape → get_or shape j 0 ≤ get_or index j 0 + 1 → rank (drop (suc j) shape) (drop (suc j) index) + 1 ≡ count (drop (suc j) shape) → rank (drop j shape) (drop j index) + 1 ≡ count (drop j shape)
last-more (n ∷ shape) (k ∷ index) zero in' below top last =
    let whole : n ≡ k + 1 = omega (arith, in'.0) in
    rw whole (omega (arith, last, add-mul k 1 (count shape)))
last-more (n ∷ shape) (k ∷ index) (suc j) in' below top last = last-more shape index j in'.1 (omega arith) top last
last-more _ _ j in' below top last = absurd (omega arith)

-- ---- sums over the first axes of a layout that fits

-- one more axis
pub dot-take_more : (strides : List ℤ) (index : List ℕ) (j : ℕ) → j < length index → j < length strides → dot strides (take (suc j) index) ≡ dot strides (take j index) +ℤ (get_or strides j (pos 0) *ℤ pos (get_or index j 0))
dot-take_more strides index j inside below =
    rw (← add-one j, take_more index j 0 inside) (dot-push strides (take j index) (get_or index j 0) j (length-take-le j index (omega arith)) below)

-- The sum over the first axes is the address of an index, so it is within the limits too.
pub part-address : (l : Layout) (index : List ℕ) (j : ℕ) → IsIndex l.shape index → address l (zero_filled l.shape (take j index)) ≡ pos l.offset +ℤ dot l.strides (take j index)
part-address l index j in' =
    let short : length (take j index) ≤ length l.shape = omega (arith, length-take j index, length-index l.shape index in') in
    ap (λ z. pos l.offset +ℤ z) (dot-padded l.strides l.shape (take j index) short)

pub part_low : (l : Layout) (index : List ℕ) (j : ℕ) → IsIndex l.shape index → pos 0 ≤ℤ (pos l.offset +ℤ dot l.strides (take j index))
part_low l index j in' =
    rw (← part-address l index j in') (l.within_limit.from_zero (zero_filled l.shape (take j index)) (IsIndex-padded_take l.shape index j in'))

pub part_high : (l : Layout) (index : List ℕ) (j : ℕ) → IsIndex l.shape index → (pos l.offset +ℤ dot l.strides (take j index) +ℤ pos 1) ≤ℤ pos max_bytes
part_high l index j in' =
    rw (← part-address l index j in') (l.within_limit.within (zero_filled l.shape (take j index)) (IsIndex-padded_take l.shape index j in'))

-- `at` is the address that the first j numbers give.
pub record ComesTo (l : Layout) (index : List ℕ) (j at : ℕ) : Type 0 where
  pub in_shape : IsIndex l.shape index
  pub below : j < length index
  pub so_far : pos at ≡ pos l.offset +ℤ dot l.strides (take j index)

pub record GoesOn (l : Layout) (index : List ℕ) (j at : ℕ) : Type 0 where
  pub axis : j < length l.strides
  pub start : at < max_bytes
  pub low : pos 0 ≤ℤ (pos at +ℤ get_or l.strides j (pos 0) *ℤ pos (get_or index j 0))
  pub high : (pos at +ℤ get_or l.strides j (pos 0) *ℤ pos (get_or index j 0)) ≤ℤ pos max_bytes
  pub more : pos at +ℤ get_or l.strides j (pos 0) *ℤ pos (get_or index j 0) ≡ pos l.offset +ℤ dot l.strides (take (suc j) index)

-- the arithmetic behind it
sum_more : (at off d d' p : ℤ) → at ≡ off +ℤ d → d' ≡ d +ℤ p → at +ℤ p ≡ off +ℤ d'
sum_more at off d d' p so_far next = omega (arith, ints)

pub sum_bounds : (z w : ℤ) (len : ℕ) → w ≡ z → pos 0 ≤ℤ z → (z +ℤ pos 1) ≤ℤ pos len → (pos 0 ≤ℤ w) × (w ≤ℤ pos len)
sum_bounds z w len is low high = (omega (arith, ints), omega (arith, ints))

pub sum_start : (at len : ℕ) (z : ℤ) → pos at ≡ z → (z +ℤ pos 1) ≤ℤ pos len → at < len
sum_start at len z is high = omega (arith, ints)

pub goes_on : (l : Layout) (index : List ℕ) (j at : ℕ) → ComesTo l index j at → GoesOn l index j at
goes_on l index j at c =
    let size = length-index l.shape index c.in_shape in
    let axis : j < length l.strides = omega (arith, l.one_stride_an_axis, c.below) in
    let p = get_or l.strides j (pos 0) *ℤ pos (get_or index j 0) in
    let sum = pos l.offset +ℤ dot l.strides (take (suc j) index) in
    let more : pos at +ℤ p ≡ sum = sum_more (pos at) (pos l.offset) (dot l.strides (take j index)) (dot l.strides (take (suc j) index)) p c.so_far (dot-take_more l.strides index j c.below axis) in
    let bounds = sum_bounds sum (pos at +ℤ p) max_bytes more (part_low l index (suc j) c.in_shape) (part_high l index (suc j) c.in_shape) in
    record {
      axis = axis;
      start = sum_start at max_bytes (pos l.offset +ℤ dot l.strides (take j index)) c.so_far (part_high l index j c.in_shape);
      low = bounds.0;
      high = bounds.1;
      more = more;
    }
