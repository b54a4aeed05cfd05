-- Laws of Fortran order, which is C order with the axes reversed.
use Rattle.std.proofs.Common.{◌≡◌, ℕ, zero, suc, ◌+◌, ◌*◌, ◌^◌, ◌-◌, ◌<◌, ◌≤◌, ◌≢◌, true, false, ℤ, pos, ◌+ℤ◌, ◌*ℤ◌, List, [], ◌∷◌, ◌++◌, map, reverse, length, get_or, take, drop, refl, sym, ◌∙◌, ap, arith, mul_comm, mul-one, one-mul, mul-le-mul_left, length-drop, take_all, inl, inr, All, subst}
use Rattle.shape_strides.proofs.Words.{cases_order, ints, drop_more, length-reverse, reverse-reverse, reverse-append, take_more, get_or-reverse, take-append-drop, map-append, drop-append_seam, +ℤ_idl, +ℤ_assoc, Layout, count, indexes, rank, IsIndex, max_axes, max_items, max_bytes, IsShape, dot, address_at, natural, LieWithin, address, offsets, IsNested, distance, multiples, c_strides, f_strides, f_multiples, fortran_order, is_c_contiguous, is_f_contiguous, same_on_indexes, rank-same, index_at, rank-lt, length-index, length-offsets, get_or-offsets, mul-step, factors_pos, count-drop, max_reach, reverse-cons, count-append, count-reverse, IsIndex-reverse, IsIndex-from_reverse}
use Rattle.shape_strides.proofs.LayoutLaws.{dot-c_strides, address-made, StandsInCOrder, offsets-c_order}
use Rattle.shape_strides.proofs.CountLaws.{length-c_strides, length-ordered}
use Rattle.shape_strides.proofs.ContiguityLaws.{StepsOver, product-bound, is_c-empty, is_c-true, is_c-false}

-- ---- reversed lists

pub dot-append : (strides strides' : List ℤ) (index index' : List ℕ) → length strides ≡ length index → dot (strides ++ strides') (index ++ index') ≡ dot strides index +ℤ dot strides' index'
dot-append [] strides' [] index' same = sym (+ℤ_idl (dot strides' index'))
dot-append (s ∷ strides) strides' (k ∷ index) index' same =
    ap (λ z. s *ℤ pos k +ℤ z) (dot-append strides strides' index index' (omega arith)) ∙ sym (+ℤ_assoc (s *ℤ pos k) (dot strides index) (dot strides' index'))
dot-append _ strides' _ index' same = absurd (omega arith)

turned_sum : (a b : ℤ) → a +ℤ (b +ℤ pos 0) ≡ b +ℤ a
turned_sum a b = omega (arith, ints)

pub dot-reverse : (strides : List ℤ) (index : List ℕ) → length strides ≡ length index → dot (reverse strides) (reverse index) ≡ dot strides index
dot-reverse (s ∷ strides) (k ∷ index) same =
    rw (reverse-cons s strides, reverse-cons k index) (dot-append (reverse strides) (s ∷ []) (reverse index) (k ∷ []) (omega (arith, length-reverse strides, length-reverse index)) ∙ turned_sum (dot (reverse strides) (reverse index)) (s *ℤ pos k) ∙ ap (λ z. s *ℤ pos k +ℤ z) (dot-reverse strides index (omega arith)))
dot-reverse _ _ same = cc

-- ---- a layout with its axes reversed

address_reversed : (shape : List ℕ) (strides : List ℤ) (offset : ℕ) (index : List ℕ) → length strides ≡ length shape → IsIndex (reverse shape) index → address_at (reverse strides) offset index ≡ address_at strides offset (reverse index)
address_reversed shape strides offset index one in' =
    let size = length-index (reverse shape) index in' in
    let same : length strides ≡ length (reverse index) = omega (arith, length-reverse shape, length-reverse index) in
    let turned : dot (reverse strides) (reverse (reverse index)) ≡ dot strides (reverse index) = dot-reverse strides (reverse index) same in
    ap (λ i. pos offset +ℤ dot (reverse strides) i) (sym (reverse-reverse index)) ∙ ap (λ z. pos offset +ℤ z) turned

pub lie_reversed : (shape : List ℕ) (strides : List ℤ) (offset len item : ℕ) → length strides ≡ length shape → LieWithin shape strides offset len item → LieWithin (reverse shape) (reverse strides) offset len item
lie_reversed shape strides offset len item one lie = record {
  from_zero = λ index in'. rw (address_reversed shape strides offset index one in') (lie.from_zero (reverse index) (IsIndex-from_reverse shape index in'));
  within = λ index in'. rw (address_reversed shape strides offset index one in') (lie.within (reverse index) (IsIndex-from_reverse shape index in'));
}

pub zeros_reversed : (shape : List ℕ) → reverse (map (λ _. pos 0) shape) ≡ map (λ _. pos 0) (reverse shape)
zeros_reversed [] = refl
zeros_reversed (n ∷ shape) =
    reverse-cons (pos 0) (map (λ _. pos 0) shape) ∙ ap (λ s. s ++ pos 0 ∷ []) (zeros_reversed shape) ∙ sym (ap (map (λ _. pos 0)) (reverse-cons n shape) ∙ map-append (λ _. pos 0) (reverse shape) (n ∷ []))

abbrev pub reversed : Layout → Layout
reversed l = record {
  shape = reverse l.shape;
  strides = reverse l.strides;
  offset = l.offset;
  one_stride_an_axis = length-reverse l.strides ∙ l.one_stride_an_axis ∙ sym (length-reverse l.shape);
  within_limit = lie_reversed l.shape l.strides l.offset max_bytes 1 l.one_stride_an_axis l.within_limit;
  zero_if_empty = λ none. let zero = l.zero_if_empty (sym (count-reverse l.shape) ∙ none) in (zero.0, ap reverse zero.1 ∙ zeros_reversed l.shape);
}

pub address-reversed : (l : Layout) (index : List ℕ) → IsIndex (reverse l.shape) index → address (reversed l) index ≡ address l (reverse index)
address-reversed l index in' = address_reversed l.shape l.strides l.offset index l.one_stride_an_axis in'

-- The items of the reversed layout in C order are those of the layout in Fortran order.
pub fortran_order-offsets : (l : Layout) → fortran_order l.shape (offsets l) ≡ offsets (reversed l)
unfolding offsets
fortran_order-offsets l =
    same_on_indexes (reverse l.shape) (λ index. get_or (offsets l) (rank l.shape (reverse index)) 0) (λ index. natural (address (reversed l) index))
    (λ index in'. get_or-offsets l (reverse index) 0 (IsIndex-from_reverse l.shape index in') ∙ ap natural (sym (address-reversed l index in')))

pub offsets-reversed : (l turned : Layout) → turned.shape ≡ reverse l.shape → turned.strides ≡ reverse l.strides → turned.offset ≡ l.offset → offsets turned ≡ fortran_order l.shape (offsets l)
unfolding offsets
offsets-reversed l turned shape strides offset =
    (λ i. map (λ index. natural (address_at (strides i) (offset i) index)) (indexes (shape i))) ∙ sym (fortran_order-offsets l)

All-reverse : (P : ℕ → Type 0) (xs : List ℕ) → All P xs → All P (reverse xs)
All-reverse P xs all = λ k d below.
    let low : k < length xs = omega (arith, length-reverse xs) in
    subst P (sym (get_or-reverse xs k d low)) (all (length xs - 1 - k) d (omega arith))

pub IsShape-reverse : (shape : List ℕ) → IsShape shape → IsShape (reverse shape)
IsShape-reverse shape is = record {
  axes = subst (λ n. n ≤ max_axes) (sym (length-reverse shape)) is.axes;
  lengths = All-reverse (λ n. n ≤ max_items) shape is.lengths;
  items = subst (λ n. n ≤ max_items) (sym (count-reverse shape)) is.items;
}

-- ---- the test for a layout

pub is_f-empty : (l : Layout) (item : ℕ) → count l.shape ≡ 0 → is_f_contiguous item l.shape (offsets l) ≡ true
is_f-empty l item none =
    ap (is_c_contiguous item) (fortran_order-offsets l) ∙ is_c-empty (reversed l) item (count-reverse l.shape ∙ none)

-- the first k + 1 entries, reversed
pub reverse-take_more : {X : Type 0} (xs : List X) (k : ℕ) (d : X) → k < length xs → reverse (take (k + 1) xs) ≡ get_or xs k d ∷ reverse (take k xs)
reverse-take_more xs k d below = ap reverse (take_more xs k d below) ∙ reverse-append (take k xs) (get_or xs k d ∷ [])

pub count-take-le : (shape : List ℕ) (k : ℕ) → 0 < count shape → count (take k shape) ≤ count shape
count-take-le (n ∷ shape) (suc k) some = mul-le-mul_left n (count-take-le shape k (factors_pos n (count shape) some).1)
count-take-le [] zero some = omega arith
count-take-le _ _ some = omega arith

pub f_bytes-bound : (shape : List ℕ) (k bytes item : ℕ) → 0 < count shape → count shape ≤ max_items → item < 2 ^ 64 → bytes ≡ count (reverse (take k shape)) * item → bytes ≤ max_reach
f_bytes-bound shape k bytes item some few small is =
    product-bound (count (take k shape)) bytes item (omega (arith, count-take-le shape k some)) small (is ∙ ap (λ c. c * item) (count-reverse (take k shape)))

pub f_bytes-step : (shape : List ℕ) (k bytes item : ℕ) → k < length shape → bytes ≡ count (reverse (take k shape)) * item → bytes * get_or shape k 0 ≡ count (reverse (take (k + 1) shape)) * item
f_bytes-step shape k bytes item below is =
    let n = get_or shape k 0 in
    let c = count (reverse (take k shape)) in
    let turned : c * item * n ≡ n * c * item = grind arith in
    ap (λ b. b * n) is ∙ turned ∙ ap (λ s. count s * item) (sym (reverse-take_more shape k 0 below))

pub f_steps-more : (item : ℕ) (strides : List ℤ) (shape : List ℕ) (k : ℕ) → length strides ≡ length shape → k < length shape → (2 ≤ get_or shape k 0 → get_or strides k (pos 0) ≡ pos (count (reverse (take k shape)) * item)) → StepsOver item (reverse (take k strides)) (reverse (take k shape)) → StepsOver item (reverse (take (k + 1) strides)) (reverse (take (k + 1) shape))
f_steps-more item strides shape k same below first before =
    rw (reverse-take_more strides k (pos 0) (omega arith), reverse-take_more shape k 0 below) (first, before)

pub is_f-true : (l : Layout) (item k : ℕ) → length l.shape ≤ k → StepsOver item (reverse (take k l.strides)) (reverse (take k l.shape)) → is_f_contiguous item l.shape (offsets l) ≡ true
is_f-true l item k all steps =
    let lengths : take k l.shape ≡ l.shape = take_all k l.shape all in
    let strides : take k l.strides ≡ l.strides = take_all k l.strides (omega (arith, l.one_stride_an_axis)) in
    let whole = rw (lengths, strides) at steps in
    ap (is_c_contiguous item) (fortran_order-offsets l) ∙ is_c-true (reversed l) item whole

-- The axes before axis k come after it in the reversed list.
drop-reverse : {X : Type 0} (xs : List X) (k : ℕ) → k < length xs → drop (length xs - 1 - k + 1) (reverse xs) ≡ reverse (take k xs)
drop-reverse xs k below =
    let parts : xs ≡ take k xs ++ drop k xs = sym (take-append-drop k xs) in
    let front : length (reverse (drop k xs)) ≡ length xs - 1 - k + 1 = omega (arith, length-reverse (drop k xs), length-drop k xs) in
    ap (λ ys. drop (length xs - 1 - k + 1) (reverse ys)) parts ∙ ap (drop (length xs - 1 - k + 1)) (reverse-append (take k xs) (drop k xs)) ∙ ap (λ j. drop j (reverse (drop k xs) ++ reverse (take k xs))) (sym front) ∙ drop-append_seam (reverse (drop k xs)) (reverse (take k xs))

-- The entry at position k is k entries before the last of the reversed list.
get_or-reverse_back : {X : Type 0} (xs : List X) (k : ℕ) (d : X) → k < length xs → get_or (reverse xs) (length xs - 1 - k) d ≡ get_or xs k d
get_or-reverse_back xs k d below =
    let back : length xs - 1 - (length xs - 1 - k) ≡ k = omega arith in
    get_or-reverse xs (length xs - 1 - k) d (omega arith) ∙ ap (λ j. get_or xs j d) back

pub is_f-false : (l : Layout) (item axis bytes : ℕ) → 0 < count l.shape → axis < length l.shape → bytes ≡ count (reverse (take axis l.shape)) * item → get_or l.shape axis 0 ≢ 1 → get_or l.strides axis (pos 0) ≢ pos bytes → is_f_contiguous item l.shape (offsets l) ≡ false
is_f-false l item axis bytes some below is long other =
    let k = length l.shape - 1 - axis in
    let before : bytes ≡ count (drop (k + 1) (reverse l.shape)) * item = is ∙ ap (λ s. count s * item) (sym (drop-reverse l.shape axis below)) in
    let one = l.one_stride_an_axis in
    let back : length l.strides - 1 - axis ≡ k = omega arith in
    let stride : get_or (reverse l.strides) k (pos 0) ≡ get_or l.strides axis (pos 0) = ap (λ j. get_or (reverse l.strides) j (pos 0)) (sym back) ∙ get_or-reverse_back l.strides axis (pos 0) (omega arith) in
    let number : get_or (reverse l.shape) k 0 ≡ get_or l.shape axis 0 = get_or-reverse_back l.shape axis 0 below in
    let some' : 0 < count (reverse l.shape) = omega (arith, count-reverse l.shape) in
    let within : k < length (reverse l.shape) = omega (arith, length-reverse l.shape) in
    ap (is_c_contiguous item) (fortran_order-offsets l) ∙ is_c-false (reversed l) item k bytes some' within before (λ e. long (sym number ∙ e)) (λ e. other (sym stride ∙ e))

-- ---- the strides of Fortran order

c_strides-push : (item : ℕ) (shape : List ℕ) (n : ℕ) → c_strides item (shape ++ n ∷ []) ≡ c_strides (item * n) shape ++ pos item ∷ []
c_strides-push item [] n = let one : 1 * item ≡ item = one-mul item in ap (λ k. pos k ∷ []) one
c_strides-push item (m ∷ shape) n =
    let last : count (n ∷ []) ≡ n = mul-one n in
    let turned : count shape * n * item ≡ count shape * (item * n) = grind arith in
    let total : count (shape ++ n ∷ []) * item ≡ count shape * (item * n) = ap (λ c. c * item) (count-append shape (n ∷ []) ∙ ap (λ c. count shape * c) last) ∙ turned in
    ap (λ k. pos k ∷ c_strides item (shape ++ n ∷ [])) total ∙ ap (λ s. pos (count shape * (item * n)) ∷ s) (c_strides-push item shape n)

-- The strides of Fortran order are those of C order for the reversed axes, reversed.
pub f_strides-reverse : (item : ℕ) (shape : List ℕ) → f_strides item shape ≡ reverse (c_strides item (reverse shape))
f_strides-reverse item [] = refl
f_strides-reverse item (n ∷ shape) =
    ap (λ s. pos item ∷ s) (f_strides-reverse (item * n) shape) ∙ sym (ap (λ s. reverse (c_strides item s)) (reverse-cons n shape) ∙ ap reverse (c_strides-push item (reverse shape) n) ∙ reverse-append (c_strides (item * n) (reverse shape)) (pos item ∷ []))

pub length-f_strides : (item : ℕ) (shape : List ℕ) → length (f_strides item shape) ≡ length shape
length-f_strides item [] = refl
length-f_strides item (n ∷ shape) = ap suc (length-f_strides (item * n) shape)

pub dot-f_strides : (item : ℕ) (shape index : List ℕ) → IsIndex shape index → dot (f_strides item shape) index ≡ pos (item * rank (reverse shape) (reverse index))
dot-f_strides item shape index in' =
    let steps = c_strides item (reverse shape) in
    let size = length-index shape index in' in
    let same : length steps ≡ length (reverse index) = omega (arith, length-c_strides item (reverse shape), length-reverse shape, length-reverse index) in
    ap (λ s. dot s index) (f_strides-reverse item shape) ∙ ap (dot (reverse steps)) (sym (reverse-reverse index)) ∙ dot-reverse steps (reverse index) same ∙ dot-c_strides item (reverse shape) (reverse index) (IsIndex-reverse shape index in')

-- Each address is the size of an item times its rank with the first axis changing fastest.
pub record StandsInFOrder (shape : List ℕ) (strides : List ℤ) (offset item : ℕ) : Type 0 where
  pub addresses : (index : List ℕ) → IsIndex shape index → address_at strides offset index ≡ pos (item * rank (reverse shape) (reverse index))

pub f_order_stands : (made : List ℕ) (strides : List ℤ) (shape : List ℕ) (item : ℕ) → made ≡ shape → (0 < count shape → strides ≡ f_strides item shape) → StandsInFOrder made strides 0 item
f_order_stands made strides shape item same some = record { addresses = λ index in'. address-made made strides shape (f_strides item) same some index in' ∙ dot-f_strides item made index in' }

pub f_order_offsets : (l : Layout) (shape : List ℕ) (item : ℕ) → l.shape ≡ shape → StandsInFOrder l.shape l.strides l.offset item → offsets l ≡ f_multiples item shape
unfolding offsets
f_order_offsets l shape item same stands =
    same_on_indexes l.shape (λ index. natural (address l index)) (λ index. item * rank (reverse l.shape) (reverse index)) (λ index in'. ap natural (stands.addresses index in')) ∙ ap (f_multiples item) same

-- With its axes reversed, the layout is in C order.
reversed_stands : (l : Layout) (item : ℕ) → StandsInFOrder l.shape l.strides l.offset item → StandsInCOrder (reverse l.shape) (reverse l.strides) l.offset item
reversed_stands l item stands = record {
  addresses = λ index in'.
      address-reversed l index in' ∙ stands.addresses (reverse index) (IsIndex-from_reverse l.shape index in') ∙ ap (λ i. pos (item * rank (reverse l.shape) i)) (reverse-reverse index);
}

pub f_order_order : (l : Layout) (shape : List ℕ) (item : ℕ) → l.shape ≡ shape → StandsInFOrder l.shape l.strides l.offset item → fortran_order shape (offsets l) ≡ multiples item (count shape)
f_order_order l shape item same stands =
    ap (λ s. fortran_order s (offsets l)) (sym same) ∙ fortran_order-offsets l ∙ offsets-c_order (reversed l) item (reversed_stands l item stands) ∙ ap (multiples item) (count-reverse l.shape ∙ ap count same)

pub f_order_lies : (made : List ℕ) (strides : List ℤ) (shape : List ℕ) (item : ℕ) → made ≡ shape → StandsInFOrder made strides 0 item → LieWithin made strides 0 (count shape * item) item
f_order_lies made strides shape item same stands = record {
  from_zero = λ index in'.
      let here = stands.addresses index in' in
      omega (arith, ints);
  within = λ index in'.
      let here = stands.addresses index in' in
      let below : rank (reverse made) (reverse index) < count shape = omega (arith, rank-lt (reverse made) (reverse index) (IsIndex-reverse made index in'), count-reverse made, ap count same) in
      let step = mul-step item (rank (reverse made) (reverse index)) (count shape) below in
      let turned : count shape * item ≡ item * count shape = mul_comm (count shape) item in
      omega (arith, ints);
}

-- one more axis
pub f_strides-drop : (step : ℕ) (lengths : List ℕ) (k : ℕ) → k < length lengths → f_strides step (drop k lengths) ≡ pos step ∷ f_strides (step * get_or lengths k 0) (drop (k + 1) lengths)
f_strides-drop step lengths k below = ap (f_strides step) (drop_more lengths k 0 below)

pub step-more : (lengths : List ℕ) (k step : ℕ) → k < length lengths → count (drop (k + 1) lengths) * (step * get_or lengths k 0) ≡ count (drop k lengths) * step
step-more lengths k step below =
    let n = get_or lengths k 0 in
    let c = count (drop (k + 1) lengths) in
    let turned : c * (step * n) ≡ n * c * step = grind arith in
    turned ∙ ap (λ x. x * step) (sym (count-drop lengths k below))

pub count-rest : (lengths : List ℕ) (k : ℕ) → k < length lengths → 0 < count (drop k lengths) → 0 < count (drop (k + 1) lengths)
count-rest lengths k below some = (factors_pos (get_or lengths k 0) (count (drop (k + 1) lengths)) (omega (arith, count-drop lengths k below))).1

-- ---- different items do not overlap

-- Different multiples of a number differ by at least that number.
multiples_apart : (item a b : ℕ) → a ≢ b → item ≤ distance (item * a) (item * b)
multiples_apart item a b other = elim (cases_order a b) [
  | inl same ↦ absurd (other same)
  | inr (inl below) ↦ omega (arith, mul-step item a b below)
  | inr (inr above) ↦ omega (arith, mul-step item b a above)
]

pub f_order_nested : (l : Layout) (item : ℕ) → StandsInFOrder l.shape l.strides l.offset item → IsNested (offsets l) item
f_order_nested l item stands = record {
  apart = λ j k before inside.
      let size = length-offsets l in
      let low = index_at l.shape j (omega arith) in
      let high = index_at l.shape k (omega arith) in
      let turned : List ℕ → ℕ = λ i. rank (reverse l.shape) (reverse i) in
      let first : get_or (offsets l) j 0 ≡ item * turned low.0 = ap (λ r. get_or (offsets l) r 0) (sym low.2) ∙ get_or-offsets l low.0 0 low.1 ∙ ap natural (stands.addresses low.0 low.1) in
      let second : get_or (offsets l) k 0 ≡ item * turned high.0 = ap (λ r. get_or (offsets l) r 0) (sym high.2) ∙ get_or-offsets l high.0 0 high.1 ∙ ap natural (stands.addresses high.0 high.1) in
      let other : turned low.0 ≢ turned high.0 = λ e.
      let back = rank-same (reverse l.shape) (reverse low.0) (reverse high.0) (IsIndex-reverse l.shape low.0 low.1) (IsIndex-reverse l.shape high.0 high.1) e in
      let whole : low.0 ≡ high.0 = sym (reverse-reverse low.0) ∙ ap reverse back ∙ reverse-reverse high.0 in
      omega (arith, ap (rank l.shape) whole, low.2, high.2) in
      rw (first, second) (multiples_apart item (turned low.0) (turned high.0) other);
}

pub length-f_order : (item : ℕ) (shape : List ℕ) (strides : List ℤ) → (0 < count shape → strides ≡ f_strides item shape) → (count shape ≡ 0 → strides ≡ map (λ _. pos 0) shape) → length strides ≡ length shape
length-f_order item shape strides some none = length-ordered shape (f_strides item shape) strides (length-f_strides item shape) some none
