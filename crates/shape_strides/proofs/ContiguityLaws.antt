-- Laws of adjacent items, and of strides that make items adjacent.
use Rattle.std.proofs.Common.{◌≡◌, ℕ, zero, suc, ◌+◌, ◌*◌, ◌^◌, ◌<◌, ◌≤◌, ◌≢◌, true, false, ◌==◌, ℤ, pos, ◌+ℤ◌, ◌*ℤ◌, List, [], ◌∷◌, length, get_or, drop, mul-le-mul, mul-le-mul_right, add-one, inl, inr, refl, sym, ◌∙◌, ap, arith, map, nat_le, mul-zero, one-mul, mul-suc, zero-mul, mul_comm}
use Rattle.shape_strides.proofs.Words.{cases_lt, cases_Bool, cond-true, cond-false, eqb-true, eq-eqb, and_parts, and_from, false_from_ne_true, nat_tests, ints, drop_more, get_or-map, *ℤ-zero, +ℤ_idl, Layout, count, rank, IsIndex, max_items, dot, natural, offsets, first_address, printed_strides, is_c_contiguous, unit, IsIndex-unit, rank-unit, dot-unit, entry-first, length-offsets, get_or-offsets, pos-offset, offsets-none, first_address-entry, printed-at, rank-lt, index_at, max_reach, factors_pos, count-drop, factor-pos}

-- ---- addresses that grow by the size of an item

-- Each address is `item` bytes after the previous one.
pub record GoesUp (item : ℕ) (addresses : List ℕ) : Type 0 where
  pub next : (k : ℕ) → suc k < length addresses → get_or addresses (suc k) 0 ≡ get_or addresses k 0 + item

next_from_test : (item : ℕ) (addresses : List ℕ) (k : ℕ) → is_c_contiguous item addresses ≡ true → suc k < length addresses → get_or addresses (suc k) 0 ≡ get_or addresses k 0 + item
next_from_test item (a ∷ b ∷ addresses) zero test below = eqb-true b (a + item) (and_parts (b == a + item) (is_c_contiguous item (b ∷ addresses)) test).0
next_from_test item (a ∷ b ∷ addresses) (suc k) test below =
    next_from_test item (b ∷ addresses) k (and_parts (b == a + item) (is_c_contiguous item (b ∷ addresses)) test).1 (omega arith)
next_from_test item _ k test below = absurd (omega arith)

pub GoesUp-from_test : (item : ℕ) (addresses : List ℕ) → is_c_contiguous item addresses ≡ true → GoesUp item addresses
GoesUp-from_test item addresses test = record { next = λ k below. next_from_test item addresses k test below }

pub test_from_GoesUp : (item : ℕ) (addresses : List ℕ) → GoesUp item addresses → is_c_contiguous item addresses ≡ true
test_from_GoesUp item (a ∷ b ∷ addresses) up =
    and_from (b == a + item) (is_c_contiguous item (b ∷ addresses)) (eq-eqb b (a + item) (up.next 0 (omega arith))) (test_from_GoesUp item (b ∷ addresses) (record { next = λ k below. up.next (suc k) (omega arith) }))
test_from_GoesUp item _ up = refl

-- the address of the k-th item
pub address_of_place : (item : ℕ) (addresses : List ℕ) (k : ℕ) → GoesUp item addresses → k < length addresses → get_or addresses k 0 ≡ get_or addresses 0 0 + item * k
address_of_place item addresses zero up below = omega (arith, mul-zero item)
address_of_place item addresses (suc k) up below =
    let before = address_of_place item addresses k up (omega arith) in
    let step = up.next k below in
    omega (arith, mul-suc item k)

-- ---- strides that step over all items of the axes after them

-- Each axis of 2 items or more steps over all items of the axes after it.
abbrev pub StepsOver : ℕ → List ℤ → List ℕ → Type 0
StepsOver item (stride ∷ strides) (n ∷ shape) = (2 ≤ n → stride ≡ pos (count shape * item)) × StepsOver item strides shape
StepsOver item _ _ = Unit {0}

-- An axis of length 1 adds nothing.
axis_part : (item c k n r : ℕ) (stride : ℤ) → k < n → (2 ≤ n → stride ≡ pos (c * item)) → stride *ℤ pos k +ℤ pos (item * r) ≡ pos (item * (k * c + r))
axis_part item c zero n r stride below steps =
    let none : r ≡ zero * c + r = omega (arith, zero-mul c) in
    ap (λ z. z +ℤ pos (item * r)) (*ℤ-zero stride) ∙ +ℤ_idl (pos (item * r)) ∙ ap (λ x. pos (item * x)) none
axis_part item c (suc k) n r stride below steps =
    let total : c * item * suc k + item * r ≡ item * (suc k * c + r) = grind arith in
    ap (λ s. s *ℤ pos (suc k) +ℤ pos (item * r)) (steps (omega arith)) ∙ ap pos total

pub dot-steps : (item : ℕ) (strides : List ℤ) (shape index : List ℕ) → length strides ≡ length shape → StepsOver item strides shape → IsIndex shape index → dot strides index ≡ pos (item * rank shape index)
dot-steps item [] [] [] same steps in' = ap pos (sym (mul-zero item))
dot-steps item (s ∷ strides) (n ∷ shape) (k ∷ index) same steps in' =
    ap (λ z. s *ℤ pos k +ℤ z) (dot-steps item strides shape index (omega arith) steps.1 in'.1) ∙ axis_part item (count shape) k n (rank shape index) s in'.0 steps.0
dot-steps item _ _ _ same steps in' = absurd (omega arith)

-- If the axes after axis k have such strides and axis k does too, so do the axes from k on.
pub StepsOver-more : (item : ℕ) (strides : List ℤ) (shape : List ℕ) (k : ℕ) → length strides ≡ length shape → k < length shape → (2 ≤ get_or shape k 0 → get_or strides k (pos 0) ≡ pos (count (drop (k + 1) shape) * item)) → StepsOver item (drop (k + 1) strides) (drop (k + 1) shape) → StepsOver item (drop k strides) (drop k shape)
StepsOver-more item strides shape k same below first later =
    rw (drop_more strides k (pos 0) (omega arith), drop_more shape k 0 below) (first, later)

-- ---- the addresses of a layout with such strides

pub entry-steps : (l : Layout) (item k : ℕ) → StepsOver item l.strides l.shape → k < count l.shape → get_or (offsets l) k 0 ≡ l.offset + item * k
entry-steps l item k steps below =
    let found = index_at l.shape k below in
    ap (λ r. get_or (offsets l) r 0) (sym found.2) ∙ get_or-offsets l found.0 0 found.1 ∙ ap (λ z. natural (pos l.offset +ℤ z)) (dot-steps item l.strides l.shape found.0 l.one_stride_an_axis steps found.1) ∙ ap (λ r. l.offset + item * r) found.2

pub GoesUp-steps : (l : Layout) (item : ℕ) → StepsOver item l.strides l.shape → GoesUp item (offsets l)
GoesUp-steps l item steps = record {
  next = λ k below.
      let size = length-offsets l in
      omega (arith, entry-steps l item k steps (omega arith), entry-steps l item (suc k) steps (omega arith), mul-suc item k);
}

-- ---- the index that is 1 along an axis and 0 along the others

-- The address at this index is one stride after the first.
pub entry-unit : (l : Layout) (axis : ℕ) → 0 < count l.shape → axis < length l.shape → 2 ≤ get_or l.shape axis 0 → pos (get_or (offsets l) (count (drop (suc axis) l.shape)) 0) ≡ pos l.offset +ℤ get_or l.strides axis (pos 0)
entry-unit l axis some below long =
    ap (λ r. pos (get_or (offsets l) r 0)) (sym (rank-unit l.shape axis below)) ∙ pos-offset l (unit l.shape axis) 0 (IsIndex-unit l.shape axis some below long) ∙ ap (λ z. pos l.offset +ℤ z) (dot-unit l.strides l.shape axis l.one_stride_an_axis below)

unit-lt : (l : Layout) (axis : ℕ) → 0 < count l.shape → axis < length l.shape → 2 ≤ get_or l.shape axis 0 → count (drop (suc axis) l.shape) < length (offsets l)
unit-lt l axis some below long =
    omega (arith, length-offsets l, rank-unit l.shape axis below, rank-lt l.shape (unit l.shape axis) (IsIndex-unit l.shape axis some below long))

-- If the addresses grow by the size of an item, the strides step over all items of the axes after them.
pub steps_from_GoesUp : (l : Layout) (item axis : ℕ) → 0 < count l.shape → axis < length l.shape → 2 ≤ get_or l.shape axis 0 → GoesUp item (offsets l) → get_or l.strides axis (pos 0) ≡ pos (count (drop (suc axis) l.shape) * item)
steps_from_GoesUp l item axis some below long up =
    let c = count (drop (suc axis) l.shape) in
    let there = entry-unit l axis some below long in
    let place = address_of_place item (offsets l) c up (unit-lt l axis some below long) in
    let first = entry-first l some in
    let turned : item * c ≡ c * item = mul_comm item c in
    omega (arith, ints)

-- ---- the test for a layout

pub is_c-empty : (l : Layout) (item : ℕ) → count l.shape ≡ 0 → is_c_contiguous item (offsets l) ≡ true
is_c-empty l item none =
    test_from_GoesUp item (offsets l) (record { next = λ k below. absurd (omega (arith, length-offsets l)) })

pub is_c-true : (l : Layout) (item : ℕ) → StepsOver item l.strides l.shape → is_c_contiguous item (offsets l) ≡ true
is_c-true l item steps = test_from_GoesUp item (offsets l) (GoesUp-steps l item steps)

-- If an axis steps over another number of bytes, the layout is not C contiguous.
pub is_c-false : (l : Layout) (item axis bytes : ℕ) → 0 < count l.shape → axis < length l.shape → bytes ≡ count (drop (axis + 1) l.shape) * item → get_or l.shape axis 0 ≢ 1 → get_or l.strides axis (pos 0) ≢ pos bytes → is_c_contiguous item (offsets l) ≡ false
is_c-false l item axis bytes some below is long other =
    let some_there = factor-pos l.shape axis some below in
    false_from_ne_true (is_c_contiguous item (offsets l)) (λ test.
    other (steps_from_GoesUp l item axis some below (omega (arith, long)) (GoesUp-from_test item (offsets l) test) ∙ ap pos (sym (is ∙ ap (λ k. count (drop k l.shape) * item) (add-one axis)))))

-- ---- the bytes of the axes from k on

count-drop-le : (shape : List ℕ) (k : ℕ) → 0 < count shape → count (drop k shape) ≤ count shape
count-drop-le (n ∷ shape) (suc k) some =
    let both = factors_pos n (count shape) some in
    let grown : 1 * count shape ≤ n * count shape = mul-le-mul_right (count shape) both.0 in
    omega (arith, count-drop-le shape k both.1, one-mul (count shape))
count-drop-le [] zero some = omega arith
count-drop-le _ _ some = omega arith

-- The bytes of at most max_items items are within the largest reach of an axis.
pub product-bound : (items bytes item : ℕ) → items ≤ max_items → item < 2 ^ 64 → bytes ≡ items * item → bytes ≤ max_reach
product-bound items bytes item few small is =
    let most : item ≤ 2 ^ 64 = omega arith in
    omega (arith, mul-le-mul few most)

pub bytes-bound : (shape : List ℕ) (k bytes item : ℕ) → 0 < count shape → count shape ≤ max_items → item < 2 ^ 64 → bytes ≡ count (drop k shape) * item → bytes ≤ max_reach
bytes-bound shape k bytes item some few small is = product-bound (count (drop k shape)) bytes item (omega (arith, count-drop-le shape k some)) small is

pub bytes-step : (shape : List ℕ) (k bytes item : ℕ) → k < length shape → bytes ≡ count (drop (k + 1) shape) * item → bytes * get_or shape k 0 ≡ count (drop k shape) * item
bytes-step shape k bytes item below is =
    let n = get_or shape k 0 in
    let c = count (drop (k + 1) shape) in
    let turned : c * item * n ≡ n * c * item = grind arith in
    ap (λ b. b * n) is ∙ turned ∙ ap (λ x. x * item) (sym (count-drop shape k below))

-- ---- printed strides

pub printed-short : (shape addresses : List ℕ) (axis : ℕ) → axis < length shape → get_or shape axis 0 < 2 → get_or (printed_strides shape addresses) axis (pos 0) ≡ pos 0
printed-short shape addresses axis below short =
    let test : nat_le 2 (get_or shape axis 0) ≡ false = grind (arith, nat_tests) in
    printed-at shape addresses axis below ∙ cond-false (nat_le 2 (get_or shape axis 0)) _ _ test

pub printed-long : (l : Layout) (axis : ℕ) → 0 < count l.shape → axis < length l.shape → 2 ≤ get_or l.shape axis 0 → get_or (printed_strides l.shape (offsets l)) axis (pos 0) ≡ get_or l.strides axis (pos 0)
printed-long l axis some below long =
    let test : nat_le 2 (get_or l.shape axis 0) ≡ true = grind (arith, nat_tests) in
    let there = entry-unit l axis some below long in
    let first = entry-first l some in
    printed-at l.shape (offsets l) axis below ∙ cond-true (nat_le 2 (get_or l.shape axis 0)) _ _ test ∙ omega (arith, ints)

-- Without items, each printed stride is 0.
pub printed-empty : (shape : List ℕ) → printed_strides shape [] ≡ map (λ _. pos 0) shape
printed-empty [] = refl
printed-empty (n ∷ shape) = elim (cases_Bool (nat_le 2 n)) [
  | inl long ↦ ap (λ z. z ∷ printed_strides shape []) (cond-true (nat_le 2 n) _ _ long) ∙ ap (λ s. pos 0 ∷ s) (printed-empty shape)
  | inr short ↦ ap (λ z. z ∷ printed_strides shape []) (cond-false (nat_le 2 n) _ _ short) ∙ ap (λ s. pos 0 ∷ s) (printed-empty shape)
]

stride-none : (l : Layout) (axis : ℕ) → count l.shape ≡ 0 → axis < length l.shape → get_or l.strides axis (pos 0) ≡ pos 0
stride-none l axis none below = ap (λ s. get_or s axis (pos 0)) (l.zero_if_empty none).1 ∙ get_or-map (λ _. pos 0) l.shape axis 0 (pos 0) below

printed-none : (l : Layout) (axis : ℕ) → count l.shape ≡ 0 → axis < length l.shape → get_or (printed_strides l.shape (offsets l)) axis (pos 0) ≡ pos 0
printed-none l axis none below =
    ap (λ a. get_or (printed_strides l.shape a) axis (pos 0)) (offsets-none l none) ∙ ap (λ s. get_or s axis (pos 0)) (printed-empty l.shape) ∙ get_or-map (λ _. pos 0) l.shape axis 0 (pos 0) below

pub printed-entry : (l : Layout) (axis : ℕ) (stride : ℤ) → axis < length l.shape → (get_or l.shape axis 0 < 2 → stride ≡ pos 0) → (2 ≤ get_or l.shape axis 0 → stride ≡ get_or l.strides axis (pos 0)) → stride ≡ get_or (printed_strides l.shape (offsets l)) axis (pos 0)
printed-entry l axis stride below short long = elim (cases_lt (get_or l.shape axis 0) 2) [
  | inl is ↦ short is ∙ sym (printed-short l.shape (offsets l) axis below is)
  | inr is ↦ elim (cases_lt 0 (count l.shape)) [
    | inl some ↦ long is ∙ sym (printed-long l axis some below is)
    | inr none ↦ long is ∙ stride-none l axis (omega arith) below ∙ sym (printed-none l axis (omega arith) below)
  ]
]

pub first_address-is : (l : Layout) → l.offset ≡ first_address (offsets l)
first_address-is l = elim (cases_lt 0 (count l.shape)) [
  | inl some ↦ sym (first_address-entry (offsets l) ∙ entry-first l some)
  | inr none ↦ (l.zero_if_empty (omega arith)).0 ∙ sym (ap first_address (offsets-none l (omega arith)))
]
