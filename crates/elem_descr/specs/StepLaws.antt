-- Laws of numbers in steps.
use Rattle.std.specs.Prelude.{◌≡◌, ◌≢◌, ◌↔◌, ℕ, ◌+◌, ◌*◌, ◌/◌, ◌%◌, ◌<◌, ◌≤◌, Bool, ℤ, pos, negsuc, neg_ℤ, unsigned_abs, ◌+ℤ◌, ◌*ℤ◌, ◌<ℤ◌, ◌≤ℤ◌, ◌∷◌, ◌++◌, map, length}
use Rattle.std.proofs.Common.{zero, suc, min, true, false, int_lt, add-one, filter, get_or, inl, inr, refl, sym, ap, ◌∙◌, arith, add-mul, mul_comm, mul-le-mul_left}
use Rattle.elem_descr.specs.Words.{div_ceil, range_with_len, mul-le-mul_right, cases_lt, true_from_ne_false, false_from_ne_true, div_ceil_times, ints, clamps, by_lt_z, length-map, length-range_with_len, get_or-map-range_with_len, *ℤ-zero, +ℤ_idr, negsuc-*ℤ-pos}
use Rattle.elem_descr.specs.Steps.{is_before, numbers_from, stepped, IsGap}
use Rattle.elem_descr.specs.StepCounts.{CountsSteps}

-- `k` steps are together shorter than a gap if and only if `k` is below the number of steps
pub steps_end_below : (gap s k : ℕ) → 0 < s → (k < div_ceil gap s) ↔ (k * s < gap)
steps_end_below gap s k some =
    let q = gap / s + min 1 (gap % s) in
    let bounds = div_ceil_times gap s some in (
      λ low. let more : (k + 1) * s ≤ q * s = mul-le-mul_right s (omega arith) in omega (arith, add-mul k 1 s, bounds.0, bounds.1),
      λ low. elim (cases_lt k q) [
        | inl below ↦ below
        | inr above ↦ let more : q * s ≤ k * s = mul-le-mul_right s above in absurd (omega (arith, bounds.0, bounds.1))
      ],
    )

pub abs_pos : (step : ℤ) → step ≢ pos 0 → 0 < unsigned_abs step
abs_pos (pos zero) other = absurd (other refl)
abs_pos (pos (suc n)) other = omega arith
abs_pos (negsuc n) other = omega arith

-- ---- a product with the step's sign

pub product_back : (step : ℤ) (k : ℕ) → step <ℤ pos 0 → step *ℤ pos k ≡ neg_ℤ (pos (k * unsigned_abs step))
product_back (pos n) k below = absurd (omega (arith, ints))
product_back (negsuc n) k below = let e = negsuc-*ℤ-pos n k in omega (arith, ints, mul_comm k (suc n))

pub product_forth : (step : ℤ) (k : ℕ) → pos 0 ≤ℤ step → step *ℤ pos k ≡ pos (k * unsigned_abs step)
product_forth (pos n) k above = ap pos (mul_comm n k)
product_forth (negsuc n) k above = absurd (omega (arith, ints))

pub product_more : (step : ℤ) (k : ℕ) → step *ℤ pos (k + 1) ≡ step *ℤ pos k +ℤ step
product_more step k =
    let grown : (k + 1) * unsigned_abs step ≡ k * unsigned_abs step + unsigned_abs step = omega (arith, add-mul k 1 (unsigned_abs step)) in
    by_lt_z step (pos 0)
    (λ below. let one = product_back step (k + 1) below in let so_far = product_back step k below in let size : step ≡ neg_ℤ (pos (unsigned_abs step)) = size_back step below in omega (arith, ints, one, so_far, size))
    (λ above. let one = product_forth step (k + 1) above in let so_far = product_forth step k above in let size : step ≡ pos (unsigned_abs step) = size_forth step above in omega (arith, ints, one, so_far, size))
  where
    size_back : (z : ℤ) → z <ℤ pos 0 → z ≡ neg_ℤ (pos (unsigned_abs z))
    size_back (pos n) below = absurd (omega (arith, ints))
    size_back (negsuc n) below = refl

    size_forth : (z : ℤ) → pos 0 ≤ℤ z → z ≡ pos (unsigned_abs z)
    size_forth (pos n) above = refl
    size_forth (negsuc n) above = absurd (omega (arith, ints))

-- one more step
pub next_number : (start step at : ℤ) (k : ℕ) → at ≡ start +ℤ step *ℤ pos k → at +ℤ step ≡ start +ℤ step *ℤ pos (k + 1)
next_number start step at k is = let more : step *ℤ pos (k + 1) ≡ step *ℤ pos k +ℤ step = product_more step k in omega (arith, ints, is, more)

-- ---- the number after k steps from the start

lt_true : (a b : ℤ) → a <ℤ b → int_lt a b ≡ true
lt_true a b below = true_from_ne_false (int_lt a b) (λ above. omega (arith, ints))

lt_false : (a b : ℤ) → b ≤ℤ a → int_lt a b ≡ false
lt_false a b above = false_from_ne_true (int_lt a b) (λ below. omega (arith, ints))

before_back : (step stop number : ℤ) → step <ℤ pos 0 → is_before step stop number ≡ int_lt stop number
before_back step stop number below = rw (lt_true step (pos 0) below) refl

before_forth : (step stop number : ℤ) → pos 0 ≤ℤ step → is_before step stop number ≡ int_lt number stop
before_forth step stop number above = rw (lt_false step (pos 0) above) refl

-- If the step is negative, a number within the gap is above the stop and at most the start.
pub between_back : (gap : ℕ) (start stop step : ℤ) (k : ℕ) → IsGap gap start stop step → k * unsigned_abs step < gap → step <ℤ pos 0 → (stop <ℤ (start +ℤ step *ℤ pos k)) × ((start +ℤ step *ℤ pos k) ≤ℤ start)
between_back gap start stop step k is near below =
    let product = product_back step k below in
    let far = is.back below in
    (omega (arith, ints, clamps), omega (arith, ints, clamps))

-- If the step is not negative, a number within the gap is at least the start and below the stop.
pub between_forth : (gap : ℕ) (start stop step : ℤ) (k : ℕ) → IsGap gap start stop step → k * unsigned_abs step < gap → pos 0 ≤ℤ step → (start ≤ℤ (start +ℤ step *ℤ pos k)) × ((start +ℤ step *ℤ pos k) <ℤ stop)
between_forth gap start stop step k is near above =
    let product = product_forth step k above in
    let far = is.forth above in
    (omega (arith, ints, clamps), omega (arith, ints, clamps))

pub near_before : (gap : ℕ) (start stop step : ℤ) (k : ℕ) → IsGap gap start stop step → k * unsigned_abs step < gap → is_before step stop (start +ℤ step *ℤ pos k) ≡ true
near_before gap start stop step k is near =
    by_lt_z step (pos 0)
    (λ below. before_back step stop (start +ℤ step *ℤ pos k) below ∙ lt_true stop (start +ℤ step *ℤ pos k) (between_back gap start stop step k is near below).0)
    (λ above. before_forth step stop (start +ℤ step *ℤ pos k) above ∙ lt_true (start +ℤ step *ℤ pos k) stop (between_forth gap start stop step k is near above).1)

pub far_after : (gap : ℕ) (start stop step : ℤ) (k : ℕ) → IsGap gap start stop step → gap ≤ k * unsigned_abs step → is_before step stop (start +ℤ step *ℤ pos k) ≡ false
far_after gap start stop step k is far =
    by_lt_z step (pos 0)
    (λ below. before_back step stop (start +ℤ step *ℤ pos k) below ∙ lt_false stop (start +ℤ step *ℤ pos k) (omega (arith, ints, clamps, product_back step k below, is.back below)))
    (λ above. before_forth step stop (start +ℤ step *ℤ pos k) above ∙ lt_false (start +ℤ step *ℤ pos k) stop (omega (arith, ints, clamps, product_forth step k above, is.forth above)))

-- ---- how many numbers are before the stop

pub counted_within : (count gap : ℕ) (step : ℤ) → step ≢ pos 0 → CountsSteps count gap step → count ≤ gap
counted_within zero gap step some counts = omega arith
counted_within (suc c) gap step some counts =
    let near = (counts c).0 (omega arith) in
    let grown : c * 1 ≤ c * unsigned_abs step = mul-le-mul_left c (abs_pos step some) in
    omega arith

-- Filtering by a test that holds only for the first numbers keeps these numbers.
filter-front : {X : Type 0} (p : X → Bool) (f : ℕ → X) (a n c : ℕ) → c ≤ n → ((k : ℕ) → a ≤ k → k < a + c → p (f k) ≡ true) → ((k : ℕ) → a + c ≤ k → p (f k) ≡ false) → filter p (map f (range_with_len a n)) ≡ map f (range_with_len a c)
filter-front p f a zero zero few front back = refl
filter-front p f a zero (suc c) few front back = absurd (omega arith)
filter-front p f a (suc n) zero few front back =
    rw (back a (omega arith)) (filter-front p f (a + 1) n zero (omega arith) (λ k low high. absurd (omega arith)) (λ k low. back k (omega arith)))
filter-front p f a (suc n) (suc c) few front back =
    let rest = filter-front p f (a + 1) n c (omega arith) (λ k low high. front k (omega arith) (omega arith)) (λ k low. back k (omega arith)) in
    rw (front a (omega arith) (omega arith)) (ap (λ xs. f a ∷ xs) rest)

-- the numbers before the stop are the first `count` numbers
pub stepped_first : (n count gap : ℕ) (start stop step : ℤ) → IsGap gap start stop step → CountsSteps count gap step → count ≤ n → stepped n start stop step ≡ numbers_from start step count
unfolding stepped
stepped_first n count gap start stop step is counts few =
    filter-front (is_before step stop) (λ k. start +ℤ step *ℤ pos k) 0 n count few
    (λ k low high. near_before gap start stop step k is ((counts k).0 (omega arith)))
    (λ k low. far_after gap start stop step k is (elim (cases_lt (k * unsigned_abs step) gap) [ inl near ↦ absurd (omega (arith, (counts k).1 near)) | inr far ↦ far ]))

-- ---- the numbers by position

pub length-numbers_from : (start step : ℤ) (n : ℕ) → length (numbers_from start step n) ≡ n
length-numbers_from start step n = length-map (range_with_len 0 n) (λ k. start +ℤ step *ℤ pos k) ∙ length-range_with_len 0 n

pub number_at : (start step z : ℤ) (n k : ℕ) → k < n → z ≡ start +ℤ step *ℤ pos k → get_or (numbers_from start step n) k z ≡ z
number_at start step z n k low is = get_or-map-range_with_len (λ k. start +ℤ step *ℤ pos k) 0 n k k z low (omega arith) ∙ sym is

-- ---- the first numbers, and those after them

moved : (at s p q : ℤ) → q ≡ p +ℤ s → at +ℤ q ≡ (at +ℤ s) +ℤ p
moved at s p q is = omega (arith, ints)

-- `k + 1` steps are one step, and then `k` steps
pub steps_later : (at s : ℤ) (k : ℕ) → at +ℤ s *ℤ pos (suc k) ≡ (at +ℤ s) +ℤ s *ℤ pos k
steps_later at s k = moved at s (s *ℤ pos k) (s *ℤ pos (suc k)) (ap (λ n. s *ℤ pos n) (sym (add-one k)) ∙ product_more s k)

numbers-later : (at s : ℤ) (a n : ℕ) → map (λ k. at +ℤ s *ℤ pos k) (range_with_len (a + 1) n) ≡ map (λ k. (at +ℤ s) +ℤ s *ℤ pos k) (range_with_len a n)
numbers-later at s a zero = refl
numbers-later at s a (suc n) =
    ap (λ z. z ∷ map (λ k. at +ℤ s *ℤ pos k) (range_with_len (a + 1 + 1) n)) (moved at s (s *ℤ pos a) (s *ℤ pos (a + 1)) (product_more s a)) ∙ ap (λ zs. ((at +ℤ s) +ℤ s *ℤ pos a) ∷ zs) (numbers-later at s (a + 1) n)

pub none_more : (at s : ℤ) → at +ℤ s *ℤ pos 0 ≡ at
none_more at s = ap (λ z. at +ℤ z) (*ℤ-zero s) ∙ +ℤ_idr at

pub numbers-suc : (at s : ℤ) (n : ℕ) → numbers_from at s (suc n) ≡ at ∷ numbers_from (at +ℤ s) s n
numbers-suc at s n = ap (λ z. z ∷ map (λ k. at +ℤ s *ℤ pos k) (range_with_len (0 + 1) n)) (none_more at s) ∙ ap (λ zs. at ∷ zs) (numbers-later at s 0 n)

-- the first m numbers, and then those after them
pub numbers-split : (at s : ℤ) (m n : ℕ) → numbers_from at s (m + n) ≡ numbers_from at s m ++ numbers_from (at +ℤ s *ℤ pos m) s n
numbers-split at s zero n =
    let none : zero + n ≡ n = omega arith in
    ap (numbers_from at s) none ∙ ap (λ z. numbers_from z s n) (sym (none_more at s))
numbers-split at s (suc m) n =
    let head : suc m + n ≡ suc (m + n) = omega arith in
    ap (numbers_from at s) head ∙ numbers-suc at s (m + n) ∙ ap (λ zs. at ∷ zs) (numbers-split (at +ℤ s) s m n) ∙ ap (λ z. at ∷ numbers_from (at +ℤ s) s m ++ numbers_from z s n) (sym (steps_later at s m)) ∙ ap (λ zs. zs ++ numbers_from (at +ℤ s *ℤ pos (suc m)) s n) (sym (numbers-suc at s m))
