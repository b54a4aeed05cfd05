-- The numbers of a range.
use Rattle.std.proofs.Common.{◌≡◌, ◌≢◌, ◌^◌, Bool, List, [], ◌∷◌, length, map, Result, Ok, Err, ◌↔◌, ℕ, ◌+◌, ◌*◌, ◌%◌, ◌<◌, ◌≤◌, true, false, ℤ, pos, unsigned_abs, ◌+ℤ◌, ◌-ℤ◌, ◌*ℤ◌, ◌≤ℤ◌, inl, inr, lit<, refl, sym, ap, ◌∙◌, arith, FitsSigned, not, nat_le}
use Rattle.literal_items.proofs.Words.{cases_lt, cases_Bool, Decides-int_eq, nat_tests, list_all, Refusal, LiteralOutOfRange, TooLarge, ZeroStep, Scalar, ◌>>=◌, check, is_before, numbers_from, IsGap, LeafValue, number, CountsSteps, steps_end_below, abs_pos, between_back, between_forth, near_before, far_after, counted_within, stepped_first, length-numbers_from, is_value, max_items, int_eq, *ℤ_comm, mod-lt, ints, clamps, by_lt_z, to_z-of_z, wrapping_add_onto, wrapping_mul_onto, int_wrap-add_left, int_wrap_fits, w128, int_wrap, div_ceil, cast_signed, cast_unsigned, range_count, range_numbers, range_length, range_items}
use Rattle.std.proofs.lemmas.Bool.{false_from_ne_true, le-leb, lt-leb}

-- ---- the count is a quotient, rounded up

gap_within : (gap : ℕ) (start stop step : ℤ) → IsGap gap start stop step → gap ≤ unsigned_abs (stop -ℤ start)
gap_within gap start stop step is =
    by_lt_z step (pos 0)
    (λ below. let far = is.back below in omega (arith, ints, clamps))
    (λ above. let far = is.forth above in omega (arith, ints, clamps))

-- how many numbers there are, if the gap to the stop is known
module _ (gap : ℕ) (start stop step : ℤ) (some : step ≢ pos 0) (is : IsGap gap start stop step) where
  counts : CountsSteps (div_ceil gap (unsigned_abs step)) gap step
  counts k = steps_end_below gap (unsigned_abs step) k (abs_pos step some)

  pub numbers-divided : range_numbers start stop step ≡ numbers_from start step (div_ceil gap (unsigned_abs step))
  numbers-divided =
      stepped_first (unsigned_abs (stop -ℤ start)) (div_ceil gap (unsigned_abs step)) gap start stop step is counts
      (omega (arith, counted_within (div_ceil gap (unsigned_abs step)) gap step some counts, gap_within gap start stop step is))

  pub count-divided : range_count start stop step ≡ div_ceil gap (unsigned_abs step)
  count-divided = ap length numbers-divided ∙ length-numbers_from start step (div_ceil gap (unsigned_abs step))

  -- the numbers are the first `range_count` ones from the start on
  pub numbers-counted : range_numbers start stop step ≡ numbers_from start step (range_count start stop step)
  numbers-counted = numbers-divided ∙ ap (numbers_from start step) (sym count-divided)

  -- the first numbers are before the stop, and no other
  pub counted_before : (k : ℕ) → (k < range_count start stop step) ↔ (is_before step stop (start +ℤ step *ℤ pos k) ≡ true)
  counted_before k = (
    λ low. near_before gap start stop step k is ((counts k).0 (omega (arith, count-divided))),
    λ before. elim (cases_lt (k * unsigned_abs step) gap) [
      | inl near ↦ omega (arith, count-divided, (counts k).1 near)
      | inr far ↦ let after = far_after gap start stop step k is far in let no : true ≡ false = sym before ∙ after in absurd cc
    ],
  )

  -- each number of a range fits into 128 bits
  pub counted_fits : FitsSigned w128 start → FitsSigned w128 stop → (k : ℕ) → k < range_count start stop step → FitsSigned w128 (start +ℤ step *ℤ pos k)
  counted_fits low high k counted =
      let near = (counts k).0 (omega (arith, count-divided)) in
      by_lt_z step (pos 0)
      (λ below. let at = between_back gap start stop step k is near below in between_fits stop start (start +ℤ step *ℤ pos k) high low (omega (arith, ints, at.0)) at.1)
      (λ above. let at = between_forth gap start stop step k is near above in between_fits start stop (start +ℤ step *ℤ pos k) low high at.0 (omega (arith, ints, at.1)))
    where
      between_fits : (a b z : ℤ) → FitsSigned w128 a → FitsSigned w128 b → a ≤ℤ z → z ≤ℤ b → FitsSigned w128 z
      between_fits a b z low high above below = omega (arith, ints)

-- ---- the outcome

differs : (step : ℤ) → step ≢ pos 0 → int_eq step (pos 0) ≡ false
differs step some = false_from_ne_true (int_eq step (pos 0)) (λ same. some ((Decides-int_eq step (pos 0)).0 same))

pub range_length-zero : (start stop step : ℤ) → step ≡ pos 0 → range_length start stop step ≡ Err ZeroStep
unfolding range_length
range_length-zero start stop step none = rw ((Decides-int_eq step (pos 0)).1 none) refl

pub range_length-large : (start stop step : ℤ) (n : ℕ) → step ≢ pos 0 → n ≡ range_count start stop step → max_items < n → range_length start stop step ≡ Err TooLarge
unfolding range_length
range_length-large start stop step n some is many = rw (differs step some, ← is, lt-leb n max_items many) refl

pub range_length-ok : (start stop step : ℤ) (n : ℕ) → step ≢ pos 0 → n ≡ range_count start stop step → n ≤ max_items → range_length start stop step ≡ Ok n
unfolding range_length
range_length-ok start stop step n some is few = rw (differs step some, ← is, le-leb n max_items few) refl

pub range_items-refused : (scalar : Scalar) (start stop step : ℤ) (r : Refusal) → range_length start stop step ≡ Err r → range_items scalar start stop step ≡ Err r
unfolding range_items
range_items-refused scalar start stop step r is = rw is refl

pub range_items-beyond : (scalar : Scalar) (start stop step : ℤ) (n : ℕ) → range_length start stop step ≡ Ok n → list_all (is_value scalar) (range_numbers start stop step) ≡ false → range_items scalar start stop step ≡ Err LiteralOutOfRange
unfolding range_items
range_items-beyond scalar start stop step n is fails = rw (is, fails) refl

pub range_items-ok : (scalar : Scalar) (start stop step : ℤ) (n : ℕ) (items : List (List LeafValue)) → range_length start stop step ≡ Ok n → list_all (is_value scalar) (range_numbers start stop step) ≡ true → map (λ value. number value ∷ []) (range_numbers start stop step) ≡ items → range_items scalar start stop step ≡ Ok items
unfolding range_items
range_items-ok scalar start stop step n items is so are = rw (is, so, are) refl

-- ---- the next number

-- the number k steps after the start, as a product and a sum of 128 bits
pub number_far : (start step : ℤ) (k : ℕ) → k < 2 ^ 64 → FitsSigned w128 start → FitsSigned w128 step → FitsSigned w128 (start +ℤ step *ℤ pos k) → cast_signed w128 ((k * cast_unsigned w128 step % 2 ^ 128 + cast_unsigned w128 start) % 2 ^ 128) ≡ start +ℤ step *ℤ pos k
number_far start step k few fits_start fits_step fits =
    let small : FitsSigned w128 (pos k) = omega (arith, ints) in
    let product : cast_signed w128 (k * cast_unsigned w128 step % 2 ^ 128) ≡ int_wrap w128 (pos k *ℤ step) = wrapping_mul_onto w128 k step (omega arith) fits_step ∙ ap (λ z. int_wrap w128 (z *ℤ step)) (to_z-of_z w128 (pos k) small) in
    let turned : pos k *ℤ step +ℤ start ≡ start +ℤ step *ℤ pos k = ap (λ z. z +ℤ start) (*ℤ_comm (pos k) step) ∙ omega (arith, ints) in
    wrapping_add_onto w128 (k * cast_unsigned w128 step % 2 ^ 128) start (mod-lt (k * cast_unsigned w128 step) (lit< tt)) fits_start
    ∙ ap (λ z. int_wrap w128 (z +ℤ start)) product ∙ int_wrap-add_left w128 (pos k *ℤ step) start ∙ ap (int_wrap w128) turned
    ∙ int_wrap_fits w128 (start +ℤ step *ℤ pos k) fits
