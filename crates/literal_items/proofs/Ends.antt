-- The first and the last number of a range decide whether all are values of a scalar.
use Rattle.std.proofs.Common.{◌≡◌, ◌-◌, suc, Bool, get_or, ℕ, ◌*◌, ◌<◌, ◌≤◌, ◌⊎◌, true, false, ℤ, pos, negsuc, unsigned_abs, ◌+ℤ◌, ◌*ℤ◌, ◌≤ℤ◌, inl, inr, sym, ap, ◌∙◌, subst, arith, FitsSigned}
use Rattle.literal_items.proofs.Words.{*ℤ-zero, mul-le-mul_left, cases_lt, cases_Bool, ints, get_or-map-range_with_len, list_all-from_AllPass, list_all, list_all_at, w128, Scalar, Byte, IsNumber, IsValueOf, FitsBytes, is_value, width_size, numbers_from, value_decides, length-numbers_from, number_at, BoolScalar, IntScalar, BytesScalar}

bytes_between : (signed : Bool) (n : ℕ) (a z b : ℤ) → a ≤ℤ z → z ≤ℤ b → FitsBytes signed n a → FitsBytes signed n b → FitsBytes signed n z
bytes_between false n a z b low high there here = (omega (arith, ints, there.0), omega (arith, ints, here.1))
bytes_between true n a z b low high there here = (omega (arith, ints, there.0), omega (arith, ints, here.1))

-- a number between two values is a value
value_between : (scalar : Scalar) (a z b : ℤ) → a ≤ℤ z → z ≤ℤ b → IsValueOf scalar a → IsValueOf scalar b → IsValueOf scalar z
value_between BoolScalar a z b low high (inl none) (inl neither) = inl (omega (arith, ints))
value_between BoolScalar a z b low high (inl none) (inr one) = elim (cases_lt (unsigned_abs z) 1) [ inl below ↦ inl (omega (arith, ints)) | inr above ↦ inr (omega (arith, ints)) ]
value_between BoolScalar a z b low high (inr one) (inl none) = absurd (omega (arith, ints))
value_between BoolScalar a z b low high (inr one) (inr more) = inr (omega (arith, ints))
value_between (Byte signed) a z b low high there here = bytes_between signed 1 a z b low high there here
value_between (IntScalar signed width order) a z b low high there here = bytes_between signed (width_size width) a z b low high there here
value_between (BytesScalar n) a z b low high there here = absurd there

-- each number of a range lies between the first and the last
between_ends : (start step : ℤ) (k last : ℕ) → k ≤ last → ((start ≤ℤ (start +ℤ step *ℤ pos k)) × ((start +ℤ step *ℤ pos k) ≤ℤ (start +ℤ step *ℤ pos last))) ⊎ (((start +ℤ step *ℤ pos last) ≤ℤ (start +ℤ step *ℤ pos k)) × ((start +ℤ step *ℤ pos k) ≤ℤ start))
between_ends start (pos s) k last le = let most : s * k ≤ s * last = mul-le-mul_left s le in inl (omega (arith, ints), omega (arith, ints))
between_ends start (negsuc s) k last le = let most : suc s * k ≤ suc s * last = mul-le-mul_left (suc s) le in inr (omega (arith, ints), omega (arith, ints))

-- if these two are values, all numbers are
ends_are_values : (scalar : Scalar) (start step : ℤ) (count : ℕ) → IsNumber scalar → 0 < count → is_value scalar start ≡ true → is_value scalar (start +ℤ step *ℤ pos (count - 1)) ≡ true → list_all (is_value scalar) (numbers_from start step count) ≡ true
ends_are_values scalar start step count kind some first last =
    list_all-from_AllPass (is_value scalar) (numbers_from start step count) (λ k d low.
    let z = start +ℤ step *ℤ pos k in let near : k < count = omega (arith, low, length-numbers_from start step count) in
    let is : get_or (numbers_from start step count) k d ≡ z = get_or-map-range_with_len (λ j. start +ℤ step *ℤ pos j) 0 count k k d near (omega arith) in
    let one = (value_decides scalar start kind).0 first in let other = (value_decides scalar (start +ℤ step *ℤ pos (count - 1)) kind).0 last in
    ap (is_value scalar) is ∙ (value_decides scalar z kind).1 (elim (between_ends start step k (count - 1) (omega arith)) [
      | inl up ↦ value_between scalar start z (start +ℤ step *ℤ pos (count - 1)) up.0 up.1 one other
      | inr down ↦ value_between scalar (start +ℤ step *ℤ pos (count - 1)) z start down.0 down.1 other one
    ]))

-- if the first is a value, the last decides
pub last_decides : (scalar : Scalar) (start step last : ℤ) (count : ℕ) (b : Bool) → IsNumber scalar → 0 < count → is_value scalar start ≡ true → last ≡ start +ℤ step *ℤ pos (count - 1) → b ≡ is_value scalar last → b ≡ list_all (is_value scalar) (numbers_from start step count)
last_decides scalar start step last count b kind some first is held =
    let long = length-numbers_from start step count in
    elim (cases_Bool b) [
      | inl passes ↦ passes ∙ sym (ends_are_values scalar start step count kind some first (ap (is_value scalar) (sym is) ∙ sym held ∙ passes))
      | inr fails ↦ fails ∙ sym (list_all_at (is_value scalar) (numbers_from start step count) (count - 1) last (omega arith) (ap (is_value scalar) (number_at start step last count (count - 1) (omega arith) is) ∙ sym held ∙ fails))
    ]

pub first_fails : (scalar : Scalar) (start step : ℤ) (count : ℕ) → 0 < count → is_value scalar start ≡ false → list_all (is_value scalar) (numbers_from start step count) ≡ false
first_fails scalar start step count some fails =
    let long = length-numbers_from start step count in let none : step *ℤ pos 0 ≡ pos 0 = *ℤ-zero step in
    list_all_at (is_value scalar) (numbers_from start step count) 0 start (omega arith) (ap (is_value scalar) (number_at start step start count 0 some (omega (arith, ints, none))) ∙ fails)

-- the first is the start
pub first_fits : (start step : ℤ) → FitsSigned w128 (start +ℤ step *ℤ pos 0) → FitsSigned w128 start
first_fits start step fits =
    let none : step *ℤ pos 0 ≡ pos 0 = *ℤ-zero step in
    let same : start +ℤ step *ℤ pos 0 ≡ start = omega (arith, ints, none) in
    subst (FitsSigned w128) same fits
