-- The default names of fields are legal.
use Rattle.std.proofs.Common.{◌≡◌, ◌≤◌, ◌<◌, ◌+◌, ◌/◌, ◌%◌, ℕ, ◌++◌, codes, IsTrue, true, arith, ⊎_elim, refl, decimal}
use Rattle.elem_descr.proofs.Words.{decimal_digit, decimal_step, cases_lt, nat_tests, is_legal_name, is_field_name_byte}

digit_is_name_byte : (d : ℕ) → d ≤ 9 → is_field_name_byte (48 + d) ≡ true
digit_is_name_byte d small = grind (arith, nat_tests)

one_digit : (n : ℕ) → n < 10 → is_legal_name (codes "f" ++ decimal n) ≡ true
one_digit n small = let b = digit_is_name_byte n (omega arith) in rw (decimal_digit n small, b) refl

two_digits : (n : ℕ) → 10 ≤ n → n ≤ 64 → is_legal_name (codes "f" ++ decimal n) ≡ true
two_digits n low high =
    let tens = digit_is_name_byte (n / 10) (omega arith) in
    let ones = digit_is_name_byte (n % 10) (omega arith) in
    rw (decimal_step n low (omega arith), decimal_digit (n / 10) (omega arith), tens, ones) refl

pub legal_number : (n : ℕ) → n ≤ 64 → IsTrue (is_legal_name (codes "f" ++ decimal n))
legal_number n small = ⊎_elim (λ l. one_digit n l) (λ l. two_digits n l small) (cases_lt n 10)
