-- A number written in decimal consists of digits, and these digits have its value.
use Rattle.std.specs.Prelude.{◌≡◌, ◌<◌, ◌-◌, ◌+◌, ◌*◌, ◌^◌, ◌&&◌, ℕ, List, [], ◌∷◌, decimal}
use Rattle.std.proofs.Common.{true, fold, refl, sym, ap, ◌∙◌}
use Rattle.elem_descr.specs.Words.{is_ascii_digit, list_all, all_ascii_digits, digits_decimal, digits_value-decimal, IsNumeralModel, numerals_by_fold, tells_all_ascii_digits}
use Rattle.elem_descr.specs.TypeStrings.{value_of}

-- texts of digits and their values are a model of the numerals of std
abbrev read_on : ℕ → List ℕ → ℕ
read_on n digits = fold (λ n d. n * 10 + (d - 48)) n digits

numerals : IsNumeralModel (λ digits. all_ascii_digits digits ≡ true) value_of
numerals = numerals_by_fold _ tells_all_ascii_digits read_on (record { empty = λ n. refl; more = λ n c cs digit. refl })

all_digits : (text : List ℕ) → all_ascii_digits text ≡ list_all is_ascii_digit text
all_digits [] = refl
all_digits (b ∷ text) = ap (λ others. is_ascii_digit b && others) (all_digits text)

-- a number written in decimal consists of digits
pub digits-decimal : (n : ℕ) → n < 2 ^ 64 → list_all is_ascii_digit (decimal n) ≡ true
digits-decimal n small = sym (all_digits (decimal n)) ∙ digits_decimal numerals n small

-- a number written in decimal has its value
pub value_of-decimal : (n : ℕ) → n < 2 ^ 64 → value_of (decimal n) ≡ n
value_of-decimal n small = digits_value-decimal numerals n small
