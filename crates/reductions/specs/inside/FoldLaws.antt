-- Reductions that are made number by number.
use Rattle.std.specs.Prelude.{◌≡◌, ◌+◌, ◌*◌, ◌%◌, ◌<◌, ◌^◌, ℕ, ℤ, pos, ◌+ℤ◌, ◌*ℤ◌, true, false, Bool, List, [], ◌∷◌, ◌++◌, unsigned_abs, nat_eq, not, ◌==◌, if◌then◌else◌}
use Rattle.std.proofs.Common.{refl, sym, ap, ◌∙◌}
use Rattle.reductions.specs.Words.{int_wrap, cast_signed, cast_unsigned, int_eq, of_z-to_z, int_wrap-add_left, int_wrap-add_right, int_wrap-mul_left, int_wrap-mul_right, wrapping_add-bits, wrapping_mul-bits, mod-lt, pow_pos, w64, list_any, list_all, fold-append, signed_Decides, false_from_ne_true, eqb-true, AreBits, little, Little, Eight, Scalar, Byte, Int, Bytes, number, size, number_of, number_in, bytes_of, integer, low_bits, wrap, low_bits-lt, low_bits-integer, Red, Sum, Product, Any, All, BoolScalar}
use Rattle.reductions.specs.Reductions.{wide, sum_of, product_of, is_true, result_scalar}
use Rattle.reductions.specs.inside.Numbers.{IsStored, IsReduced}

-- ---- the lowest 64 bits of sums and products

by_signed : (m n : ℕ) → m < 2 ^ 64 → n < 2 ^ 64 → cast_signed w64 m ≡ cast_signed w64 n → m ≡ n
by_signed m n low low' same = sym (of_z-to_z w64 m low) ∙ ap (cast_unsigned w64) same ∙ of_z-to_z w64 n low'

pub sum_bits : (a b : ℤ) → low_bits 8 (a +ℤ b) ≡ (low_bits 8 a + low_bits 8 b) % 2 ^ 64
unfolding int_wrap
sum_bits a b =
    by_signed (low_bits 8 (a +ℤ b)) ((low_bits 8 a + low_bits 8 b) % 2 ^ 64) (low_bits-lt 8 (a +ℤ b)) (mod-lt (low_bits 8 a + low_bits 8 b) (pow_pos 64))
    (sym (int_wrap-add_left w64 a b) ∙ sym (int_wrap-add_right w64 (int_wrap w64 a) b) ∙ sym (wrapping_add-bits w64 (low_bits 8 a) (low_bits 8 b) (low_bits-lt 8 a) (low_bits-lt 8 b)))

pub product_bits : (a b : ℤ) → low_bits 8 (a *ℤ b) ≡ (low_bits 8 a * low_bits 8 b) % 2 ^ 64
unfolding int_wrap
product_bits a b =
    by_signed (low_bits 8 (a *ℤ b)) ((low_bits 8 a * low_bits 8 b) % 2 ^ 64) (low_bits-lt 8 (a *ℤ b)) (mod-lt (low_bits 8 a * low_bits 8 b) (pow_pos 64))
    (sym (int_wrap-mul_left w64 a b) ∙ sym (int_wrap-mul_right w64 (int_wrap w64 a) b) ∙ sym (wrapping_mul-bits w64 (low_bits 8 a) (low_bits 8 b) (low_bits-lt 8 a) (low_bits-lt 8 b)))

-- ---- totals in the type of the result

bits_of : (m n : ℕ) → number (pos m) ≡ number (pos n) → m ≡ n
bits_of m n same = ap (λ value. unsigned_abs (number_of value)) same

pub wide_total : (signed : Bool) (bytes : List ℕ) (n : ℕ) → n < 2 ^ 64 → IsStored (Int false Eight Little) (pos n) bytes → IsStored (Int signed Eight Little) (integer signed 8 n) bytes
wide_total signed bytes n low is = record {
  value = ap (λ m. number (integer signed 8 m)) (bits_of (number_in Little 8 bytes) n is.value);
  exact = is.exact ∙ ap (bytes_of Little 8) (low_bits-integer false 8 n low ∙ sym (low_bits-integer signed 8 n low));
}

wrapped : (scalar : Scalar) (bytes : List ℕ) (z : ℤ) → IsStored (Int false Eight Little) (pos (low_bits 8 z)) bytes → IsStored (wide scalar) (wrap (wide scalar) z) bytes
wrapped BoolScalar bytes z is = wide_total true bytes (low_bits 8 z) (low_bits-lt 8 z) is
wrapped (Byte signed) bytes z is = wide_total signed bytes (low_bits 8 z) (low_bits-lt 8 z) is
wrapped (Int signed width order) bytes z is = wide_total signed bytes (low_bits 8 z) (low_bits-lt 8 z) is
wrapped (Bytes n) bytes z is = wide_total true bytes (low_bits 8 z) (low_bits-lt 8 z) is

pub wide_size : (scalar : Scalar) → size (wide scalar) ≡ 8
wide_size BoolScalar = refl
wide_size (Byte signed) = refl
wide_size (Int signed width order) = refl
wide_size (Bytes n) = refl

-- a sum or a product
abbrev pub total_of : Bool → Red
total_of false = Sum
total_of true = Product

abbrev pub total : Bool → List ℤ → ℤ
total false = sum_of
total true = product_of

abbrev pub total_step : Bool → ℕ → ℕ → ℕ
total_step false m n = (m + n) % 2 ^ 64
total_step true m n = (m * n) % 2 ^ 64

pub total_next : (product : Bool) (held bits : ℕ) (z : ℤ) (seen : List ℤ) → held ≡ low_bits 8 (total product seen) → low_bits 8 z ≡ bits → total_step product held bits ≡ low_bits 8 (total product (seen ++ z ∷ []))
total_next false held bits z seen so_far is =
    (λ i. (so_far i + sym is i) % 2 ^ 64) ∙ sym (sum_bits (sum_of seen) z) ∙ ap (low_bits 8) (sym (fold-append (λ sum value. sum +ℤ value) (pos 0) seen (z ∷ [])))
total_next true held bits z seen so_far is =
    (λ i. (so_far i * sym is i) % 2 ^ 64) ∙ sym (product_bits (product_of seen) z) ∙ ap (low_bits 8) (sym (fold-append (λ product value. product *ℤ value) (pos 1) seen (z ∷ [])))

pub total_is : (product : Bool) (scalar : Scalar) (bytes : List ℕ) (numbers : List ℤ) → IsStored (Int false Eight Little) (pos (low_bits 8 (total product numbers))) bytes → IsReduced (total_of product) scalar numbers bytes
total_is false scalar bytes numbers is = wrapped scalar bytes (sum_of numbers) is
total_is true scalar bytes numbers is = wrapped scalar bytes (product_of numbers) is

pub total_size : (product : Bool) (scalar : Scalar) → size (result_scalar (total_of product) scalar) ≡ 8
total_size false scalar = wide_size scalar
total_size true scalar = wide_size scalar

pub little_size : (scalar : Scalar) → size (little scalar) ≡ size scalar
little_size BoolScalar = refl
little_size (Byte signed) = refl
little_size (Int signed width order) = refl
little_size (Bytes n) = refl

-- ---- bools

abbrev pub truth_of : Bool → Red
truth_of false = Any
truth_of true = All

abbrev pub truth : Bool → List ℤ → Bool
truth false = list_any is_true
truth true = list_all is_true

pub truth_is : (all : Bool) (scalar : Scalar) (bytes : List ℕ) (numbers : List ℤ) → IsStored BoolScalar (if truth all numbers then pos 1 else pos 0) bytes → IsReduced (truth_of all) scalar numbers bytes
truth_is false scalar bytes numbers is = is
truth_is true scalar bytes numbers is = is

pub truth_size : (all : Bool) (scalar : Scalar) → size (result_scalar (truth_of all) scalar) ≡ 1
truth_size false scalar = refl
truth_size true scalar = refl

pub is_true_bits : (bits : ℕ) (z : ℤ) → AreBits bits z → not (bits == 0) ≡ is_true z
is_true_bits bits z are =
    elim (nat_eq bits 0) as (λ t. nat_eq bits 0 ≡ t → not t ≡ is_true z) [
      | true ↦ λ e. let zero' : int_eq z (pos 0) ≡ true = (signed_Decides z (pos 0)).1 (are.zero (eqb-true bits 0 e)) in rw zero' refl
      | false ↦ λ e.
          let other : int_eq z (pos 0) ≡ false = false_from_ne_true (int_eq z (pos 0)) (λ same. let none : bits ≡ 0 = sym are.low ∙ ap (low_bits 8) ((signed_Decides z (pos 0)).0 same) in no_zero bits e none) in
          rw other refl
    ] refl
  where
    no_zero : (bits : ℕ) → nat_eq bits 0 ≡ false → bits ≡ 0 → ⊥
    no_zero bits e none = let is : false ≡ true = sym e ∙ ap (λ b. nat_eq b 0) none in absurd (cc)
